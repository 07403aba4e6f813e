use Rattle.std.proofs.Common.{◌∷◌, [], ◌∙◌}
use Rattle.std.specs.List.{flat_map}
use Rattle.tokens_receipts.specs.Receipt.{with_length}
use Rattle.script_lines.proofs.selectable.command.Goals as goal

pub returns : goal.returns
returns c =
    c.install.ensures ([] ∷ [] ∷ c.args.aid.now ∷ [] ∷ [] ∷ [])
    (c.five_fields-fields.ensures.items ∙ (λ j. flat_map with_length ([] ∷ [] ∷ c.as_bytes.ensures.bytes j ∷ [] ∷ [] ∷ [])))
