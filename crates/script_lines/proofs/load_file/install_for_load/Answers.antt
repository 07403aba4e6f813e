use Rattle.std.proofs.Common.{◌∷◌, [], ◌∙◌}
use Rattle.std.specs.List.{flat_map}
use Rattle.tokens_receipts.specs.Receipt.{with_length}
use Rattle.script_lines.specs.Life.{aid_or_none}
use Rattle.script_lines.proofs.load_file.install_for_load.Goals as goal

pub returns : goal.returns
returns c =
    c.install.ensures (c.args.file.now ∷ aid_or_none c.args.domain.now ∷ c.args.hash.now ∷ [] ∷ [])
    (c.four_fields-fields.ensures.items
    ∙ (λ j. flat_map with_length (c.as_bytes.ensures.bytes j ∷ c.name.ensures.name j ∷ c.args.hash.now ∷ [] ∷ [])))
