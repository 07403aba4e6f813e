use Rattle.std.proofs.Common.{◌∷◌, [], ◌∙◌}
use Rattle.std.specs.List.{flat_map}
use Rattle.tokens_receipts.specs.Receipt.{with_length}
use Rattle.script_lines.proofs.install.Installation.command.Goals as goal

pub returns : goal.returns
returns c =
    let i = c.args.self.now in
    rw c.p1_of.ensures at c.install.ensures (i.file ∷ i.module ∷ i.aid ∷ i.privileges.items ∷ i.parameters.items ∷ [])
    (c.five_fields-fields.ensures.items
    ∙ (λ j. flat_map with_length
    (c.as_bytes.ensures.bytes j ∷ c.as_bytes-2.ensures.bytes j ∷ c.as_bytes-3.ensures.bytes j ∷ c.deref.ensures.0 j ∷ c.deref-2.ensures.0 j ∷ [])))
