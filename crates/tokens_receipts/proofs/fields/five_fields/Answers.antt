use Rattle.std.proofs.Common.{◌∷◌, [], refl}
use Rattle.tokens_receipts.proofs.FieldAdded.{field_added}
use Rattle.tokens_receipts.proofs.fields.five_fields.Goals as goal

pub returns-clause-items : goal.returns-clause-items
returns-clause-items c =
    let a = c.args in
    field_added (a.first.now ∷ a.second.now ∷ a.third.now ∷ a.fourth.now ∷ []) a.fifth.now c.four_fields-field.ensures.items c.push_field.ensures.added refl
