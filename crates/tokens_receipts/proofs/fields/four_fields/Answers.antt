use Rattle.std.proofs.Common.{◌∷◌, [], refl}
use Rattle.tokens_receipts.proofs.FieldAdded.{field_added}
use Rattle.tokens_receipts.proofs.fields.four_fields.Goals as goal

pub returns-clause-items : goal.returns-clause-items
returns-clause-items c =
    let a = c.args in
    let one = field_added [] a.first.now c.new-field.ensures c.push_field.ensures.added refl in
    let two = field_added (a.first.now ∷ []) a.second.now one c.push_field-2.ensures.added refl in
    let three = field_added (a.first.now ∷ a.second.now ∷ []) a.third.now two c.push_field-3.ensures.added refl in
    field_added (a.first.now ∷ a.second.now ∷ a.third.now ∷ []) a.fourth.now three c.push_field-4.ensures.added refl
