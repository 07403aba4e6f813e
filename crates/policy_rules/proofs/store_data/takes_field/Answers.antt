use Rattle.std.proofs.Common.{length, sym, ◌∙◌, ap}
use Rattle.std.specs.Prelude.{not}
use Rattle.std.proofs.lemmas.Bool.{eqb-true, false≢true}
use Rattle.policy_machine.proofs.StoreDataElements.{from_field}
use Rattle.policy_rules.proofs.store_data.takes_field.Goals as goal

pub returns-else-not-is_empty : goal.returns-else-not-is_empty
returns-else-not-is_empty c =
    let empty = eqb-true (length c.args.body.now) 0 (sym c.is_empty.ensures ∙ c.if-not-is_empty.false) in
    (λ is. absurd (false≢true (sym (ap not c.if-not-is_empty.false) ∙ is)), λ field. absurd ((from_field c.args.body.now field).0 empty))
