use Rattle.std.proofs.Common.{sym, ◌∙◌}
use Rattle.std.proofs.lemmas.Bool.{false≢true}
use Rattle.card_types.proofs.SameAid.{same_aid_decides}
use Rattle.policy_machine.specs.Management.{acting}
use Rattle.content_rules.proofs.ExtraditionJudging.{one_thing, reach_told}
use Rattle.policy_slots.proofs.HoldsTold.{holds_told, lacks_told}
use Rattle.policy_slots.proofs.ThingsFound.{acting_named}
use Rattle.content_rules.proofs.extradition.is_out_of_reach.Goals as goal

pub returns-then-not-holds : goal.returns-then-not-holds
returns-then-not-holds c page admitted acts is named = (
  λ so. absurd (false≢true so),
  λ out. absurd (lacks_told page c.args.tables.now c.args.domain admitted acts _ c.holds.result (rw c.deref.ensures.value at c.holds.ensures) c.if-not-holds.true out.0),
)

pub returns-then-eq : goal.returns-then-eq
returns-then-eq c page admitted acts is named = (
  λ so. absurd (false≢true so),
  λ out. absurd (out.1.0 (one_thing page c.args.tables.now c.args.domain admitted acts c.args.request.now is
      ((same_aid_decides c.args.request.now.to c.args.request.now.aid).0 (sym c.eq.ensures ∙ c.if-eq.true)))),
)

pub returns : goal.returns
returns c page admitted acts is named =
    let tables = c.args.tables.now in
    let request = c.args.request.now in
    let told = reach_told page tables c.args.domain admitted acts request is
    (λ same. (let hit = (same_aid_decides request.to request.aid).1 same in let clash = sym hit ∙ sym c.eq.ensures ∙ c.if-eq.false in cc))
    c.is_at_or_above.result (c.is_at_or_above.ensures page admitted.at.registry (acting admitted) request.to acts.says acts.well
    (acting_named page tables c.args.domain admitted acts) named) in (
      λ so. ((holds_told page tables c.args.domain admitted acts _ c.holds.result (rw c.deref.ensures.value at c.holds.ensures)).0 c.if-not-holds.false, told.0 so),
      λ out. told.1 out.1,
    )
