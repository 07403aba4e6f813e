use Rattle.std.proofs.Common.{inl, inr, refl, sym, ◌∙◌}
use Rattle.std.proofs.lemmas.Bool.{false≢true}
use Rattle.card_types.proofs.SameAid.{same_aid_decides}
use Rattle.card_types.specs.Represents.{domain_aid, key_of}
use Rattle.content_rules.proofs.ExtraditionJudging.{approver_told, one_thing}
use Rattle.policy_slots.proofs.HoldsTold.{holds_told, lacks_told}
use Rattle.policy_slots.proofs.ThingsFound.{named_by_slot}
use Rattle.content_rules.proofs.extradition.is_unapprovable.Goals as goal

pub returns-then-not-holds : goal.returns-then-not-holds
returns-then-not-holds c page admitted acts is named = (
  λ so. absurd (false≢true so),
  λ fails. absurd (lacks_told page c.args.tables.now c.args.domain admitted acts _ c.holds.result (rw c.deref.ensures.value at c.holds.ensures) c.if-not-holds.true fails.0),
)

pub returns-then-eq : goal.returns-then-eq
returns-then-eq c page admitted acts is named = (
  λ so. (
    (holds_told page c.args.tables.now c.args.domain admitted acts _ c.holds.result (rw c.deref.ensures.value at c.holds.ensures)).0 c.if-not-holds.false,
    inl (one_thing page c.args.tables.now c.args.domain admitted acts c.args.request.now is
        ((same_aid_decides c.args.request.now.to c.args.request.now.aid).0 (sym c.eq.ensures ∙ c.if-eq.true))),
  ),
  λ fails. refl,
)

pub returns-in-Some : goal.returns-in-Some
returns-in-Some c page admitted acts is named =
    let tables = c.args.tables.now in
    let request = c.args.request.now in
    let aid = domain_aid tables.entries.items c.in-Some.verifier in
    let key = key_of tables.entries.items c.in-Some.field-0-1.now in
    let told = approver_told page tables c.args.domain admitted acts request is
    (λ same. (let hit = (same_aid_decides request.to request.aid).1 same in let clash = sym hit ∙ sym c.eq.ensures ∙ c.if-eq.false in cc))
    aid key (c.in-Some.ensures.some page admitted acts)
    c.is_at_or_above.result (c.is_at_or_above.ensures page admitted.at.registry aid request.to acts.says acts.well
    (named_by_slot tables c.in-Some.verifier c.in-Some.ensures.used) named) in (
      λ so. ((holds_told page tables c.args.domain admitted acts _ c.holds.result (rw c.deref.ensures.value at c.holds.ensures)).0 c.if-not-holds.false, told.0 so),
      λ fails. told.1 fails.1,
    )

pub returns-in-None : goal.returns-in-None
returns-in-None c page admitted acts is named = (
  λ so. (
    (holds_told page c.args.tables.now c.args.domain admitted acts _ c.holds.result (rw c.deref.ensures.value at c.holds.ensures)).0 c.if-not-holds.false,
    inr (inl (c.in-None.ensures.none page admitted acts)),
  ),
  λ fails. refl,
)
