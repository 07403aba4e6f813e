use Rattle.std.proofs.Common.{◌≡◌, Option, sym, subst, ◌∙◌, true}
use Rattle.std.specs.Prelude.{MatchOption}
use Rattle.card_types.specs.Registry.{Entry, is_domain}
use Rattle.policy_slots.proofs.ChargeNamed.{domain_by_slot}
use Rattle.policy_slots.proofs.charge.find_domain.Goals as goal

pub returns-in_default-clause-none : goal.returns-in_default-clause-none
returns-in_default-clause-none c page said says well domain =
    subst (λ (o : Option Entry). MatchOption o ⊥ (λ entry. is_domain entry ≡ true)) (c.in_default.ensures.none page said says well) domain

pub returns-then-not-holds-clause-none : goal.returns-then-not-holds-clause-none
returns-then-not-holds-clause-none c page said says well domain =
    let is = domain_by_slot page c.args.tables.now said says c.in-Some.slot c.args.aid.now c.holds.result c.in-Some.ensures.some (rw c.deref.ensures.value at c.holds.ensures) in
    let clash = sym (is.1 domain) ∙ c.if-not-holds.true in
    cc

pub returns-clause-domain : goal.returns-clause-domain
returns-clause-domain c page said says well =
    (domain_by_slot page c.args.tables.now said says c.in-Some.slot c.args.aid.now c.holds.result c.in-Some.ensures.some (rw c.deref.ensures.value at c.holds.ensures)).0 c.if-not-holds.false
