use Rattle.std.proofs.Common.{◌≡◌, ℕ, List, Some, inl, inr, sym, ◌∙◌}
use Rattle.std.specs.Prelude.{◌↔◌, IsTrue}
use Rattle.card_types.specs.declared.found.Found.TheVariants.{Entry}
use Rattle.domain_tree.proofs.AboveNamed.{free_of_loops}
use Rattle.policy_rules.specs.Prelude.{ActsIn, Admitted, IsAboveIn, acting, aid_of}
use Rattle.policy_slots.proofs.ChargeNamed.{above_alike}
use Rattle.policy_slots.proofs.HoldsTold.{holds_told}
use Rattle.policy_slots.proofs.ThingsFound.{acting_named}
use Rattle.policy_rules.proofs.entry_status.may_lock.Goals as goal
use Rattle.policy_rules.proofs.entry_status.may_lock.Goals.{After-above}

-- the domain is above the entry by slots exactly where it is by names
above_told : (c : After-above) (page : ℕ → List ℕ) (admitted : Admitted) (aid : List ℕ) → ActsIn page c.args.tables.now c.args.domain admitted
    → aid_of c.args.tables.now (Entry c.args.slot) ≡ Some aid → IsTrue c.above.result ↔ IsAboveIn admitted.at.registry (acting admitted) aid
above_told c page admitted aid acts named =
    let tables = c.args.tables.now in
    let told = rw c.deref.ensures.value at c.above.ensures in
    let alike = above_alike page tables admitted.at.registry acts.says acts.well c.args.domain c.args.slot (acting admitted) aid
    (acting_named page tables c.args.domain admitted acts) named in
    ((λ so. alike.0 (told.0 so)), (λ above. told.1 (alike.1 above)))

pub above-requires-clause-no_loops : goal.above-requires-clause-no_loops
above-requires-clause-no_loops c =
    let order = c.requires.in_order in
    rw c.deref.ensures.value (free_of_loops order.page c.args.tables.now order.said order.says order.well)

pub returns-then-above : goal.returns-then-above
returns-then-above c page admitted aid acts named =
    let told = above_told (goal.at.returns-then-above c).After-above page admitted aid acts named in
    ((λ so. inl (told.0 c.if-above.true)), (λ may. c.if-above.true))

pub returns-else-above : goal.returns-else-above
returns-else-above c page admitted aid acts named =
    let told = above_told (goal.at.returns-else-above c).After-above page admitted aid acts named in
    let held = holds_told page c.args.tables.now c.args.domain admitted acts _ c.holds.result (rw c.deref-else-above.ensures.value at c.holds.ensures) in (
      λ so. inr (held.0 so),
      λ may. elim may [
        | inl above ↦ (let clash = sym (told.1 above) ∙ c.if-above.false in cc)
        | inr holds ↦ held.1 holds
      ],
    )
