use Rattle.std.proofs.Common.{List, ℕ, inl, inr, length, subst, sym, ◌∙◌}
use Rattle.std.proofs.lemmas.Bool.{eqb-true}
use Rattle.std.proofs.lemmas.List.{nil_from_length}
use Rattle.policy_machine.specs.Sound.{IsHashLength}
use Rattle.policy_slots.proofs.HoldsTold.{holds_told}
use Rattle.content_rules.proofs.install_load.is_unfit_hash.Goals as goal

pub returns-then-is_empty-clause-told : goal.returns-then-is_empty-clause-told
returns-then-is_empty-clause-told c page admitted given acts same =
    let hash = c.args.hash.now in
    let told = holds_told page c.args.tables.now c.args.domain admitted acts _ c.holds.result (rw c.deref.ensures.value at c.holds.ensures) in
    let none = sym same ∙ nil_from_length hash (eqb-true (length hash) 0 (sym c.is_empty.ensures ∙ c.if-is_empty.true)) in (
      λ so. inr (none, told.0 so),
      λ fails. elim fails [
        | inl other ↦ absurd (other (subst (λ (h : List ℕ). IsHashLength (length h)) same (c.is_hash.ensures.0 c.if-not-is_hash.false)))
        | inr bare ↦ told.1 bare.1
      ],
    )
