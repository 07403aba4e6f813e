use Rattle.std.proofs.Common.{inl, inr, sym, ◌∙◌}
use Rattle.std.proofs.lemmas.Bool.{false≢true}
use Rattle.policy_slots.proofs.HoldsTold.{holds_named}
use Rattle.policy_rules.proofs.get_status.sees.Goals as goal

pub returns-then-is_in_tree : goal.returns-then-is_in_tree
returns-then-is_in_tree c page admitted named acts at_thing =
    (λ is. inl ((c.is_in_tree.ensures page admitted named acts at_thing).0 c.if-is_in_tree.true), λ seen. c.if-is_in_tree.true)

pub returns-else-is_in_tree : goal.returns-else-is_in_tree
returns-else-is_in_tree c page admitted named acts at_thing =
    let held_so = rw c.deref.ensures.value at c.holds.ensures in
    let by_name = holds_named page c.args.tables.now c.args.domain admitted acts (record { 0 = 0x000400 }) in (
      λ is. inr (sym by_name ∙ sym held_so ∙ is),
      λ sees. elim sees [
        | inl tree ↦ absurd (false≢true (sym c.if-is_in_tree.false ∙ (c.is_in_tree.ensures page admitted named acts at_thing).1 tree))
        | inr holds ↦ held_so ∙ by_name ∙ holds
      ],
    )
