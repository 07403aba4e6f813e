use Rattle.std.proofs.Common.{◌≡◌, ℕ, zero, suc, [], ◌∷◌, None, Some, replicate, refl, ap, arith}
use Rattle.card_types.specs.Represents.{thing_in}
use Rattle.card_types.specs.declared.tables.Entry.{Entry}
use Rattle.domain_tree.specs.Slots.{IsFreeOfLoops}
use Rattle.card_tests.proofs.domains.line.Goals as goal

none_held : {T : Type 0} (count slot : ℕ) (thing : T) → thing_in (replicate count None) slot ≡ Some thing → ⊥
none_held zero slot thing at = cc
none_held (suc count) zero thing at = cc
none_held (suc count) (suc slot) thing at = none_held count slot thing at

three_free : (a b c : Entry) → a.domain ≡ 0 → b.domain ≡ 2 → c.domain ≡ 0 → IsFreeOfLoops (Some a ∷ Some b ∷ Some c ∷ replicate 29 None)
three_free a b c of_a of_b of_c zero entry at = (0 ∷ [], (refl, ap Some of_a))
three_free a b c of_a of_b of_c (suc zero) entry at =
    (1 ∷ 2 ∷ 0 ∷ [], (refl, λ same. omega arith, ap Some of_b, (refl, λ same. omega arith, ap Some of_c, (refl, ap Some of_a))))
three_free a b c of_a of_b of_c (suc (suc zero)) entry at = (2 ∷ 0 ∷ [], (refl, λ same. omega arith, ap Some of_c, (refl, ap Some of_a)))
three_free a b c of_a of_b of_c (suc (suc (suc slot))) entry at = absurd (none_held 29 slot entry at)

pub returns : goal.returns
returns c = three_free _ _ _ refl refl refl
