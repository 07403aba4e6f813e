-- More names than members have one that is no member.
use Rattle.std.proofs.Common.{◌≡◌, inl, inr, ℕ, zero, suc, ◌<◌, ◌≤◌, zero-le, List, [], ◌∷◌, length, refl, ap, sym, subst, ◌∙◌, arith}
use Rattle.std.specs.Prelude.{Contains}
use Rattle.card_types.proofs.Members.{contains_cases, contains_first, contains_later}

module _ {X : Type 0} where
  -- the list without one member, which has all others
  without_one : (xs : List X) (x : X) → Contains xs x
      → (rest : List X) × (length xs ≡ suc (length rest)) × ((y : X) → Contains xs y → (y ≡ x → ⊥) → Contains rest y)
  without_one [] x (k, within, is) = absurd (omega arith)
  without_one (z ∷ zs) x there = elim (contains_cases z zs x there) [
    | inl same ↦ (
      zs,
      refl,
      λ y among other. elim (contains_cases z zs y among) [
        | inl first ↦ absurd (other (sym first ∙ same))
        | inr later ↦ later
      ],
    )
    | inr after ↦
        (let left = without_one zs x after in (
          z ∷ left.0,
          ap suc left.1,
          λ y among other. elim (contains_cases z zs y among) [
            | inl first ↦ subst (Contains (z ∷ left.0)) first (contains_first z left.0)
            | inr later ↦ contains_later z left.0 y (left.2 y later other)
          ],
        ))
  ]

  -- as many names as are all different are no more than the members, where each is one
  pub no_more_names : (name : ℕ → X) (count : ℕ) (xs : List X) → ((i j : ℕ) → i < count → j < count → name i ≡ name j → i ≡ j)
      → ((i : ℕ) → i < count → Contains xs (name i)) → count ≤ length xs
  no_more_names name zero xs apart among = zero-le
  no_more_names name (suc count) xs apart among =
      let left = without_one xs (name count) (among count (omega arith)) in
      let fewer : count ≤ length left.0 =
      no_more_names name count left.0 (λ i j below under. apart i j (omega arith) (omega arith))
      (λ i below. left.2 (name i) (among i (omega arith)) (λ same. (let clash = apart i count (omega arith) (omega arith) same in omega arith))) in
      omega (arith, fewer, left.1)
