-- Lists in which nothing comes twice: two with the same members are permutations of each other.
use Rattle.std.proofs.Common.{◌≡◌, inl, inr, ◌≤◌, List, [], ◌∷◌, ap, sym, subst, ◌∙◌, arith}
use Rattle.std.specs.Prelude.{Contains}
use Rattle.std.specs.Cmp.{Equal-is, IsTotalOrder}
use Rattle.std.specs.List.{remove, sum_by}
use Rattle.std.specs.List.Sorted.{IsPermutation, IsStrictlySortedBy}
use Rattle.std.specs.Ordering.{is_eq}
use Rattle.std.specs.declared.cmp.Ordering.{Ordering}
use Rattle.std.specs.declared.cmp.Ordering.TheVariants.{Equal}
use Rattle.std.proofs.lemmas.Bool.{cases_Bool}
use Rattle.std.proofs.lemmas.Cmp.{tied_itself}
use Rattle.std.proofs.lemmas.List.Sorted.{Contains-permutation, IsPermutation-cons, IsPermutation-refl, IsPermutation-remove, IsPermutation-sym, IsPermutation-trans, sum_by-IsPermutation}
use Rattle.std.proofs.lemmas.List.Sums.{sum_by-cons}
use Rattle.card_types.proofs.LeastOfList.{one_ties, tie}
use Rattle.card_types.proofs.Members.{contains_cases, contains_first, contains_later}

module _ {X : Type 0} (order : X → X → Ordering) (total : IsTotalOrder order) where
  -- at most one ties with any
  abbrev pub AtMostOnce : List X → Type 0
  AtMostOnce xs = (k : X) → sum_by (tie order total k) xs ≤ 1

  pub once_from_sorted : (xs : List X) → IsStrictlySortedBy order xs → AtMostOnce xs
  once_from_sorted xs sorted k = one_ties order total k xs sorted

  pub tie_at : (k x : X) → order x k ≡ Equal → tie order total k x ≡ 1
  tie_at k x tied = rw tied

  rest_once : (x : X) (xs : List X) → AtMostOnce (x ∷ xs) → AtMostOnce xs
  rest_once x xs once k = omega (arith, once k, sum_by-cons (tie order total k) x xs)

  -- a member that ties is counted
  pub counted : (k x : X) (xs : List X) → Contains xs x → order x k ≡ Equal → 1 ≤ sum_by (tie order total k) xs
  counted k x [] there tied = omega (arith, there.1)
  counted k x (y ∷ xs) there tied = elim (contains_cases y xs x there) [
    | inl same ↦
        (let one = tie_at k y (ap (λ z. order z k) same ∙ tied) in
        omega (arith, sum_by-cons (tie order total k) y xs))
    | inr later ↦
        (let rest = counted k x xs later tied in
        omega (arith, sum_by-cons (tie order total k) y xs))
  ]

  -- what is counted is a member that ties
  from_count : (k : X) (xs : List X) → 1 ≤ sum_by (tie order total k) xs → (x : X) × Contains xs x × (order x k ≡ Equal)
  from_count k [] one = absurd (omega arith)
  from_count k (y ∷ xs) one = elim (cases_Bool (is_eq (order y k))) [
    | inl ties ↦ (y, contains_first y xs, (Equal-is (order y k)).0 ties)
    | inr differs ↦
        (let none : tie order total k y ≡ 0 = rw differs in
        let later = from_count k xs (omega (arith, sum_by-cons (tie order total k) y xs)) in
        (later.0, contains_later y xs later.0 later.1, later.2))
  ]

  -- two members that tie are one
  one_member : (xs : List X) → AtMostOnce xs → (a b : X) → Contains xs a → Contains xs b → order a b ≡ Equal → a ≡ b
  one_member [] once a b in_a in_b tied = absurd (omega (arith, in_a.1))
  one_member (x ∷ xs) once a b in_a in_b tied = elim (contains_cases x xs a in_a) [
    | inl first ↦ elim (contains_cases x xs b in_b) [
      | inl second ↦ sym first ∙ second
      | inr later ↦
          (let one = tie_at b x (ap (λ z. order z b) first ∙ tied) in
          let two = counted b b xs later (tied_itself total b) in
          absurd (omega (arith, once b, sum_by-cons (tie order total b) x xs)))
    ]
    | inr later ↦ elim (contains_cases x xs b in_b) [
      | inl second ↦
          (let one = tie_at b x (ap (λ z. order z b) second ∙ tied_itself total b) in
          let two = counted b a xs later tied in
          absurd (omega (arith, once b, sum_by-cons (tie order total b) x xs)))
      | inr also ↦ one_member xs (rest_once x xs once) a b later also tied
    ]
  ]

  -- what is after the first is not the first
  other_after : (x z : X) (xs : List X) → AtMostOnce (x ∷ xs) → Contains xs z → x ≡ z → ⊥
  other_after x z xs once there same =
      let one = tie_at z x (ap (λ y. order y z) same ∙ tied_itself total z) in
      let two = counted z z xs there (tied_itself total z) in
      omega (arith, once z, sum_by-cons (tie order total z) x xs)

  pub same_members : (xs ys : List X) → AtMostOnce xs → AtMostOnce ys → ((z : X) → Contains xs z → Contains ys z)
      → ((z : X) → Contains ys z → Contains xs z) → IsPermutation xs ys
  same_members [] [] once_x once_y to from = IsPermutation-refl []
  same_members [] (y ∷ ys) once_x once_y to from = (let there = from y (contains_first y ys) in absurd (omega (arith, there.1)))
  same_members (x ∷ xs) ys once_x once_y to from =
      let place = to x (contains_first x xs) in
      let rest = remove ys place.0 in
      let out : IsPermutation ys (x ∷ rest) = IsPermutation-remove ys place.0 x place.1 (sym place.2) in
      let once : AtMostOnce (x ∷ rest) = λ k. omega (arith, once_y k, sum_by-IsPermutation (tie order total k) ys (x ∷ rest) out) in
      let behind = same_members xs rest (rest_once x xs once_x) (rest_once x rest once)
      (λ z there. elim (contains_cases x rest z (Contains-permutation ys (x ∷ rest) z out (to z (contains_later x xs z there)))) [
        | inl same ↦ absurd (other_after x z xs once_x there same)
        | inr later ↦ later
      ])
      (λ z there. elim (contains_cases x xs z (from z (Contains-permutation (x ∷ rest) ys z (IsPermutation-sym ys (x ∷ rest) out) (contains_later x rest z there)))) [
        | inl same ↦ absurd (other_after x z rest once there same)
        | inr later ↦ later
      ]) in
      IsPermutation-trans (x ∷ xs) (x ∷ rest) ys (IsPermutation-cons x xs rest behind) (IsPermutation-sym ys (x ∷ rest) out)

  -- what is after the one that both begin with
  moves : (x : X) (us vs : List X) → AtMostOnce us → AtMostOnce vs → IsPermutation (x ∷ us) (x ∷ vs) → (z : X) → Contains us z → Contains vs z
  moves x us vs once_u once_v same z there = elim (contains_cases x vs z (Contains-permutation (x ∷ us) (x ∷ vs) z same (contains_later x us z there))) [
    | inr later ↦ later
    | inl first ↦
        (let one = counted z z us there (tied_itself total z) in
        let count : sum_by (tie order total z) us ≡ sum_by (tie order total z) vs =
        omega (arith, sum_by-IsPermutation (tie order total z) (x ∷ us) (x ∷ vs) same, sum_by-cons (tie order total z) x us, sum_by-cons (tie order total z) x vs) in
        let tied = from_count z vs (omega arith) in
        elim (contains_cases x us tied.0 (Contains-permutation (x ∷ vs) (x ∷ us) tied.0 (IsPermutation-sym (x ∷ us) (x ∷ vs) same) (contains_later x vs tied.0 tied.1))) [
          | inl alike ↦ subst (Contains vs) (sym alike ∙ first) tied.1
          | inr among ↦ subst (Contains vs) (one_member us once_u tied.0 z among there tied.2) tied.1
        ])
  ]

  -- the first that two lists share may be left out
  pub without_first : (x : X) (us vs : List X) → AtMostOnce vs → IsPermutation (x ∷ us) (x ∷ vs) → IsPermutation us vs
  without_first x us vs once_v same =
      let once_u : AtMostOnce us = λ k.
      omega (arith, once_v k, sum_by-IsPermutation (tie order total k) (x ∷ us) (x ∷ vs) same, sum_by-cons (tie order total k) x us, sum_by-cons (tie order total k) x vs) in
      same_members us vs once_u once_v (moves x us vs once_u once_v same) (moves x vs us once_v once_u (IsPermutation-sym (x ∷ us) (x ∷ vs) same))
