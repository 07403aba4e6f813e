-- Frames for pages that are staged one after the other.
use Rattle.std.proofs.Common.{◌≡◌, inl, inr, ℕ, ◌+◌, ◌<◌, ◌≤◌, ◌==◌, Bool, true, false, cond, List, [], ◌∷◌, length, refl, ap, sym, subst, ◌∙◌, arith}
use Rattle.std.specs.Prelude.{Contains, count_by, not}
use Rattle.std.specs.List.{list_any}
use Rattle.std.proofs.lemmas.Bool.{cases_Bool, cases_eq}
use Rattle.std.proofs.lemmas.Bool.Decides.{nat_tests}
use Rattle.std.proofs.lemmas.List.Sums.{sum_by-cons}
use Rattle.card_types.proofs.Members.{contains_cases, contains_first, contains_later}
use Rattle.rec_store.specs.Room.{HasFrame, HasFramesFor, with_staged}

-- counts of two tests, of which the first is true wherever the second is
cond_fewer : (a b : Bool) → (b ≡ true → a ≡ true) → cond b 1 0 ≤ cond a 1 0
cond_fewer true true each = omega arith
cond_fewer true false each = omega arith
cond_fewer false true each = absurd (cc (each refl))
cond_fewer false false each = omega arith

module _ (p q : ℕ → Bool) (each : (x : ℕ) → q x ≡ true → p x ≡ true) where
  fewer : (xs : List ℕ) → count_by q xs ≤ count_by p xs
  fewer [] = omega arith
  fewer (x ∷ xs) = omega (arith, fewer xs, cond_fewer (p x) (q x) (each x), sum_by-cons (λ x. cond (q x) 1 0) x xs, sum_by-cons (λ x. cond (p x) 1 0) x xs)

  -- the second counts fewer where the first alone is true of a member
  fewer_by_one : (y : ℕ) → p y ≡ true → q y ≡ false → (xs : List ℕ) → Contains xs y → count_by q xs < count_by p xs
  fewer_by_one y fits misfit [] (k, within, is) = absurd (omega (arith, within))
  fewer_by_one y fits misfit (x ∷ xs) among = elim (contains_cases x xs y among) [
    | inl same ↦
        (let number : Bool → ℕ = λ b. cond b 1 0 in
        let one : number (p x) ≡ number true = ap number (ap p same ∙ fits) in
        let none : number (q x) ≡ number false = ap number (ap q same ∙ misfit) in
        omega (arith, fewer xs, one, none, sum_by-cons (λ x. cond (q x) 1 0) x xs, sum_by-cons (λ x. cond (p x) 1 0) x xs))
    | inr later ↦ omega (arith, fewer_by_one y fits misfit xs later, cond_fewer (p x) (q x) (each x), sum_by-cons (λ x. cond (q x) 1 0) x xs, sum_by-cons (λ x. cond (p x) 1 0) x xs)
  ]

abbrev has : List ℕ → ℕ → Bool
has staged page = list_any (λ other. other == page) staged

contained : (staged : List ℕ) (page : ℕ) → has staged page ≡ true → Contains staged page
contained [] page there = absurd (cc there)
contained (first ∷ rest) page there = elim (cases_eq first page) [
  | inl same ↦ subst (Contains (first ∷ rest)) same (contains_first first rest)
  | inr other ↦ contains_later first rest page (contained rest page (grind (arith, nat_tests)))
]

-- a page that is staged already is staged once
stays : (staged : List ℕ) (page : ℕ) → has staged page ≡ true → with_staged staged page ≡ staged
stays [] page there = absurd (cc there)
stays (first ∷ rest) page there = elim (cases_eq first page) [
  | inl same ↦ grind (arith, nat_tests)
  | inr other ↦ (let later : with_staged rest page ≡ rest = stays rest page (grind (arith, nat_tests)) in grind (arith, nat_tests))
]

one_more : (staged : List ℕ) (page : ℕ) → length (with_staged staged page) ≤ length staged + 1
one_more [] page = omega arith
one_more (first ∷ rest) page = elim (cases_eq first page) [
  | inl same ↦ grind (arith, nat_tests)
  | inr other ↦ (let later = one_more rest page in grind (arith, nat_tests))
]

joins : (staged : List ℕ) (page : ℕ) → has (with_staged staged page) page ≡ true
joins [] page = grind (arith, nat_tests)
joins (first ∷ rest) page = elim (cases_eq first page) [
  | inl same ↦ grind (arith, nat_tests)
  | inr other ↦ (let later = joins rest page in grind (arith, nat_tests))
]

others_stay : (staged : List ℕ) (page other : ℕ) → has staged other ≡ true → has (with_staged staged page) other ≡ true
others_stay [] page other there = absurd (cc there)
others_stay (first ∷ rest) page other there = elim (cases_eq first page) [
  | inl same ↦ grind (arith, nat_tests)
  | inr apart ↦ elim (cases_eq first other) [
    | inl is ↦ grind (arith, nat_tests)
    | inr differs ↦ (let later = others_stay rest page other (grind (arith, nat_tests)) in grind (arith, nat_tests))
  ]
]

not_staged : (staged : List ℕ) (page other : ℕ) → not (has (with_staged staged page) other) ≡ true → not (has staged other) ≡ true
not_staged staged page other out = elim (cases_Bool (has staged other)) [
  | inl there ↦ absurd (cc (out, others_stay staged page other there))
  | inr gone ↦ ap not gone
]

pub room_stays : (pages staged : List ℕ) (page : ℕ) → HasFramesFor pages staged → Contains pages page → HasFrame staged page × HasFramesFor pages (with_staged staged page)
room_stays pages staged page room among = elim (cases_Bool (has staged page)) [
  | inl there ↦ (inl (contained staged page there), subst (HasFramesFor pages) (sym (stays staged page there)) room)
  | inr out ↦
      (let less = fewer_by_one (λ other. not (has staged other)) (λ other. not (has (with_staged staged page) other)) (not_staged staged page) page (ap not out) (ap not (joins staged page)) pages among in
      (inr (omega (arith, less, room)), omega (arith, less, room, one_more staged page)))
]
