-- Pages that are staged while slots change, one after the other.
use Rattle.std.proofs.Common.{◌≡◌, ◌≢◌, ◌⊎◌, inl, inr, ℕ, ◌+◌, ◌<◌, ◌==◌, List, [], ◌∷◌, Option, None, ap, sym, subst, ◌∙◌, arith}
use Rattle.std.specs.Prelude.{Contains, slice_set}
use Rattle.std.proofs.lemmas.Bool.{cases_Bool}
use Rattle.std.proofs.lemmas.List.{get_or-set_other}
use Rattle.card_types.specs.Represents.{thing_in}
use Rattle.card_types.proofs.Members.{contains_cases, contains_first, contains_later}
use Rattle.rec_store.specs.Room.{with_staged}
use Rattle.registry.specs.Pages.{StagesChanged}

-- what is staged with a page
pub staged_before : (staged : List ℕ) (page other : ℕ) → Contains (with_staged staged page) other → Contains staged other ⊎ (page ≡ other)
staged_before [] page other there = elim (contains_cases page [] other there) [
  | inl same ↦ inr same
  | inr later ↦ inl later
]
staged_before (first ∷ rest) page other there = elim (cases_Bool (first == page)) [
  | inl same ↦ inl (rw same at there)
  | inr apart ↦ elim (contains_cases first (with_staged rest page) other (rw apart at there)) [
    | inl here ↦ inl (subst (Contains (first ∷ rest)) here (contains_first first rest))
    | inr later ↦ elim (staged_before rest page other later) [
      | inl old ↦ inl (contains_later first rest other old)
      | inr new ↦ inr new
    ]
  ]
]

-- Each page that is staged was staged, or a slot on it below the count holds another thing.
abbrev pub IsStaged : {T : Type 0} → (ℕ → ℕ) → List ℕ → List ℕ → List (Option T) → List (Option T) → ℕ → Type 0
IsStaged page_of before staged start now count =
    (page : ℕ) → Contains staged page → Contains before page ⊎ ((slot : ℕ) × (page_of slot ≡ page) × (slot < count) × (thing_in now slot ≢ thing_in start slot))

module _ {T : Type 0} (page_of : ℕ → ℕ) (before staged : List ℕ) (start now : List (Option T)) (slot : ℕ) (so_far : IsStaged page_of before staged start now slot) where
  pub passed_staged : IsStaged page_of before staged start now (slot + 1)
  passed_staged page there = elim (so_far page there) [
    | inl old ↦ inl old
    | inr new ↦ inr (new.0, new.1, omega (arith, new.2), new.3)
  ]

  pub changed_staged : StagesChanged page_of start now before staged
  changed_staged page there = elim (so_far page there) [
    | inl old ↦ inl old
    | inr new ↦ inr (new.0, new.1, new.3)
  ]

  -- the slot is changed, and its page is staged
  pub set_staged : (after : List (Option T)) (thing : Option T) (then : List ℕ) → after ≡ slice_set now slot thing → then ≡ with_staged staged (page_of slot)
      → thing_in after slot ≢ thing_in start slot → IsStaged page_of before then start after (slot + 1)
  set_staged after thing then set is differs page there = elim (staged_before staged (page_of slot) page (subst (λ (s : List ℕ). Contains s page) is there)) [
    | inl old ↦ elim (so_far page old) [
      | inl older ↦ inl older
      | inr new ↦
          (let kept : thing_in after new.0 ≡ thing_in now new.0 =
          ap (λ (s : List (Option T)). thing_in s new.0) set ∙ get_or-set_other now slot new.0 thing None (λ same. omega (arith, same, new.2)) in
          inr (new.0, new.1, omega (arith, new.2), λ same. new.3 (sym kept ∙ same)))
    ]
    | inr new ↦ inr (slot, new, omega arith, differs)
  ]
