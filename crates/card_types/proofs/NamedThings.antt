-- Things of a registry by their AIDs, and of a list with one more or one fewer.
use Rattle.std.proofs.Common.{◌≡◌, ◌≢◌, ◌⊎◌, inl, inr, ℕ, ◌≤◌, Bool, true, false, List, [], ◌∷◌, length, Option, None, Some, refl, ap, sym, subst, ◌∙◌, arith}
use Rattle.std.specs.Prelude.{Contains, MatchOption, filter, find, map, not}
use Rattle.std.specs.List.Sorted.{IsStrictlySortedBy}
use Rattle.std.proofs.lemmas.Bool.{cases_Bool, false_from_ne_true, not_from_false, not-true}
use Rattle.std.proofs.lemmas.Cmp.{nat_list_cmp_total, on_total}
use Rattle.std.proofs.lemmas.List.Elements.{All-contains}
use Rattle.std.proofs.lemmas.List.Filters.{length-filter_both}
use Rattle.std.proofs.lemmas.List.Kept.{IsStrictlySortedBy-filter}
use Rattle.std.proofs.lemmas.List.Sorted.{Contains-permutation, IsPermutation-sym}
use Rattle.card_types.proofs.ChangedFound.{kept_found, put_found}
use Rattle.card_types.proofs.LeastOfList.{found_fits, least_found, names_sorted, none_fits, none_found, sorted_by_name}
use Rattle.card_types.proofs.Members.{contains_cases, filtered}
use Rattle.card_types.proofs.SameAid.{aid_same_equal, aid_same_itself, same_aid_decides}
use Rattle.card_types.specs.Aid.{aid_order, same_aid}
use Rattle.card_types.specs.RegistryChange.{IsPut}
use Rattle.card_types.specs.ChangeLaws.{IsOfCard}
use Rattle.card_types.specs.Registry.{Entry, Registry, entry_named, is_domain}
use Rattle.card_types.specs.Well.{IsDomainNamed, IsWellEntry, LeadsToRoot}

-- an AID is this one or another
pub aid_cases : (x aid : List ℕ) → (x ≡ aid) ⊎ (x ≢ aid)
aid_cases x aid = elim (cases_Bool (same_aid x aid)) [
  | inl hit ↦ inl ((same_aid_decides x aid).0 hit)
  | inr missed ↦ inr (λ same. (let clash = sym ((same_aid_decides x aid).1 same) ∙ missed in cc))
]

-- an AID that is another is not the same
pub aid_differs : (a b : List ℕ) → a ≢ b → same_aid a b ≡ false
aid_differs a b other = false_from_ne_true (same_aid a b) (λ hit. other ((same_aid_decides a b).0 hit))

-- an entry is found by its AID
pub member_named : (registry : Registry) → IsOfCard registry → (entry : Entry) → Contains registry.entries entry → (aid : List ℕ)
    → same_aid entry.aid aid ≡ true → entry_named registry aid ≡ Some entry
member_named registry of entry there aid fits =
    least_found (λ (a b : Entry). aid_order a.aid b.aid) (on_total (λ (e : Entry). e.aid) nat_list_cmp_total) (λ e. same_aid e.aid aid) registry.entries
    (sorted_by_name aid_order (λ (e : Entry). e.aid) registry.entries of.ascending.entries) entry there fits
    (λ other among fit above.
    (let alike : entry.aid ≡ other.aid = (same_aid_decides entry.aid aid).0 fits ∙ sym ((same_aid_decides other.aid aid).0 fit) in
    let tied = aid_same_equal entry.aid other.aid alike in cc))

-- a domain that is named leads to a root
pub domain_leads : (registry : Registry) → IsOfCard registry → (domain : List ℕ) → IsDomainNamed registry domain → LeadsToRoot registry domain
domain_leads registry of domain named = by (entry_named registry domain) refl named
  where
    by : (o : Option Entry) → entry_named registry domain ≡ o → MatchOption o ⊥ (λ entry. is_domain entry ≡ true) → LeadsToRoot registry domain
    by None at is = absurd is
    by (Some entry) at is =
        (let found = found_fits (λ (e : Entry). same_aid e.aid domain) registry.entries entry at in
        subst (LeadsToRoot registry) ((same_aid_decides entry.aid domain).0 found.1) (All-contains (IsWellEntry registry) registry.entries entry of.well.entries found.0).line)

module _ {X : Type 0} (aid : X → List ℕ) where
  -- what another thing is put beside is found as before
  module _ (new : X) (before after : List X) (sorted : IsStrictlySortedBy aid_order (map aid before))
      (put : IsPut (λ a b. aid_order (aid a) (aid b)) new before after) where
    pub beside_found : (name : List ℕ) → aid new ≢ name → find (λ x. same_aid (aid x) name) after ≡ find (λ x. same_aid (aid x) name) before
    beside_found name other =
        kept_found (λ (a b : X). aid_order (aid a) (aid b)) (on_total aid nat_list_cmp_total) (λ x. same_aid (aid x) name) None (Some new) before after
        (sorted_by_name aid_order aid before sorted) put tt (aid_differs (aid new) name other)

    pub new_found : find (λ x. same_aid (aid x) (aid new)) after ≡ Some new
    new_found =
        put_found (λ (a b : X). aid_order (aid a) (aid b)) (on_total aid nat_list_cmp_total) (λ x. same_aid (aid x) (aid new)) new before after put
        (aid_same_itself (aid new)) (λ y fit. aid_same_equal (aid new) (aid y) (sym ((same_aid_decides (aid y) (aid new)).0 fit)))

    -- where none had its AID, what was found still is
    pub still_found : find (λ x. same_aid (aid x) (aid new)) before ≡ None → (P : X → Type 0) (name : List ℕ)
        → MatchOption (find (λ x. same_aid (aid x) name) before) ⊥ P → MatchOption (find (λ x. same_aid (aid x) name) after) ⊥ P
    still_found free P name is =
        subst (λ (o : Option X). MatchOption o ⊥ P) (sym (beside_found name (λ same.
        subst (λ (o : Option X). MatchOption o ⊥ P) (ap (λ (n : List ℕ). find (λ x. same_aid (aid x) n) before) (sym same) ∙ free) is))) is

    -- each one is the new one or was there
    pub new_or_old : (x : X) → Contains after x → (new ≡ x) ⊎ Contains before x
    new_or_old x there = contains_cases new before x (Contains-permutation after (new ∷ before) x (IsPermutation-sym (new ∷ before) after put.same) there)

  -- what is found in the rest, where what goes doesn't fit
  find_rest : (p q : X → Bool) → ((x : X) → p x ≡ true → q x ≡ true) → (xs : List X) → find p (filter q xs) ≡ find p xs
  find_rest p q stays [] = refl
  find_rest p q stays (x ∷ xs) = elim (cases_Bool (q x)) [
    | inl keep ↦
        (let rest = find_rest p q stays xs in
        elim (cases_Bool (p x)) [
          | inl fit ↦ rw (keep, fit)
          | inr misfit ↦ rw (keep, misfit) rest
        ])
    | inr go ↦ elim (cases_Bool (p x)) [
      | inl fit ↦ (let stay = stays x fit in cc)
      | inr misfit ↦ rw (go, misfit) (find_rest p q stays xs)
    ]
  ]

  -- what a filter keeps of the things
  module _ (keep : X → Bool) where
    pub found_kept : (p : X → Bool) (x : X) (xs : List X) → find p xs ≡ Some x → keep x ≡ true → find p (filter keep xs) ≡ Some x
    found_kept p x [] at stays = cc
    found_kept p x (y ∷ ys) at stays = elim (cases_Bool (p y)) [
      | inl fit ↦
          (let here : Some y ≡ Some x = rw fit at at in
          let same : y ≡ x = cc in
          rw (ap keep same ∙ stays, fit) here)
      | inr misfit ↦
          (let rest = found_kept p x ys (rw misfit at at) stays in
          elim (cases_Bool (keep y)) [
            | inl kept ↦ rw (kept, misfit) rest
            | inr gone ↦ rw gone rest
          ])
    ]

    pub unfound_kept : (p : X → Bool) (xs : List X) → find p xs ≡ None → find p (filter keep xs) ≡ None
    unfound_kept p xs none = none_found p (filter keep xs) (λ y there. none_fits p xs none y (filtered keep xs y there).0)

    pub sorted_kept : (xs : List X) → IsStrictlySortedBy aid_order (map aid xs) → IsStrictlySortedBy aid_order (map aid (filter keep xs))
    sorted_kept xs sorted =
        names_sorted aid_order aid (filter keep xs) (IsStrictlySortedBy-filter (λ a b. aid_order (aid a) (aid b)) keep xs (sorted_by_name aid_order aid xs sorted))

    pub kept_shorter : (xs : List X) → length (filter keep xs) ≤ length xs
    kept_shorter xs = omega (arith, length-filter_both keep (λ x. not (keep x)) (λ _. refl) xs)

  -- the rest, without what has an AID
  module _ (gone : List ℕ) where
    abbrev pub rest_of : List X → List X
    rest_of xs = filter (λ x. not (same_aid (aid x) gone)) xs

    pub rest_found : (name : List ℕ) → name ≢ gone → (xs : List X) → find (λ x. same_aid (aid x) name) (rest_of xs) ≡ find (λ x. same_aid (aid x) name) xs
    rest_found name other xs =
        find_rest (λ x. same_aid (aid x) name) (λ x. not (same_aid (aid x) gone))
        (λ x fit. not_from_false (same_aid (aid x) gone) (aid_differs (aid x) gone (λ same. other (sym ((same_aid_decides (aid x) name).0 fit) ∙ same)))) xs

    pub rest_unfound : (name : List ℕ) (xs : List X) → find (λ x. same_aid (aid x) name) xs ≡ None → find (λ x. same_aid (aid x) name) (rest_of xs) ≡ None
    rest_unfound name xs none = unfound_kept (λ x. not (same_aid (aid x) gone)) (λ x. same_aid (aid x) name) xs none

    pub of_rest : (xs : List X) (x : X) → Contains (rest_of xs) x → Contains xs x × (aid x ≢ gone)
    of_rest xs x there =
        let kept = filtered (λ x. not (same_aid (aid x) gone)) xs x there in
        (kept.0, λ same. (let clash = sym ((same_aid_decides (aid x) gone).1 same) ∙ not-true (same_aid (aid x) gone) kept.1 in cc))

    pub rest_sorted : (xs : List X) → IsStrictlySortedBy aid_order (map aid xs) → IsStrictlySortedBy aid_order (map aid (rest_of xs))
    rest_sorted xs sorted = sorted_kept (λ x. not (same_aid (aid x) gone)) xs sorted

    pub rest_shorter : (xs : List X) → length (rest_of xs) ≤ length xs
    rest_shorter xs = kept_shorter (λ x. not (same_aid (aid x) gone)) xs
