-- Keys that are put in the place of others, and their sequence counters, have an order.
use Rattle.std.proofs.Common.{◌≡◌, ◌≢◌, inl, inr, ℕ, ◌+◌, ◌<◌, Bool, true, false, ◌==◌, ◌&&◌, ◌++◌, List, [], ◌∷◌, sym, subst, arith}
use Rattle.std.specs.Prelude.{Contains, filter, not}
use Rattle.std.specs.Cmp.{IsTotalOrder}
use Rattle.std.specs.List.Sorted.{IsStrictlySortedBy}
use Rattle.std.specs.Ordering.{nat_cmp, ordering_then}
use Rattle.std.specs.declared.cmp.Ordering.{Ordering}
use Rattle.std.specs.declared.cmp.Ordering.TheVariants.{Equal}
use Rattle.std.proofs.lemmas.Bool.{and_from, cases_eq, cases_lt, eq-eqb, le-ltb, lt-ltb, not-true}
use Rattle.std.proofs.lemmas.List.Elements.{All-contains, Contains-append_cases}
use Rattle.std.proofs.lemmas.List.Sorted.{Contains-permutation, IsPermutation-cons, IsPermutation-refl, IsPermutation-sym, IsPermutation-trans}
use Rattle.std.proofs.lemmas.Map.Lookups.{exact_unsigned}
use Rattle.card_types.proofs.ChangeExists.{put_in}
use Rattle.card_types.proofs.KeyNames.{counter_order_total, key_order_total}
use Rattle.card_types.proofs.Members.{contains_cases, filtered}
use Rattle.card_types.proofs.NotAbove.{then_equal}
use Rattle.card_types.proofs.SameAid.{aid_equal_same, same_aid_decides}
use Rattle.card_types.proofs.SetMembers.{key_there}
use Rattle.policy_machine.specs.Prelude.{Counter, IsArranged, IsAscending, IsWellCounter, Key, Registry, Well, aid_order, counter_order, counters_but, counters_from, has_key_version, is_counter_numbered, is_key_numbered, key_order, keys_but, keys_from, same_aid}
use Rattle.policy_machine.proofs.Filtered.{any_there, filter_sorted}

module _ {X : Type 0} (order : X → X → Ordering) (total : IsTotalOrder order) where
  -- no two of the new things tie, and none with one that was there
  abbrev pub Apart : List X → List X → Type 0
  Apart [] base = Unit {0}
  Apart (x ∷ xs) base = ((y : X) → Contains (xs ++ base) y → order x y ≢ Equal) × Apart xs base

  pub put_all : (xs base : List X) → IsStrictlySortedBy order base → Apart xs base → (after : List X) × IsArranged order (xs ++ base) after
  put_all [] base sorted apart = (base, record { ascending = sorted; same = IsPermutation-refl base })
  put_all (x ∷ xs) base sorted apart =
      let rest = put_all xs base sorted apart.1 in
      let put = put_in order total x rest.0 rest.1.ascending
      (λ y there. apart.0 y (Contains-permutation rest.0 (xs ++ base) y (IsPermutation-sym (xs ++ base) rest.0 rest.1.same) there)) in (
        put.0,
        record {
          ascending = put.1.ascending;
          same = IsPermutation-trans (x ∷ (xs ++ base)) (x ∷ rest.0) put.0 (IsPermutation-cons x (xs ++ base) rest.0 rest.1.same) put.1.same;
        },
      )

-- keys that tie have one name, and so do counters
key_tie : (a b : Key) → key_order a b ≡ Equal → (a.owner ≡ b.owner) × (a.version ≡ b.version) × (a.identifier ≡ b.identifier)
key_tie a b tied =
    let owner = then_equal (aid_order a.owner b.owner) (ordering_then (nat_cmp a.version b.version) (nat_cmp a.identifier b.identifier)) tied in
    let rest = then_equal (nat_cmp a.version b.version) (nat_cmp a.identifier b.identifier) owner.1 in
    (aid_equal_same a.owner b.owner owner.0, exact_unsigned a.version b.version rest.0, exact_unsigned a.identifier b.identifier rest.1)

counter_tie : (a b : Counter) → counter_order a b ≡ Equal → (a.owner ≡ b.owner) × (a.version ≡ b.version)
counter_tie a b tied =
    let both = then_equal (aid_order a.owner b.owner) (nat_cmp a.version b.version) tied in
    (aid_equal_same a.owner b.owner both.0, exact_unsigned a.version b.version both.1)

is_of_name : (owner other : List ℕ) (version number : ℕ) → other ≡ owner → number ≡ version → (same_aid other owner && number == version) ≡ true
is_of_name owner other version number owned versioned =
    and_from (same_aid other owner) (number == version) ((same_aid_decides other owner).1 owned) (eq-eqb number version versioned)

-- The new key version number is the one replaced, or the domain has no keys with it.
module _ (registry : Registry) (well : Well registry) (ascending : IsAscending registry) (owner : List ℕ) (replaced version : ℕ)
    (free : version ≢ replaced → has_key_version registry owner version ≡ false) where
  abbrev stay : List Key
  stay = keys_but owner replaced registry.keys

  abbrev counters_stay : List Counter
  counters_stay = counters_but owner replaced registry.counters

  -- what stays has another version number
  others_stay : {X : Type 0} (things : List X) (numbered : ℕ → X → Bool)
      → ((thing : X) → Contains things thing → version ≢ replaced → numbered version thing ≡ true → ⊥)
      → (thing : X) → Contains (filter (λ other. not (numbered replaced other)) things) thing → numbered version thing ≡ true → ⊥
  others_stay things numbered none thing there is =
      let kept = filtered (λ other. not (numbered replaced other)) things thing there in
      elim (cases_eq version replaced) [
        | inl same ↦
            (let other = not-true (numbered replaced thing) kept.1 in
            let clash : numbered replaced thing ≡ true = subst (λ (v : ℕ). numbered v thing ≡ true) same is in cc)
        | inr differs ↦ none thing kept.0 differs is
      ]

  none_there : (key : Key) → Contains registry.keys key → version ≢ replaced → is_key_numbered owner version key ≡ true → ⊥
  none_there key there differs is = (let none = free differs in let some = any_there (is_key_numbered owner version) registry.keys key there is in cc)

  other_key : (key : Key) → Contains stay key → is_key_numbered owner version key ≡ true → ⊥
  other_key = others_stay registry.keys (is_key_numbered owner) none_there

  other_counter : (counter : Counter) → Contains counters_stay counter → is_counter_numbered owner version counter ≡ true → ⊥
  other_counter = others_stay registry.counters (is_counter_numbered owner) (λ counter there differs is.
      (let first = key_there registry counter.owner counter.version 1 (All-contains (IsWellCounter registry) registry.counters counter well.counters there).set.first in
      none_there first.key first.is_there differs (subst (λ (o : List ℕ). (same_aid o owner && first.key.version == version) ≡ true) (sym first.owner_is)
      (subst (λ (v : ℕ). (same_aid counter.owner owner && v == version) ≡ true) (sym first.version_is) is))))

  not_later : (identifier at : ℕ) (keys : List (List ℕ)) (key : Key) → identifier < at → Contains (keys_from owner version at keys) key → identifier < key.identifier
  not_later identifier at [] key below there = (let low = there.1 in absurd (omega arith))
  not_later identifier at (bytes ∷ keys) key below there =
      elim (contains_cases (record { owner = owner; version = version; identifier = at; bytes = bytes }) (keys_from owner version (at + 1) keys) key there) [
        | inl same ↦ subst (λ (k : Key). identifier < k.identifier) same below
        | inr later ↦ not_later identifier (at + 1) keys key (omega arith) later
      ]

  keys_apart : (identifier : ℕ) (keys : List (List ℕ)) → Apart key_order key_order_total (keys_from owner version identifier keys) stay
  keys_apart identifier [] = tt
  keys_apart identifier (bytes ∷ keys) =
      let first : Key = record { owner = owner; version = version; identifier = identifier; bytes = bytes } in (
        (λ key there tied.
            (let names = key_tie first key tied in
            elim (Contains-append_cases (keys_from owner version (identifier + 1) keys) stay key there) [
              | inl new ↦
                  (let above = not_later identifier (identifier + 1) keys key (omega arith) new in
                  let same = names.2 in omega arith)
              | inr stays ↦ other_key key stays (is_of_name owner key.owner version key.version (sym names.0) (sym names.1))
            ])),
        keys_apart (identifier + 1) keys,
      )

  pub keys_arranged : (new : List (List ℕ)) → (keys : List Key) × IsArranged key_order (keys_from owner version 1 new ++ keys_but owner replaced registry.keys) keys
  keys_arranged new =
      put_all key_order key_order_total (keys_from owner version 1 new) stay
      (filter_sorted (λ key. not (is_key_numbered owner replaced key)) key_order registry.keys ascending.keys) (keys_apart 1 new)

  counter_apart : Apart counter_order counter_order_total (counters_from owner version) counters_stay
  counter_apart = elim (cases_lt version 0x70) [
    | inl below ↦ rw (lt-ltb version 0x70 below) (
      (λ counter there tied.
          (let names = counter_tie (record { owner = owner; version = version; number = 0 }) counter tied in
          other_counter counter there (is_of_name owner counter.owner version counter.version (sym names.0) (sym names.1)))),
      tt,
    )
    | inr above ↦ rw (le-ltb version 0x70 above) tt
  ]

  pub counters_arranged : (counters : List Counter)
      × IsArranged counter_order (counters_from owner version ++ counters_but owner replaced registry.counters) counters
  counters_arranged =
      put_all counter_order counter_order_total (counters_from owner version) counters_stay
      (filter_sorted (λ counter. not (is_counter_numbered owner replaced counter)) counter_order registry.counters ascending.counters) counter_apart
