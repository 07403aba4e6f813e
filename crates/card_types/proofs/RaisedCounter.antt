-- The registry in which the counter of one key set is one higher.
use Rattle.std.proofs.Common.{◌≡◌, inl, inr, ℕ, ◌+◌, ◌<◌, ◌≤◌, Bool, true, false, ◌==◌, ◌&&◌, List, [], ◌∷◌, Some, refl, ap, sym, subst, ◌∙◌, arith}
use Rattle.std.specs.Prelude.{Contains, map}
use Rattle.std.specs.Cmp.{IsTotalOrder}
use Rattle.std.specs.List.Sorted.{IsPermutation, IsStrictlySortedBy}
use Rattle.std.specs.Ordering.{ordering_reverse}
use Rattle.std.specs.declared.cmp.Ordering.{Ordering}
use Rattle.std.specs.declared.cmp.Ordering.TheVariants.{Less, Equal, Greater}
use Rattle.std.proofs.lemmas.Bool.{and_from, and_parts, cases_Bool, cond_both, eq-eqb, eqb-true}
use Rattle.std.proofs.lemmas.List.Elements.{All-contains, All-contains_itself, All-weaker}
use Rattle.std.proofs.lemmas.List.Sorted.{IsPermutation-cons, IsPermutation-middle, IsPermutation-trans}
use Rattle.card_types.specs.Aid.{same_aid}
use Rattle.card_types.specs.Registry.{counter_order, Counter, Entry, Key, LoadFile, Object, Registry, counter_named}
use Rattle.card_types.specs.RegistryChange.{IsReplaced}
use Rattle.card_types.specs.Counters.{raised_counter, with_counter_raised}
use Rattle.card_types.specs.Well.{IsWellCounter, IsWellEntry, IsWellFile, IsWellKey, IsWellObject, IsWholeSet, Well}
use Rattle.card_types.specs.declared.limits.TheConstants.{COUNTER_LIMIT}
use Rattle.card_types.proofs.KeyNames.{counter_order_total}
use Rattle.card_types.proofs.LeastOfList.{first_below, least_found, names_sorted, others_sorted}
use Rattle.card_types.proofs.Members.{contains_cases, contains_first, contains_later, contains_map, mapped}
use Rattle.card_types.proofs.SameAid.{aid_same_equal, same_aid_decides}
use Rattle.card_types.proofs.SetMembers.{HasCounterOf, counter_is_named, counter_there}
use Rattle.card_types.proofs.SetNames.{same_number}

-- A list in which one thing alone is changed.
module _ {X : Type 0} (order : X → X → Ordering) (total : IsTotalOrder order) (f : X → X) (fits : X → Bool) (kept : (x : X) → fits x ≡ false → f x ≡ x) where
  -- nothing changes after the one that fits
  none_after : (x : X) → ((y : X) → fits y ≡ true → order x y ≡ Equal) → (ys : List X) → ((y : X) → Contains ys y → order x y ≡ Less) → map f ys ≡ ys
  none_after x alone [] below = refl
  none_after x alone (y ∷ ys) below =
      let rest = none_after x alone ys (λ z there. below z (contains_later y ys z there)) in
      let first : f y ≡ y = elim (cases_Bool (fits y)) [
        | inl fit ↦ (let tied = alone y fit in let less = below y (contains_first y ys) in cc)
        | inr misfit ↦ kept y misfit
      ] in
      rw (first, rest)

  pub one_changed : (x : X) (xs : List X) → ((y : X) → fits y ≡ true → order x y ≡ Equal) → IsStrictlySortedBy order xs → Contains xs x
      → IsPermutation (f x ∷ xs) (x ∷ map f xs)
  one_changed x [] alone sorted there = absurd (omega (arith, there.1))
  one_changed x (y ∷ ys) alone sorted there = elim (contains_cases y ys x there) [
    | inl same ↦
        (let behind : map f ys ≡ ys = none_after x alone ys (λ z later. ap (λ a. order a z) (sym same) ∙ first_below order y ys sorted z later) in
        rw (behind, same) (IsPermutation-middle (f x ∷ []) x ys))
    | inr later ↦
        (let first : f y ≡ y = elim (cases_Bool (fits y)) [
          | inl fit ↦
              (let tied = alone y fit in
              let above : order x y ≡ Greater = total.antisymm x y ∙ ap ordering_reverse (first_below order y ys sorted x later) in cc)
          | inr misfit ↦ kept y misfit
        ] in
        let rest = one_changed x ys alone (others_sorted order y ys sorted) later in
        rw first (IsPermutation-trans _ _ _ (IsPermutation-middle (f x ∷ []) y ys)
        (IsPermutation-trans _ _ _ (IsPermutation-cons y _ _ rest) (IsPermutation-middle (y ∷ []) x (map f ys)))))
  ]

module _ (owner : List ℕ) (version : ℕ) where
  -- the counter of the key set
  abbrev pub is_of_set : Counter → Bool
  is_of_set counter = same_aid counter.owner owner && counter.version == version

  other_kept : (counter : Counter) → is_of_set counter ≡ false → raised_counter owner version counter ≡ counter
  other_kept counter other = rw other refl

  set_raised : (counter : Counter) → is_of_set counter ≡ true → raised_counter owner version counter ≡ record counter { number = counter.number + 1 }
  set_raised counter fits = rw fits refl

  names_of : (counter : Counter) → is_of_set counter ≡ true → (counter.owner ≡ owner) × (counter.version ≡ version)
  names_of counter fits =
      let parts = and_parts (same_aid counter.owner owner) (counter.version == version) fits in
      ((same_aid_decides counter.owner owner).0 parts.0, eqb-true counter.version version parts.1)

  of_set : (counter : Counter) → counter.owner ≡ owner → counter.version ≡ version → is_of_set counter ≡ true
  of_set counter owned versioned =
      and_from (same_aid counter.owner owner) (counter.version == version) ((same_aid_decides counter.owner owner).1 owned) (eq-eqb counter.version version versioned)

module _ (registry : Registry) (owner : List ℕ) (version : ℕ) where
  -- no two counters of the key set differ in their names
  set_ties : (counter : Counter) → counter.owner ≡ owner → counter.version ≡ version → (other : Counter) → is_of_set owner version other ≡ true → counter_order counter other ≡ Equal
  set_ties counter owned versioned other fits =
      let names = names_of owner version other fits in
      rw (aid_same_equal counter.owner other.owner (owned ∙ sym names.0), same_number counter.version other.version (versioned ∙ sym names.1)) refl

  -- a counter is found by its names
  pub counter_found : IsStrictlySortedBy counter_order registry.counters → (counter : Counter) → Contains registry.counters counter
      → counter.owner ≡ owner → counter.version ≡ version → counter_named registry owner version ≡ Some counter
  counter_found sorted counter there owned versioned =
      least_found counter_order counter_order_total (is_of_set owner version) registry.counters sorted counter there (of_set owner version counter owned versioned)
      (λ other among fits above. (let tied = set_ties counter owned versioned other fits in cc))

  -- the counters are those with that one change
  pub counters_replaced : (counter : Counter) → IsStrictlySortedBy counter_order registry.counters → Contains registry.counters counter
      → counter.owner ≡ owner → counter.version ≡ version
      → IsReplaced counter_order counter (record counter { number = counter.number + 1 }) registry.counters (with_counter_raised registry owner version).counters
  counters_replaced counter sorted there owned versioned = record {
    ascending = names_sorted counter_order (raised_counter owner version) registry.counters sorted;
    same = subst (λ (c : Counter). IsPermutation (c ∷ registry.counters) (counter ∷ map (raised_counter owner version) registry.counters))
        (set_raised owner version counter (of_set owner version counter owned versioned))
        (one_changed counter_order counter_order_total (raised_counter owner version) (is_of_set owner version) (other_kept owner version) counter registry.counters
        (set_ties counter owned versioned) sorted there);
  }

  has_counter_still : (domain : List ℕ) (number : ℕ) → HasCounterOf registry domain number → HasCounterOf (with_counter_raised registry owner version) domain number
  has_counter_still domain number has = record {
    counter = raised_counter owner version has.counter;
    is_there = contains_map (raised_counter owner version) registry.counters has.counter has.is_there;
    owner_is = has.owner_is;
    version_is = has.version_is;
  }

  set_still : (domain : List ℕ) (number : ℕ) → IsWholeSet registry domain number → IsWholeSet (with_counter_raised registry owner version) domain number
  set_still domain number set = record {
    first = set.first;
    second = set.second;
    third = set.third;
    counter = counter_is_named (with_counter_raised registry owner version) domain number (has_counter_still domain number (counter_there registry domain number set.counter));
  }

  still_well_entry : (entry : Entry) → IsWellEntry registry entry → IsWellEntry (with_counter_raised registry owner version) entry
  still_well_entry entry is = record { proper = is.proper; domain = is.domain; line = is.line; loaded = is.loaded }

  still_well_file : (file : LoadFile) → IsWellFile registry file → IsWellFile (with_counter_raised registry owner version) file
  still_well_file file is = record { aid = is.aid; apart = is.apart; domain = is.domain; size = is.size }

  still_well_key : (key : Key) → IsWellKey registry key → IsWellKey (with_counter_raised registry owner version) key
  still_well_key key is = record { owner = is.owner; size = is.size; size_of_set = is.size_of_set; name = is.name; whole = λ below. set_still key.owner key.version (is.whole below) }

  still_well_object : (object : Object) → IsWellObject registry object → IsWellObject (with_counter_raised registry owner version) object
  still_well_object object is = record { owner = is.owner; form = is.form }

  -- where a next number comes after that of the key set, the registry is well with it
  module _ (next : (counter : Counter) → Contains registry.counters counter → counter.owner ≡ owner → counter.version ≡ version → counter.number < COUNTER_LIMIT) where
    still_well_counter : (counter : Counter) → Contains registry.counters counter → IsWellCounter registry counter
        → IsWellCounter (with_counter_raised registry owner version) (raised_counter owner version counter)
    still_well_counter counter there is = record {
      set = set_still counter.owner counter.version is.set;
      version = is.version;
      number = cond_both (is_of_set owner version counter) (counter.number + 1) counter.number (λ n. n ≤ COUNTER_LIMIT)
          (λ fits. (let names = names_of owner version counter fits in omega (arith, next counter there names.0 names.1)))
          (λ misfit. is.number);
    }

    pub raised_well : Well registry → Well (with_counter_raised registry owner version)
    raised_well well = record {
      few_entries = well.few_entries;
      few_files = well.few_files;
      few_keys = well.few_keys;
      few_objects = well.few_objects;
      few_pages = well.few_pages;
      few_keys_each = well.few_keys_each;
      issuer = well.issuer;
      factory_file = well.factory_file;
      entries = All-weaker (IsWellEntry registry) (IsWellEntry (with_counter_raised registry owner version)) still_well_entry registry.entries well.entries;
      files = All-weaker (IsWellFile registry) (IsWellFile (with_counter_raised registry owner version)) still_well_file registry.files well.files;
      keys = All-weaker (IsWellKey registry) (IsWellKey (with_counter_raised registry owner version)) still_well_key registry.keys well.keys;
      counters = All-weaker (Contains (map (raised_counter owner version) registry.counters)) (IsWellCounter (with_counter_raised registry owner version))
          (λ counter there.
          (let from = mapped (raised_counter owner version) registry.counters counter there in
          subst (IsWellCounter (with_counter_raised registry owner version)) from.2
          (still_well_counter from.0 from.1 (All-contains (IsWellCounter registry) registry.counters from.0 well.counters from.1))))
          (map (raised_counter owner version) registry.counters)
          (All-contains_itself (map (raised_counter owner version) registry.counters));
      objects = All-weaker (IsWellObject registry) (IsWellObject (with_counter_raised registry owner version)) still_well_object registry.objects well.objects;
    }

  -- where the counter is found and has a next number, the registry is well with it
  pub raised_found_well : IsStrictlySortedBy counter_order registry.counters → (counter : Counter) → counter_named registry owner version ≡ Some counter
      → counter.number < COUNTER_LIMIT → Well registry → Well (with_counter_raised registry owner version)
  raised_found_well sorted counter found below = raised_well (λ other there owned versioned.
      (let alike : counter ≡ other = (let also = counter_found sorted other there owned versioned in cc) in
      subst (λ (c : Counter). c.number < COUNTER_LIMIT) alike below))
