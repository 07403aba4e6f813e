-- What is listed is a list: each thing of a registry is listed or not, so those that are can be put in order.
use Rattle.std.proofs.Common.{◌≡◌, ◌⊎◌, ◌↔◌, inl, inr, ℕ, Bool, true, false, List, [], ◌∷◌, Option, None, Some, refl, sym, subst, arith}
use Rattle.std.specs.Prelude.{Contains, MatchOption, map, nat_eq}
use Rattle.std.specs.List.{starts_with}
use Rattle.std.specs.List.Sorted.{IsStrictlySortedBy}
use Rattle.std.specs.Ordering.{on}
use Rattle.std.specs.declared.cmp.Ordering.{Ordering}
use Rattle.std.specs.declared.cmp.Ordering.TheVariants.{Less, Equal, Greater}
use Rattle.std.proofs.lemmas.Bool.Decides.{eqb_tells}
use Rattle.std.proofs.lemmas.List.Elements.{All-contains, All-contains_itself, All-weaker, recursion_from_All}
use Rattle.card_types.proofs.LeastOfList.{first_below, found_fits, names_sorted, others_sorted, sorted_by_name}
use Rattle.card_types.proofs.Members.{contains_cases, contains_first, contains_later, contains_map, mapped}
use Rattle.card_types.proofs.SameAid.{same_aid_decides}
use Rattle.policy_rules.specs.Prelude.{AFile, Above, AnEntry, Entry, IsAbove, IsAscending, IsAtOrAbove, IsDomainNamed, IsIn, IsLine, IsListed, IsListedBy, IsPath, IsWellEntry, IsWellFile, LeadsToRoot, Registry, Sees, Thing, Well, aid_in, aid_order, domain_of, entry_named, global_registry, is_domain, is_privileged, same_aid}
use Rattle.card_types.specs.declared.factory.TheConstants.{ISSUER}
use Rattle.domain_tree.proofs.Paths.{root_alone}

-- it is so or it is not
abbrev Decided : Type 0 → Type 0
Decided P = P ⊎ (P → ⊥)

both : {P Q : Type 0} → Decided P → Decided Q → Decided (P × Q)
both (inl p) (inl q) = inl (p, q)
both (inl p) (inr fails) = inr (λ pq. fails pq.1)
both (inr fails) q = inr (λ pq. fails pq.0)

one_of : {P Q : Type 0} → Decided P → Decided Q → Decided (P ⊎ Q)
one_of (inl p) q = inl (inl p)
one_of (inr fails) (inl q) = inl (inr q)
one_of (inr fails) (inr none) = inr (λ either. elim either [
  | inl p ↦ fails p
  | inr q ↦ none q
])

other_than : {P : Type 0} → Decided P → Decided (P → ⊥)
other_than (inl p) = inr (λ fails. fails p)
other_than (inr fails) = inl fails

is_true : (b : Bool) → Decided (b ≡ true)
is_true true = inl refl
is_true false = inr (λ same. cc)

same_number : (a b : ℕ) → Decided (a ≡ b)
same_number a b = elim (eqb_tells a b) [
  | inl same ↦ inl same.1
  | inr differs ↦ inr differs.1
]

same_name : (a b : List ℕ) → Decided (a ≡ b)
same_name a b = elim (is_true (same_aid a b)) [
  | inl yes_ ↦ inl ((same_aid_decides a b).0 yes_)
  | inr fails ↦ inr (λ same. fails ((same_aid_decides a b).1 same))
]

is_less : (o : Ordering) → Decided (o ≡ Less)
is_less Less = inl refl
is_less Equal = inr (λ same. cc)
is_less Greater = inr (λ same. cc)

above_given : (after : Option (List ℕ)) (aid : List ℕ) → Decided (IsAbove after aid)
above_given None aid = inl tt
above_given (Some after) aid = is_less (aid_order after aid)

-- on its line up to a root is all that is above a thing
is_above : (step : List ℕ → Option (List ℕ)) (a b : List ℕ) (line : List (List ℕ)) → IsLine step b line → Decided (Above step a b)
is_above step a b [] is = absurd is
is_above step a b (x ∷ []) is = inr (λ above. above.other (sym (root_alone step b a above.path is.1 above.leads)))
is_above step a b (x ∷ next ∷ line) is = by (same_name a b) (same_name a next) (is_above step a next (next ∷ line) is.3)
  where
    behind : (a ≡ b → ⊥) → (a ≡ next → ⊥) → (Above step a next → ⊥) → (path : List (List ℕ)) → IsPath step b path a → ⊥
    behind other apart none [] leads = other (sym leads)
    behind other apart none (first ∷ path) leads =
        let same : first ≡ next = (let steps = leads.0 in let also = is.2 in cc) in
        none (record { other = apart; path = path; leads = subst (λ (n : List ℕ). IsPath step n path a) same leads.1 })

    by : Decided (a ≡ b) → Decided (a ≡ next) → Decided (Above step a next) → Decided (Above step a b)
    by (inl same) q r = inr (λ above. above.other same)
    by (inr other) (inl here) r = inl (record { other = other; path = next ∷ []; leads = (is.2, sym here) })
    by (inr other) (inr apart) (inl above) = inl (record { other = other; path = next ∷ above.path; leads = (is.2, above.leads) })
    by (inr other) (inr apart) (inr none) = inr (λ above. behind other apart none above.path above.leads)

module _ (registry : Registry) (well : Well registry) (domain : List ℕ) where
  entry_line : (entry : Entry) → Contains registry.entries entry → LeadsToRoot registry entry.aid
  entry_line entry there = (All-contains (IsWellEntry registry) registry.entries entry well.entries there).line

  domain_line : (aid : List ℕ) → IsDomainNamed registry aid → LeadsToRoot registry aid
  domain_line aid is = by (entry_named registry aid) refl is
    where
      by : (o : Option Entry) → entry_named registry aid ≡ o → MatchOption o ⊥ (λ entry. is_domain entry ≡ true) → LeadsToRoot registry aid
      by None at is = absurd is
      by (Some entry) at is =
          let found = found_fits (λ (e : Entry). same_aid e.aid aid) registry.entries entry at in
          subst (LeadsToRoot registry) ((same_aid_decides entry.aid aid).0 found.1) (entry_line entry found.0)

  at_or_above : (aid : List ℕ) → LeadsToRoot registry aid → Decided (IsAtOrAbove registry domain aid)
  at_or_above aid (line, is) = one_of (same_name aid domain) (is_above (domain_of registry) domain aid line is)

  seen_or_not : (thing : Thing) → IsIn registry thing → Decided (Sees registry domain thing)
  seen_or_not (AnEntry entry) there =
      one_of (at_or_above entry.aid (entry_line entry there)) (is_true (is_privileged global_registry (entry_named registry domain)))
  seen_or_not (AFile file) there =
      one_of (at_or_above file.domain (domain_line file.domain (All-contains (IsWellFile registry) registry.files file well.files there).domain))
      (is_true (is_privileged global_registry (entry_named registry domain)))

kind_or_not : (p1 : ℕ) (thing : Thing) → Decided (IsListedBy p1 thing)
kind_or_not p1 (AnEntry entry) =
    one_of (both (same_number p1 0x80) (same_name entry.aid ISSUER)) (both (same_number p1 0x40) (other_than (same_name entry.aid ISSUER)))
kind_or_not p1 (AFile file) = one_of (same_number p1 0x20) (same_number p1 0x10)

-- orders of short lists, and one more in front
module _ {X : Type 0} (order : X → X → Ordering) where
  pub sorted_none : IsStrictlySortedBy order []
  unfolding IsStrictlySortedBy
  sorted_none = tt

  pub sorted_one : (x : X) → IsStrictlySortedBy order (x ∷ [])
  unfolding IsStrictlySortedBy
  sorted_one x = (tt, tt)

  pub first_of_sorted : (x : X) (xs : List X) → ((y : X) → Contains xs y → order x y ≡ Less) → IsStrictlySortedBy order xs → IsStrictlySortedBy order (x ∷ xs)
  unfolding IsStrictlySortedBy
  first_of_sorted x xs below sorted =
      (recursion_from_All (λ y. order x y ≡ Less) xs (All-weaker (Contains xs) (λ y. order x y ≡ Less) below xs (All-contains_itself xs)), sorted)

-- those of a list of which something is so, in its order
module _ {X : Type 0} (order : X → X → Ordering) (P : X → Type 0) where
  those : (xs : List X) → IsStrictlySortedBy order xs → ((x : X) → Contains xs x → Decided (P x))
      → (ys : List X) × IsStrictlySortedBy order ys × ((x : X) → Contains ys x ↔ (Contains xs x × P x))
  those [] sorted decided = ([], sorted, λ x. ((λ there. absurd (omega (arith, there.1))), λ there. absurd (omega (arith, there.0.1))))
  those (x ∷ xs) sorted decided =
      let rest = those xs (others_sorted order x xs sorted) (λ z there. decided z (contains_later x xs z there)) in
      elim (decided x (contains_first x xs)) [
        | inl is ↦ (
          x ∷ rest.0,
          first_of_sorted order x rest.0 (λ y there. first_below order x xs sorted y ((rest.2 y).0 there).0) rest.1,
          λ z. (
            λ there. elim (contains_cases x rest.0 z there) [
              | inl same ↦ (subst (Contains (x ∷ xs)) same (contains_first x xs), subst P same is)
              | inr later ↦ (let found = (rest.2 z).0 later in (contains_later x xs z found.0, found.1))
            ],
            λ found. elim (contains_cases x xs z found.0) [
              | inl same ↦ subst (Contains (x ∷ rest.0)) same (contains_first x rest.0)
              | inr later ↦ contains_later x rest.0 z ((rest.2 z).1 (later, found.1))
            ],
          ),
        )
        | inr none ↦ (
          rest.0,
          rest.1,
          λ z. (
            λ there. (let found = (rest.2 z).0 there in (contains_later x xs z found.0, found.1)),
            λ found. elim (contains_cases x xs z found.0) [
              | inl same ↦ absurd (none (subst P (sym same) found.1))
              | inr later ↦ (rest.2 z).1 (later, found.1)
            ],
          ),
        )
      ]

same_names : {X : Type 0} (wrap : X → Thing) (name : X → List ℕ) → ((x : X) → aid_in (wrap x) ≡ name x) → (xs : List X) → map aid_in (map wrap xs) ≡ map name xs
same_names wrap name same [] = refl
same_names wrap name same (x ∷ xs) = (λ i. same x i ∷ same_names wrap name same xs i)

module _ (registry : Registry) (well : Well registry) (ascending : IsAscending registry) (domain : List ℕ) (p1 : ℕ) (partial : List ℕ) (after : Option (List ℕ)) where
  abbrev IsOne : Thing → Type 0
  IsOne thing = IsListed registry domain p1 partial after thing

  listed_or_not : (thing : Thing) → IsIn registry thing → Decided (IsListed registry domain p1 partial after thing)
  listed_or_not thing there =
      by (kind_or_not p1 thing) (is_true (starts_with nat_eq (aid_in thing) partial)) (above_given after (aid_in thing)) (seen_or_not registry well domain thing there)
    where
      by : Decided (IsListedBy p1 thing) → Decided (starts_with nat_eq (aid_in thing) partial ≡ true) → Decided (IsAbove after (aid_in thing))
          → Decided (Sees registry domain thing) → Decided (IsListed registry domain p1 partial after thing)
      by (inl kind) (inl begins) (inl above) (inl seen) = inl (record { there = there; kind = kind; begins = begins; above = above; seen = seen })
      by (inr fails) q r s = inr (λ is. fails is.kind)
      by (inl kind) (inr fails) r s = inr (λ is. fails is.begins)
      by (inl kind) (inl begins) (inr fails) s = inr (λ is. fails is.above)
      by (inl kind) (inl begins) (inl above) (inr fails) = inr (λ is. fails is.seen)

  -- those that one kind of thing has
  of_kind : {X : Type 0} (wrap : X → Thing) (name : X → List ℕ) (xs : List X) → ((x : X) → aid_in (wrap x) ≡ name x) → IsStrictlySortedBy aid_order (map name xs)
      → ((x : X) → Contains xs x → IsIn registry (wrap x)) → ((thing : Thing) → IsOne thing → Contains (map wrap xs) thing)
      → (things : List Thing) × IsStrictlySortedBy aid_order (map aid_in things) × ((thing : Thing) → Contains things thing ↔ IsListed registry domain p1 partial after thing)
  of_kind wrap name xs same sorted in_ all =
      let things = map wrap xs in
      let names = subst (IsStrictlySortedBy aid_order) (sym (same_names wrap name same xs)) sorted in
      let found = those (on aid_in aid_order) IsOne things (sorted_by_name aid_order aid_in things names)
      (λ thing there. (let from = mapped wrap xs thing there in subst (λ (t : Thing). Decided (IsOne t)) from.2 (listed_or_not (wrap from.0) (in_ from.0 from.1)))) in (
        found.0,
        names_sorted aid_order aid_in found.0 found.1,
        λ thing. ((λ there. ((found.2 thing).0 there).1), λ is. (found.2 thing).1 (all thing is, is)),
      )

  -- what is listed, in order
  pub listed_in_order : (things : List Thing) × IsStrictlySortedBy aid_order (map aid_in things)
      × ((thing : Thing) → Contains things thing ↔ IsListed registry domain p1 partial after thing)
  listed_in_order = by (one_of (same_number p1 0x20) (same_number p1 0x10))
    where
      files_alone : (p1 ≡ 0x20) ⊎ (p1 ≡ 0x10) → (thing : Thing) → IsOne thing → Contains (map AFile registry.files) thing
      files_alone is (AFile file) listed = contains_map AFile registry.files file listed.there
      files_alone is (AnEntry entry) listed = absurd (fails is listed.kind)
        where
          fails : (p1 ≡ 0x20) ⊎ (p1 ≡ 0x10) → IsListedBy p1 (AnEntry entry) → ⊥
          fails (inl a) (inl b) = (let c = b.0 in omega (arith, a, c))
          fails (inl a) (inr b) = (let c = b.0 in omega (arith, a, c))
          fails (inr a) (inl b) = (let c = b.0 in omega (arith, a, c))
          fails (inr a) (inr b) = (let c = b.0 in omega (arith, a, c))

      entries_alone : ((p1 ≡ 0x20) ⊎ (p1 ≡ 0x10) → ⊥) → (thing : Thing) → IsOne thing → Contains (map AnEntry registry.entries) thing
      entries_alone not_files (AnEntry entry) listed = contains_map AnEntry registry.entries entry listed.there
      entries_alone not_files (AFile file) listed = absurd (not_files listed.kind)

      by : Decided ((p1 ≡ 0x20) ⊎ (p1 ≡ 0x10))
          → (things : List Thing) × IsStrictlySortedBy aid_order (map aid_in things)
          × ((thing : Thing) → Contains things thing ↔ IsListed registry domain p1 partial after thing)
      by (inl is) = of_kind AFile (λ file. file.aid) registry.files (λ file. refl) ascending.files (λ file there. there) (files_alone is)
      by (inr not_files) = of_kind AnEntry (λ entry. entry.aid) registry.entries (λ entry. refl) ascending.entries (λ entry there. there) (entries_alone not_files)
