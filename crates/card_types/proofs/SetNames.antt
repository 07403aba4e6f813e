-- The keys and the counter of a key set, in slots and by names.
use Rattle.std.proofs.Common.{◌≡◌, inl, inr, ℕ, ◌≤◌, true, ◌==◌, ◌&&◌, List, ◌∷◌, [], Option, Some, refl, ap, sym, subst, ◌∙◌, arith}
use Rattle.std.specs.Prelude.{Contains, IsSome, MatchOption, length, nat_lt, slice_index_or}
use Rattle.std.specs.Ordering.{nat_cmp}
use Rattle.std.specs.declared.cmp.Ordering.TheVariants.{Equal}
use Rattle.std.proofs.lemmas.Bool.{and_from, and_parts, eq-eqb, eqb-true, lt-ltb}
use Rattle.std.proofs.lemmas.Cmp.{nat_cmp_total, tied_itself}
use Rattle.std.proofs.lemmas.Option.{MatchOption-at_some}
use Rattle.std.proofs.lemmas.List.Elements.{All-contains}
use Rattle.card_types.specs.Aid.{same_aid}
use Rattle.card_types.specs.Registry.{counter_order, key_order, counter_named, key_named}
use Rattle.card_types.specs.KeySets.{HasKey, HasKeys, IsKeyOf, IsSetOf}
use Rattle.card_types.specs.Registry as registry
use Rattle.card_types.specs.Represents.{Represents, counter_of, domain_aid, keeps_counter, key_of, thing_in}
use Rattle.card_types.specs.Well.{IsKeyLength, IsWellCounter, IsWellKey, Well}
use Rattle.card_types.specs.declared.tables.Entry.{Entry}
use Rattle.card_types.specs.declared.tables.KeyRec.{KeyRec}
use Rattle.card_types.specs.declared.tables.Tables.{Tables}
use Rattle.card_types.proofs.Domains.{key_owner_is_used, same_domain}
use Rattle.card_types.proofs.KeyNames.{counter_order_total, counters_shown, key_order_total, keys_shown}
use Rattle.card_types.proofs.SetMembers.{HasKeyNamed, key_there}
use Rattle.card_types.proofs.SameAid.{aid_same_equal, aid_same_itself, same_aid_decides}
use Rattle.card_types.proofs.Shows.{only_shown}

pub same_number : (a b : ℕ) → a ≡ b → nat_cmp a b ≡ Equal
same_number a b same = ap (nat_cmp a) (sym same) ∙ tied_itself nat_cmp_total a

-- the key in a slot that has one of this name
pub is_key_held : (keys : List (Option KeyRec)) (owner version identifier slot : ℕ) (key : KeyRec) → thing_in keys slot ≡ Some key → HasKey keys owner version identifier slot
    → IsKeyOf owner version identifier key
is_key_held keys owner version identifier slot key at has = MatchOption-at_some ⊥ (IsKeyOf owner version identifier) _ at has

pub has_from_held : (keys : List (Option KeyRec)) (owner version identifier slot : ℕ) (key : KeyRec) → thing_in keys slot ≡ Some key → IsKeyOf owner version identifier key
    → HasKey keys owner version identifier slot
has_from_held keys owner version identifier slot key at is = subst (λ (o : Option KeyRec). MatchOption o ⊥ (IsKeyOf owner version identifier)) (sym at) is

-- the slots of the set that a key version number asks for have its keys
pub slots_of_set : (keys : List (Option KeyRec)) (owner version : ℕ) (slots : List ℕ) → 1 ≤ version → IsSetOf keys owner version slots
    → HasKey keys owner version 1 (slice_index_or slots 0 0) × HasKey keys owner version 2 (slice_index_or slots 1 0) × HasKey keys owner version 3 (slice_index_or slots 2 0)
slots_of_set keys owner version slots least is =
    let same : is.version ≡ version = elim is.asked.asked [
      | inl any ↦ absurd (omega (arith, least, any))
      | inr this ↦ sym this
    ] in
    let whole = is.whole in (
      slot_has same 1 0 (subst (λ (s : List ℕ). HasKey keys owner is.version 1 (slice_index_or s 0 0)) (sym whole.are) whole.first_key),
      slot_has same 2 1 (subst (λ (s : List ℕ). HasKey keys owner is.version 2 (slice_index_or s 1 0)) (sym whole.are) whole.second_key),
      slot_has same 3 2 (subst (λ (s : List ℕ). HasKey keys owner is.version 3 (slice_index_or s 2 0)) (sym whole.are) whole.third_key),
    )
  where
    slot_has : is.version ≡ version → (identifier place : ℕ) → HasKey keys owner is.version identifier (slice_index_or slots place 0)
        → HasKey keys owner version identifier (slice_index_or slots place 0)
    slot_has same identifier place = subst (λ (v : ℕ). HasKey keys owner v identifier (slice_index_or slots place 0)) same

-- the first key of a set keeps its counter
pub first_keeps_counter : (keys : List (Option KeyRec)) (owner given : ℕ) (slots : List ℕ) (key : KeyRec) → IsSetOf keys owner given slots
    → thing_in keys (slice_index_or slots 0 0) ≡ Some key → keeps_counter key ≡ true
first_keeps_counter keys owner given slots key is at =
    let first : HasKey keys owner is.version 1 (slice_index_or slots 0 0) = subst (λ (s : List ℕ). HasKey keys owner is.version 1 (slice_index_or s 0 0)) (sym is.whole.are) is.whole.first_key in
    let named = is_key_held keys owner is.version 1 (slice_index_or slots 0 0) key at first in
    and_from (key.identifier == 1) (nat_lt key.version 0x70) (eq-eqb key.identifier 1 named.same_identifier) (lt-ltb key.version 0x70 (omega (arith, named.same_version, is.asked.most)))

module _ (page : ℕ → List ℕ) (tables : Tables) (said : registry.Registry) (says : Represents page tables said) where
  -- the key in a slot is the one with its name
  pub key_in_slot : (slot : ℕ) (key : KeyRec) → thing_in tables.keys.items slot ≡ Some key
      → key_named said (domain_aid tables.entries.items key.owner) key.version key.identifier ≡ Some (key_of tables.entries.items key)
  key_in_slot slot key at =
      let owner = domain_aid tables.entries.items key.owner in
      only_shown (key_of tables.entries.items) (λ _. true) tables.keys.items said.keys (keys_shown page tables said says) key_order key_order_total says.ascending.keys
      (λ other. same_aid other.owner owner && other.version == key.version && other.identifier == key.identifier) slot key at refl
      (and_from (same_aid owner owner && key.version == key.version) (key.identifier == key.identifier)
      (and_from (same_aid owner owner) (key.version == key.version) (aid_same_itself owner) (eq-eqb key.version key.version refl))
      (eq-eqb key.identifier key.identifier refl))
      (λ other fits.
      (let parts = and_parts (same_aid other.owner owner && other.version == key.version) (other.identifier == key.identifier) fits in
      let name = and_parts (same_aid other.owner owner) (other.version == key.version) parts.0 in
      let same_owner = (same_aid_decides other.owner owner).0 name.0 in
      let same_version = eqb-true other.version key.version name.1 in
      let same_identifier = eqb-true other.identifier key.identifier parts.1 in
      rw (aid_same_equal owner other.owner (sym same_owner), same_number key.version other.version (sym same_version), same_number key.identifier other.identifier (sym same_identifier)) refl))

  -- the counter that a key in a slot keeps is the one with its name
  pub counter_in_slot : (slot : ℕ) (key : KeyRec) → thing_in tables.keys.items slot ≡ Some key → keeps_counter key ≡ true
      → counter_named said (domain_aid tables.entries.items key.owner) key.version ≡ Some (counter_of tables.entries.items key)
  counter_in_slot slot key at keeps =
      let owner = domain_aid tables.entries.items key.owner in
      only_shown (counter_of tables.entries.items) keeps_counter tables.keys.items said.counters (counters_shown page tables said says) counter_order counter_order_total says.ascending.counters
      (λ other. same_aid other.owner owner && other.version == key.version) slot key at keeps
      (and_from (same_aid owner owner) (key.version == key.version) (aid_same_itself owner) (eq-eqb key.version key.version refl))
      (λ other fits.
      (let parts = and_parts (same_aid other.owner owner) (other.version == key.version) fits in
      let same_owner = (same_aid_decides other.owner owner).0 parts.0 in
      let same_version = eqb-true other.version key.version parts.1 in
      rw (aid_same_equal owner other.owner (sym same_owner), same_number key.version other.version (sym same_version)) refl))

  -- the key that a slot is said to have is the one with that name
  pub has_key_named : (owner version identifier slot : ℕ) (key : KeyRec) → thing_in tables.keys.items slot ≡ Some key → HasKey tables.keys.items owner version identifier slot
      → key_named said (domain_aid tables.entries.items owner) version identifier ≡ Some (key_of tables.entries.items key)
  has_key_named owner version identifier slot key at has =
      let is = is_key_held tables.keys.items owner version identifier slot key at has in
      subst (λ (n : ℕ). key_named said (domain_aid tables.entries.items owner) version n ≡ Some (key_of tables.entries.items key)) is.same_identifier
      (subst (λ (v : ℕ). key_named said (domain_aid tables.entries.items owner) v key.identifier ≡ Some (key_of tables.entries.items key)) is.same_version
      (subst (λ (o : ℕ). key_named said (domain_aid tables.entries.items o) key.version key.identifier ≡ Some (key_of tables.entries.items key)) is.same_owner
      (key_in_slot slot key at)))

  module _ (well : Well said) where
    -- a key in a slot has the length of a key
    pub key_length_in_slot : (slot : ℕ) (key : KeyRec) → thing_in tables.keys.items slot ≡ Some key → IsKeyLength (length key.bytes.items)
    key_length_in_slot slot key at = (All-contains (IsWellKey said) said.keys _ well.keys ((keys_shown page tables said says).there slot key at refl)).size

    -- keys of one domain with one key version number have one length
    pub key_length_of_set : (slot other : ℕ) (key another : KeyRec) → thing_in tables.keys.items slot ≡ Some key → thing_in tables.keys.items other ≡ Some another
        → another.owner ≡ key.owner → another.version ≡ key.version → length another.bytes.items ≡ length key.bytes.items
    key_length_of_set slot other key another at here owned versioned =
        let shown = keys_shown page tables said says in
        (All-contains (IsWellKey said) said.keys _ well.keys (shown.there slot key at refl)).size_of_set
        (key_of tables.entries.items another) (shown.there other another here refl) (ap (domain_aid tables.entries.items) owned) versioned

    -- a key of a domain in a slot is in a slot
    pub slot_of_key : (owner : ℕ) (entry : Entry) (version identifier : ℕ) → thing_in tables.entries.items owner ≡ Some entry
        → HasKeyNamed said (domain_aid tables.entries.items owner) version identifier → (slot : ℕ) × HasKey tables.keys.items owner version identifier slot
    slot_of_key owner entry version identifier at has =
        let from = (keys_shown page tables said says).from has.key has.is_there in
        let domain = key_owner_is_used page tables said says well from.0 from.1 from.2 in
        let owners : domain_aid tables.entries.items from.1.owner ≡ domain_aid tables.entries.items owner = ap (λ (k : registry.Key). k.owner) from.4 ∙ has.owner_is in (
          from.0,
          has_from_held tables.keys.items owner version identifier from.0 from.1 from.2 (record {
            same_owner = same_domain page tables said says from.1.owner owner domain.0 entry domain.1 at owners;
            same_version = ap (λ (k : registry.Key). k.version) from.4 ∙ has.version_is;
            same_identifier = ap (λ (k : registry.Key). k.identifier) from.4 ∙ has.identifier_is;
          }),
        )

    -- where there is a counter of a domain in a slot, the keys of its set are in slots
    pub set_of_counter : (owner : ℕ) (entry : Entry) (counter : registry.Counter) → thing_in tables.entries.items owner ≡ Some entry
        → Contains said.counters counter → counter.owner ≡ domain_aid tables.entries.items owner
        → (counter.version ≤ 0x6F) × ((slots : List ℕ) × HasKeys tables.keys.items owner counter.version slots)
    set_of_counter owner entry counter at there owned =
        let is : IsWellCounter said counter = All-contains (IsWellCounter said) said.counters counter well.counters there in
        let first = slot_of_key owner entry counter.version 1 at (key_there said (domain_aid tables.entries.items owner) counter.version 1 (subst (λ (o : List ℕ). IsSome (key_named said o counter.version 1)) owned is.set.first)) in
        let second = slot_of_key owner entry counter.version 2 at (key_there said (domain_aid tables.entries.items owner) counter.version 2 (subst (λ (o : List ℕ). IsSome (key_named said o counter.version 2)) owned is.set.second)) in
        let third = slot_of_key owner entry counter.version 3 at (key_there said (domain_aid tables.entries.items owner) counter.version 3 (subst (λ (o : List ℕ). IsSome (key_named said o counter.version 3)) owned is.set.third)) in (
          omega (arith, is.version),
          (
            first.0 ∷ second.0 ∷ third.0 ∷ [],
            record { first = first.0; second = second.0; third = third.0; are = refl; first_key = first.1; second_key = second.1; third_key = third.1 },
          ),
        )

    -- where a key in a slot keeps a counter, the keys of its set are in slots
    pub set_beside : (slot : ℕ) (key : KeyRec) → thing_in tables.keys.items slot ≡ Some key → keeps_counter key ≡ true
        → (slots : List ℕ) × HasKeys tables.keys.items key.owner key.version slots
    set_beside slot key at keeps =
        let owner = key_owner_is_used page tables said says well slot key at in
        (set_of_counter key.owner owner.0 (counter_of tables.entries.items key) owner.1 ((counters_shown page tables said says).there slot key at keeps) refl).1
