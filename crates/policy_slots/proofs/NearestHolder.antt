-- The nearest domain above that holds a privilege and a key, by slots and by names.
use Rattle.std.proofs.Common.{◌≡◌, ℕ, Bool, true, false, ◌==◌, ◌&&◌, List, Option, None, Some, refl, ap, sym, ◌∙◌}
use Rattle.std.specs.Prelude.{IfNone, IsSome, MatchOption, is_some}
use Rattle.std.specs.List.{list_any}
use Rattle.std.proofs.lemmas.Bool.{and_parts, eq-eqb, eqb-true}
use Rattle.card_types.proofs.Domains.{domain_aid_is}
use Rattle.card_types.proofs.EntryNames.{entry_in_slot}
use Rattle.card_types.proofs.SetMembers.{key_found}
use Rattle.card_types.proofs.SetNames.{has_from_held, has_key_named, slot_of_key}
use Rattle.policy_slots.specs.Prelude.{HasKey, IsFirstAbove, IsKeyOf, IsNearestHolder, NoneAbove, Represents, Well, bits_of, domain_aid, domain_of, domain_slot, entry_has, entry_named, entry_of, has_with_key, has_with_key_in, holds_lone_key, is_key, is_privileged, key_named, key_of, thing_in}
use Rattle.card_types.specs.Registry as registry
use Rattle.card_types.specs.declared.privileges.Privileges.{Privileges}
use Rattle.card_types.specs.declared.tables.Entry.{Entry}
use Rattle.card_types.specs.declared.tables.KeyRec.{KeyRec}
use Rattle.card_types.specs.declared.tables.Tables.{Tables}
use Rattle.domain_tree.proofs.AboveNamed.{first_above_named, none_above_named}
use Rattle.policy_slots.proofs.AnySlot.{passing_slot, slot_passes}

-- a key that the test finds
key_tested : (owner version identifier : ℕ) (key : KeyRec) → is_key owner version identifier key ≡ true → IsKeyOf owner version identifier key
key_tested owner version identifier key is =
    let outer = and_parts (key.owner == owner && key.version == version) (key.identifier == identifier) is in
    let inner = and_parts (key.owner == owner) (key.version == version) outer.0 in
    record {
      same_owner = eqb-true key.owner owner inner.0;
      same_version = eqb-true key.version version inner.1;
      same_identifier = eqb-true key.identifier identifier outer.1;
    }

key_of_name : (owner version identifier : ℕ) (key : KeyRec) → IsKeyOf owner version identifier key → is_key owner version identifier key ≡ true
key_of_name owner version identifier key is =
    rw (eq-eqb key.owner owner is.same_owner, eq-eqb key.version version is.same_version, eq-eqb key.identifier identifier is.same_identifier) refl

-- a slot with a key of this name holds one
held_key : (keys : List (Option KeyRec)) (owner version identifier slot : ℕ) → HasKey keys owner version identifier slot
    → (key : KeyRec) × (thing_in keys slot ≡ Some key) × IsKeyOf owner version identifier key
held_key keys owner version identifier slot has = by (thing_in keys slot) refl has
  where
    by : (o : Option KeyRec) → thing_in keys slot ≡ o → MatchOption o ⊥ (IsKeyOf owner version identifier)
        → (key : KeyRec) × (thing_in keys slot ≡ Some key) × IsKeyOf owner version identifier key
    by None at is = absurd is
    by (Some key) at is = (key, at, is)

-- where the test by slots holds, a slot has the key
pub lone_key : (tables : Tables) (privilege : Privileges) (version slot : ℕ) → has_with_key_in tables privilege version slot ≡ true
    → (key_slot : ℕ) × HasKey tables.keys.items slot version 1 key_slot
lone_key tables privilege version slot fits =
    let parts = and_parts (entry_has privilege (thing_in tables.entries.items slot)) (list_any (holds_lone_key slot version) tables.keys.items) fits in
    let there = passing_slot (holds_lone_key slot version) refl tables.keys.items parts.1 in
    (there.0, has_from_held tables.keys.items slot version 1 there.0 there.1 there.2 (key_tested slot version 1 there.1 there.3))

-- there is something, where it can't be that there is none
pub some_found : {A : Type 0} {P : Type 0} (o : Option A) → IfNone o P → (P → ⊥) → IsSome o
some_found (Some x) none more = refl
some_found None none more = absurd (more none)

module _ (page : ℕ → List ℕ) (tables : Tables) (said : registry.Registry) (says : Represents page tables said) where
  abbrev aid : ℕ → List ℕ
  aid slot = domain_aid tables.entries.items slot

  -- the entry in a slot has the slot's AID
  pub slot_named : (slot : ℕ) (entry : Entry) → thing_in tables.entries.items slot ≡ Some entry
      → entry_named said (aid slot) ≡ Some (entry_of tables.entries.items tables.files.items entry)
  slot_named slot entry at = ap (entry_named said) (domain_aid_is tables.entries.items slot entry at) ∙ entry_in_slot page tables said says slot entry at

  -- what a slot holds is what the entry with its AID holds
  pub privilege_named : (privilege : Privileges) (slot : ℕ) (entry : Entry) → thing_in tables.entries.items slot ≡ Some entry
      → entry_has privilege (thing_in tables.entries.items slot) ≡ is_privileged (bits_of privilege) (entry_named said (aid slot))
  privilege_named privilege slot entry at =
      ap (entry_has privilege) at ∙ sym (ap (is_privileged (bits_of privilege)) (slot_named slot entry at))

  module _ (well : Well said) (version : ℕ) where
    found_named : (owner : ℕ) (entry : Entry) → thing_in tables.entries.items owner ≡ Some entry → (b : Bool) → list_any (holds_lone_key owner version) tables.keys.items ≡ b
        → is_some (key_named said (aid owner) version 1) ≡ b
    found_named owner entry at true some =
        let there = passing_slot (holds_lone_key owner version) refl tables.keys.items some in
        let has = has_from_held tables.keys.items owner version 1 there.0 there.1 there.2 (key_tested owner version 1 there.1 there.3) in
        ap is_some (has_key_named page tables said says owner version 1 there.0 there.1 there.2 has)
    found_named owner entry at false none = by (key_named said (aid owner) version 1) refl
      where
        by : (o : Option registry.Key) → key_named said (aid owner) version 1 ≡ o → is_some (key_named said (aid owner) version 1) ≡ false
        by None is = ap is_some is
        by (Some key) is =
            (let named = key_found said (aid owner) version 1 key is in
            let there = slot_of_key page tables said says well owner entry version 1 at named in
            let held_there = held_key tables.keys.items owner version 1 there.0 there.1 in
            let passes = slot_passes (holds_lone_key owner version) tables.keys.items there.0 held_there.0 held_there.1 (key_of_name owner version 1 held_there.0 held_there.2) in
            let clash = sym passes ∙ none in cc)

    -- a privilege with a key of its own is held by the slot exactly where it is by the AID
    alike : (privilege : Privileges) (slot : ℕ) (entry : Entry) → thing_in tables.entries.items slot ≡ Some entry
        → has_with_key_in tables privilege version slot ≡ has_with_key said (bits_of privilege) version (aid slot)
    alike privilege slot entry at =
        let first = privilege_named privilege slot entry at in
        let second = sym (found_named slot entry at (list_any (holds_lone_key slot version) tables.keys.items) refl) in
        (λ i. first i && second i)

    module _ (privilege : Privileges) (domain : ℕ) (entry : Entry) (at : thing_in tables.entries.items domain ≡ Some entry) where
      pub holder_named : (slot : ℕ) (key_slot : ℕ) (key : KeyRec) → IsFirstAbove (domain_slot tables.entries.items) (has_with_key_in tables privilege version) domain slot
          → thing_in tables.keys.items key_slot ≡ Some key → IsKeyOf slot version 1 key
          → IsNearestHolder said (bits_of privilege) version (aid domain) (aid slot) (key_of tables.entries.items key)
      holder_named slot key_slot key above there is = record {
        above = first_above_named page tables said says well (has_with_key_in tables privilege version) (has_with_key said (bits_of privilege) version) (alike privilege) domain slot entry at above;
        key_is = has_key_named page tables said says slot version 1 key_slot key there (has_from_held tables.keys.items slot version 1 key_slot key there is);
      }

      pub no_holder_named : NoneAbove (domain_slot tables.entries.items) (has_with_key_in tables privilege version) domain
          → NoneAbove (domain_of said) (has_with_key said (bits_of privilege) version) (aid domain)
      no_holder_named none =
          none_above_named page tables said says well (has_with_key_in tables privilege version) (has_with_key said (bits_of privilege) version) (alike privilege) domain entry at none
