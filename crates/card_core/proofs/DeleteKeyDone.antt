-- What the tables of a card say after keys were deleted.
use Rattle.std.proofs.Common.{◌≡◌, ℕ, Bool, true, false, ◌&&◌, List, Option, Some, sym, subst}
use Rattle.std.specs.Bool.{OnFalse}
use Rattle.std.specs.Prelude.{filter, map, not, ◌==◌}
use Rattle.std.specs.List.Sorted.{IsPermutation}
use Rattle.std.proofs.lemmas.Bool.{and_parts, eqb-true}
use Rattle.std.proofs.lemmas.List.Sorted.{IsPermutation-map, IsPermutation-trans}
use Rattle.card_types.proofs.Domains.{key_owner_is_used}
use Rattle.card_types.proofs.Shows.{held_from_used}
use Rattle.card_core.specs.Prelude.{AreCards, Contents, Deletes, Registry, Represents, SameElse, Well, counter_of, counters_but, domain_aid, has_version, is_of, keeps_counter, key_of, keys_but, staying, thing_in, things_in}
use Rattle.card_types.specs.declared.tables.Entry.{Entry}
use Rattle.card_types.specs.declared.tables.KeyRec.{KeyRec}
use Rattle.policy_machine.proofs.DeleteKeyKeeps.{without_version, without_version_ascending, without_version_well}
use Rattle.policy_machine.proofs.Filtered.{filter_same, there_any}
use Rattle.policy_slots.proofs.KeysByName.{counters_staying, keys_staying}
use Rattle.card_core.proofs.KeysSaid.{changed_cards, keys_said}

module _ {F : Type 0} (old new : Contents F) (same : SameElse old new) (owner version : ℕ)
    (deletes : Deletes owner version old.tables.keys.items new.tables.keys.items) where
  module _ (page : ℕ → List ℕ) (said : Registry) (says : Represents page old.tables said) where
    -- the registry without the keys
    pub deleted_says : Well said → (entry : Entry) → thing_in old.tables.entries.items owner ≡ Some entry
        → Represents page new.tables (without_version said (domain_aid old.tables.entries.items owner) version)
    deleted_says well entry at =
        let aid = domain_aid old.tables.entries.items owner in
        let here = things_in new.tables.keys.items in
        let stay = staying owner version old.tables.keys.items in
        let ascending = without_version_ascending said aid version says.ascending in
        let keys = IsPermutation-map (key_of old.tables.entries.items) here stay deletes.keys in
        let counters = IsPermutation-map (counter_of old.tables.entries.items) (filter keeps_counter here) (filter keeps_counter stay)
        (filter_same keeps_counter here stay deletes.keys) in
        keys_said old new same page said says (keys_but aid version said.keys) (counters_but aid version said.counters)
        (IsPermutation-trans _ _ _ keys (keys_staying page old.tables said says well owner entry at version))
        (IsPermutation-trans _ _ _ counters (counters_staying page old.tables said says well owner entry at version))
        ascending.keys ascending.counters

    -- where no slot has changed, the registry is the same
    same_says : new.tables.keys.items ≡ old.tables.keys.items → Represents page new.tables said
    same_says kept =
        keys_said old new same page said says said.keys said.counters
        (subst (λ (slots : List (Option KeyRec)). IsPermutation (map (key_of old.tables.entries.items) (things_in slots)) said.keys) (sym kept) says.keys)
        (subst (λ (slots : List (Option KeyRec)). IsPermutation (map (counter_of old.tables.entries.items) (filter keeps_counter (things_in slots))) said.counters) (sym kept)
        says.counters)
        says.ascending.keys says.ascending.counters

    -- a domain with keys is in its slot
    owner_used : Well said → has_version owner version old.tables.keys.items ≡ true → (entry : Entry) × (thing_in old.tables.entries.items owner ≡ Some entry)
    owner_used well has =
        let some = there_any (is_of owner version) (things_in old.tables.keys.items) has in
        let at = held_from_used old.tables.keys.items some.0 some.1 in
        let parts = and_parts (not (version == 0) && some.0.owner == owner) (some.0.version == version) some.2 in
        let own = eqb-true some.0.owner owner (and_parts (not (version == 0)) (some.0.owner == owner) parts.0).1 in
        let domain = key_owner_is_used page old.tables said says well at.0 some.0 at.1 in
        (domain.0, subst (λ (slot : ℕ). thing_in old.tables.entries.items slot ≡ Some domain.0) own domain.1)

  -- the tables are a card's
  pub deleted_cards : (found : Bool) → found ≡ has_version owner version old.tables.keys.items → OnFalse found (new.tables.keys.items ≡ old.tables.keys.items)
      → AreCards old.tables → AreCards new.tables
  deleted_cards false none kept cards = changed_cards old new same deletes.count (λ page said says well. (said, same_says page said says kept, well)) cards
  deleted_cards true has kept cards =
      changed_cards old new same deletes.count (λ page said says well.
      (let domain = owner_used page said says well (sym has) in (
        without_version said (domain_aid old.tables.entries.items owner) version,
        deleted_says page said says well domain.0 domain.1,
        without_version_well said (domain_aid old.tables.entries.items owner) version well,
      ))) cards
