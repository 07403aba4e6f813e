-- What tables say after an entry was removed, with the keys and data objects that it owns.
use Rattle.std.proofs.Common.{◌≡◌, ◌≢◌, ℕ, ◌==◌, Bool, true, false, List, Option, None, Some, refl, ap, sym, subst, ◌∙◌}
use Rattle.std.specs.Prelude.{Contains, filter, map, not}
use Rattle.std.specs.Option.{option_map}
use Rattle.std.specs.List.Sorted.{IsPermutation, IsStrictlySortedBy}
use Rattle.std.specs.Cmp.{IsTotalOrder}
use Rattle.std.specs.declared.cmp.Ordering.{Ordering}
use Rattle.std.proofs.lemmas.Bool.{eq-eqb, eqb-true, not-true}
use Rattle.std.proofs.lemmas.List.Kept.{IsStrictlySortedBy-filter}
use Rattle.card_types.specs.Aid.{aid_order, same_aid}
use Rattle.card_types.specs.Registry.{counter_order, key_order, object_order}
use Rattle.card_types.specs.RegistryChange.{IsChanged, IsRemoved, without_entry}
use Rattle.card_types.specs.Registry as registry
use Rattle.card_types.specs.Represents.{Represents, counter_of, domain_aid, entry_of, keeps_counter, key_of, object_of, things_in, thing_in}
use Rattle.card_types.specs.SlotChange.{SetsEntry}
use Rattle.card_types.specs.Well.{Well}
use Rattle.card_types.specs.declared.tables.Entry.{Entry}
use Rattle.card_types.specs.declared.tables.KeyRec.{KeyRec}
use Rattle.card_types.specs.declared.tables.Object.{Object}
use Rattle.card_types.specs.declared.tables.Tables.{Tables}
use Rattle.card_types.proofs.ChangedEntries.{NoneNames, entry_changed, keeps_domains_removed}
use Rattle.card_types.proofs.ChangedNames.{filter_of_map, filters_exchanged, removed_named, same_filtered}
use Rattle.card_types.proofs.Domains.{domain_aid_is, key_owner_is_used, object_owner_is_used, same_domain}
use Rattle.card_types.proofs.DrawnCounter.{held_within}
use Rattle.card_types.proofs.KeyNames.{counter_order_total, key_order_total}
use Rattle.card_types.proofs.Members.{filtered}
use Rattle.card_types.proofs.ObjectNames.{object_order_total}
use Rattle.card_types.proofs.SameAid.{same_aid_decides}
use Rattle.card_types.proofs.Shows.{held_from_used, shows_used, used_from_held}
use Rattle.registry.specs.Removing.{IsNoDomain, key_owner, object_owner, slot_without}
use Rattle.registry.proofs.Freed.{used_freed}

-- a list of what slots show, without what fits a test
pub without_shown : {T X : Type 0} (order : X → X → Ordering) (total : IsTotalOrder order) (view : T → X) (goes : X → Bool) (leaves : T → Bool) (things : List T) (shown : List X)
    → IsPermutation (map view things) shown → IsStrictlySortedBy order shown → ((thing : T) → Contains things thing → goes (view thing) ≡ leaves thing)
    → IsPermutation (map view (filter (λ thing. not (leaves thing)) things)) (filter (λ x. not (goes x)) shown)
without_shown {X = X} order total view goes leaves things shown same sorted alike =
    subst (λ (xs : List X). IsPermutation xs (filter (λ x. not (goes x)) shown))
    (filter_of_map view (λ x. not (goes x)) (λ thing. not (leaves thing)) things (λ thing there. ap not (alike thing there)))
    (same_filtered order total (λ x. not (goes x)) (map view things) shown sorted same)

-- tests that are true together are the same
pub same_tests : (a b : Bool) → (a ≡ true → b ≡ true) → (b ≡ true → a ≡ true) → a ≡ b
same_tests true b to from = sym (to refl)
same_tests false true to from = from refl
same_tests false false to from = refl

module _ (page : ℕ → List ℕ) (before between : Tables) (said : registry.Registry) (says : Represents page before said) (well : Well said) (slot : ℕ) (entry : Entry)
    (at : thing_in before.entries.items slot ≡ Some entry) (life : between.life ≡ before.life) (entries : between.entries.items ≡ before.entries.items)
    (files : between.files.items ≡ before.files.items) (keys : between.keys.items ≡ map (slot_without key_owner slot) before.keys.items)
    (objects : between.objects.items ≡ map (slot_without object_owner slot) before.objects.items) where
  abbrev aid : List ℕ
  aid = domain_aid before.entries.items slot

  -- a domain that is in its slot has the AID exactly where that slot is this one
  owner_named : (owner : ℕ) (domain : Entry) → thing_in before.entries.items owner ≡ Some domain → same_aid (domain_aid before.entries.items owner) aid ≡ (owner == slot)
  owner_named owner domain there =
      same_tests (same_aid (domain_aid before.entries.items owner) aid) (owner == slot)
      (λ same. eq-eqb owner slot (same_domain page before said says owner slot domain entry there at ((same_aid_decides (domain_aid before.entries.items owner) aid).0 same)))
      (λ same. (same_aid_decides (domain_aid before.entries.items owner) aid).1 (ap (domain_aid before.entries.items) (eqb-true owner slot same)))

  key_named : (key : KeyRec) → Contains (things_in before.keys.items) key → same_aid (domain_aid before.entries.items key.owner) aid ≡ (key.owner == slot)
  key_named key there =
      let held_at = held_from_used before.keys.items key there in
      let owner = key_owner_is_used page before said says well held_at.0 key held_at.1 in
      owner_named key.owner owner.0 owner.1

  object_named : (object : Object) → Contains (things_in before.objects.items) object → same_aid (domain_aid before.entries.items object.owner) aid ≡ (object.owner == slot)
  object_named object there =
      let held_at = held_from_used before.objects.items object there in
      let owner = object_owner_is_used page before said says well held_at.0 object held_at.1 in
      owner_named object.owner owner.0 owner.1

  abbrev rest : registry.Registry
  rest = record (without_entry said aid) { entries = said.entries }

  keys_left : things_in between.keys.items ≡ filter (λ key. not (key.owner == slot)) (things_in before.keys.items)
  keys_left = ap (λ (slots : List (Option KeyRec)). things_in slots) keys ∙ used_freed key_owner slot before.keys.items

  objects_left : things_in between.objects.items ≡ filter (λ object. not (object.owner == slot)) (things_in before.objects.items)
  objects_left = ap (λ (slots : List (Option Object)). things_in slots) objects ∙ used_freed object_owner slot before.objects.items

  -- what they say without the keys and data objects
  says_between : Represents page between rest
  says_between = record {
    life = life ∙ says.life;
    entries = rw (entries, files) says.entries;
    files = rw (entries, files) says.files;
    keys = rw (entries, keys_left)
        (without_shown key_order key_order_total (key_of before.entries.items) (λ key. same_aid key.owner aid) (λ key. key.owner == slot)
        (things_in before.keys.items) said.keys says.keys says.ascending.keys key_named);
    counters = rw (entries, keys_left, filters_exchanged keeps_counter (λ key. not (key.owner == slot)) (things_in before.keys.items))
        (without_shown counter_order counter_order_total (counter_of before.entries.items) (λ counter. same_aid counter.owner aid) (λ key. key.owner == slot)
        (filter keeps_counter (things_in before.keys.items)) said.counters says.counters says.ascending.counters
        (λ key there. key_named key (filtered keeps_counter (things_in before.keys.items) key there).0));
    objects = rw (entries, objects_left)
        (without_shown object_order object_order_total (object_of before.entries.items) (λ object. same_aid object.owner aid) (λ object. object.owner == slot)
        (things_in before.objects.items) said.objects says.objects says.ascending.objects object_named);
    ascending = record {
      entries = says.ascending.entries;
      files = says.ascending.files;
      keys = IsStrictlySortedBy-filter key_order (λ key. not (same_aid key.owner aid)) said.keys says.ascending.keys;
      counters = IsStrictlySortedBy-filter counter_order (λ counter. not (same_aid counter.owner aid)) said.counters says.ascending.counters;
      objects = IsStrictlySortedBy-filter object_order (λ object. not (same_aid object.owner aid)) said.objects says.ascending.objects;
    };
  }

  key_gone : (other : ℕ) (key : KeyRec) → thing_in between.keys.items other ≡ Some key → key.owner ≢ slot
  key_gone other key there same =
      let among = subst (λ (things : List KeyRec). Contains things key) keys_left (used_from_held between.keys.items other key there) in
      let kept = not-true (key.owner == slot) (filtered (λ key. not (key.owner == slot)) (things_in before.keys.items) key among).1 in
      let owned = eq-eqb key.owner slot same in
      cc

  object_gone : (other : ℕ) (object : Object) → thing_in between.objects.items other ≡ Some object → object.owner ≢ slot
  object_gone other object there same =
      let among = subst (λ (things : List Object). Contains things object) objects_left (used_from_held between.objects.items other object there) in
      let kept = not-true (object.owner == slot) (filtered (λ object. not (object.owner == slot)) (things_in before.objects.items) object among).1 in
      let owned = eq-eqb object.owner slot same in
      cc

  unnamed : IsNoDomain before slot → NoneNames between slot
  unnamed alone = record {
    entries = λ other e apart there. alone.entries other e apart (ap (λ (slots : List (Option Entry)). thing_in slots other) (sym entries) ∙ there);
    files = λ other file there. alone.files other file (ap (λ slots. thing_in slots other) (sym files) ∙ there);
    keys = key_gone;
    objects = object_gone;
  }

  -- what the tables say without the entry
  pub entry_removed : (after : Tables) → IsNoDomain before slot → SetsEntry between after slot None → Represents page after (without_entry said aid)
  entry_removed after alone set =
      let here : thing_in between.entries.items slot ≡ Some entry = ap (λ (slots : List (Option Entry)). thing_in slots slot) entries ∙ at in
      let within = held_within between.entries.items slot entry here in
      let view = entry_of between.entries.items between.files.items in
      let named : entry.aid ≡ aid = sym (domain_aid_is before.entries.items slot entry at) in
      let among = (shows_used view between.entries.items said.entries says_between.entries).there slot entry here refl in
      let removed : IsRemoved (λ a b. aid_order a.aid b.aid) (view entry) said.entries (without_entry said aid).entries =
      removed_named (λ (e : registry.Entry). e.aid) aid (view entry) said.entries named says.ascending.entries among in
      let changed : IsChanged (λ a b. aid_order a.aid b.aid) (option_map view (thing_in between.entries.items slot)) None said.entries (without_entry said aid).entries = rw here removed in
      entry_changed page between after rest says_between slot None (without_entry said aid).entries within set
      (keeps_domains_removed page between after rest says_between slot within set (unnamed alone)) changed
