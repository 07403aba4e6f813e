-- What tables say after a change of one entry.
use Rattle.std.proofs.Common.{◌≡◌, ◌≢◌, inl, inr, ℕ, ◌<◌, List, [], length, Option, None, Some, ap, sym, subst, ◌∙◌}
use Rattle.std.specs.Prelude.{map, unwrap_or}
use Rattle.std.specs.List.Sorted.{IsPermutation, IsStrictlySortedBy}
use Rattle.std.specs.Option.{option_map}
use Rattle.std.proofs.lemmas.Bool.{cases_eq}
use Rattle.std.proofs.lemmas.Cmp.{nat_list_cmp_total, on_total}
use Rattle.std.proofs.lemmas.List.{get_or-set_other, get_or-set_same}
use Rattle.card_types.specs.Aid.{aid_order}
use Rattle.card_types.specs.RegistryChange.{IsChanged}
use Rattle.card_types.specs.Registry as registry
use Rattle.card_types.specs.Represents.{Represents, counter_of, domain_aid, entry_of, file_of, keeps_counter, key_of, object_of, things_in, thing_in}
use Rattle.card_types.specs.SlotChange.{SetsEntry}
use Rattle.card_types.specs.Well.{Well}
use Rattle.card_types.specs.declared.tables.Entry.{Entry}
use Rattle.card_types.specs.declared.tables.LoadFile.{LoadFile}
use Rattle.card_types.specs.declared.tables.KeyRec.{KeyRec}
use Rattle.card_types.specs.declared.tables.Object.{Object}
use Rattle.card_types.specs.declared.tables.Tables.{Tables}
use Rattle.card_types.proofs.ChangedSlot.{changed_all, same_all, same_slots}
use Rattle.card_types.proofs.Domains.{domain_is_used, file_domain_is_used, key_owner_is_used, object_owner_is_used}
use Rattle.card_types.proofs.LeastOfList.{names_sorted}

-- the slots of the domains that things name have the same AIDs
pub record KeepsDomains (before after : Tables) : Type 0 where
  pub entries : (slot : ℕ) (entry : Entry) → thing_in after.entries.items slot ≡ Some entry → domain_aid after.entries.items entry.domain ≡ domain_aid before.entries.items entry.domain
  pub files : (slot : ℕ) (file : LoadFile) → thing_in before.files.items slot ≡ Some file → domain_aid after.entries.items file.domain ≡ domain_aid before.entries.items file.domain
  pub keys : (slot : ℕ) (key : KeyRec) → thing_in before.keys.items slot ≡ Some key → domain_aid after.entries.items key.owner ≡ domain_aid before.entries.items key.owner
  pub objects : (slot : ℕ) (object : Object) → thing_in before.objects.items slot ≡ Some object → domain_aid after.entries.items object.owner ≡ domain_aid before.entries.items object.owner

-- no other thing names the slot as its domain
pub record NoneNames (tables : Tables) (domain : ℕ) : Type 0 where
  pub entries : (slot : ℕ) (entry : Entry) → slot ≢ domain → thing_in tables.entries.items slot ≡ Some entry → entry.domain ≢ domain
  pub files : (slot : ℕ) (file : LoadFile) → thing_in tables.files.items slot ≡ Some file → file.domain ≢ domain
  pub keys : (slot : ℕ) (key : KeyRec) → thing_in tables.keys.items slot ≡ Some key → key.owner ≢ domain
  pub objects : (slot : ℕ) (object : Object) → thing_in tables.objects.items slot ≡ Some object → object.owner ≢ domain

-- tables of which the entries alone are others, and whose things name domains with the same AIDs
pub entries_alone : (page : ℕ → List ℕ) (before after : Tables) (said : registry.Registry) → Represents page before said → after.life ≡ before.life
    → after.files.items ≡ before.files.items → after.keys.items ≡ before.keys.items → after.objects.items ≡ before.objects.items → KeepsDomains before after
    → (entries : List registry.Entry) → IsPermutation (map (entry_of after.entries.items after.files.items) (things_in after.entries.items)) entries
    → IsStrictlySortedBy aid_order (map (λ entry. entry.aid) entries) → Represents page after (record said { entries = entries })
entries_alone page before after said says life files keys objects keeps entries same ascending = record {
  life = life ∙ says.life;
  entries = same;
  files = same_all (file_of page before.entries.items) (file_of page after.entries.items) before.files.items after.files.items said.files says.files files
      (λ other file at. rw (keeps.files other file at));
  keys = same_all (key_of before.entries.items) (key_of after.entries.items) before.keys.items after.keys.items said.keys says.keys keys
      (λ other key at. rw (keeps.keys other key at));
  counters = same_slots (counter_of before.entries.items) (counter_of after.entries.items) keeps_counter before.keys.items after.keys.items said.counters says.counters keys
      (λ other key at. rw (keeps.keys other key at));
  objects = same_all (object_of before.entries.items) (object_of after.entries.items) before.objects.items after.objects.items said.objects says.objects objects
      (λ other object at. rw (keeps.objects other object at));
  ascending = record {
    entries = ascending;
    files = says.ascending.files;
    keys = says.ascending.keys;
    counters = says.ascending.counters;
    objects = says.ascending.objects;
  };
}

module _ (page : ℕ → List ℕ) (before after : Tables) (said : registry.Registry) (says : Represents page before said) (slot : ℕ) where
  -- the entries are those with that one change
  pub entry_changed : (entry : Option Entry) (entries : List registry.Entry)
      → slot < length before.entries.items → SetsEntry before after slot entry → KeepsDomains before after
      → IsChanged (λ x y. aid_order x.aid y.aid) (option_map (entry_of before.entries.items before.files.items) (thing_in before.entries.items slot))
      (option_map (entry_of before.entries.items before.files.items) entry) said.entries entries
      → Represents page after (record said { entries = entries })
  entry_changed entry entries within set keeps changed =
      entries_alone page before after said says set.life set.files set.keys set.objects keeps entries
      (changed_all (entry_of before.entries.items before.files.items) (entry_of after.entries.items after.files.items) before.entries.items after.entries.items slot entry
      (λ x y. aid_order x.aid y.aid) (on_total (λ (e : registry.Entry). e.aid) nat_list_cmp_total) said.entries entries says.entries within set.entries
      (λ other e at. rw (keeps.entries other e at, set.files)) changed)
      (names_sorted aid_order (λ (e : registry.Entry). e.aid) entries changed.ascending)

  -- another slot holds what it held
  pub other_slot : (entry : Option Entry) → SetsEntry before after slot entry → (other : ℕ) → other ≢ slot → thing_in after.entries.items other ≡ thing_in before.entries.items other
  other_slot entry set other apart = ap (λ (es : List (Option Entry)). thing_in es other) set.entries ∙ get_or-set_other before.entries.items slot other entry None apart

  other_aid : (entry : Option Entry) → SetsEntry before after slot entry → (other : ℕ) → other ≢ slot → domain_aid after.entries.items other ≡ domain_aid before.entries.items other
  other_aid entry set other apart = ap (λ (o : Option Entry). unwrap_or (option_map (λ e. e.aid) o) []) (other_slot entry set other apart)

  -- what the slot holds then
  pub this_slot : (entry : Option Entry) → slot < length before.entries.items → SetsEntry before after slot entry → thing_in after.entries.items slot ≡ entry
  this_slot entry within set = ap (λ (es : List (Option Entry)). thing_in es slot) set.entries ∙ get_or-set_same before.entries.items slot entry None within

  -- an entry in a slot that was free
  pub keeps_domains_put : Well said → (entry domain : Entry) → slot < length before.entries.items → SetsEntry before after slot (Some entry)
      → thing_in before.entries.items slot ≡ None → thing_in before.entries.items entry.domain ≡ Some domain → KeepsDomains before after
  keeps_domains_put well entry domain within set free there = record {
    entries = λ s e at. elim (cases_eq s slot) [
      | inl same ↦
          (let held_here : thing_in after.entries.items slot ≡ Some e = subst (λ (n : ℕ). thing_in after.entries.items n ≡ Some e) same at in
          let alike : entry ≡ e = (let here = this_slot (Some entry) within set in cc) in
          subst (λ (x : Entry). domain_aid after.entries.items x.domain ≡ domain_aid before.entries.items x.domain) alike (used_kept entry.domain domain there))
      | inr other ↦
          (let was : thing_in before.entries.items s ≡ Some e = sym (other_slot (Some entry) set s other) ∙ at in
          let used = domain_is_used page before said says well s e was in
          used_kept e.domain used.0 used.1)
    ];
    files = λ s file at. (let used = file_domain_is_used page before said says well s file at in used_kept file.domain used.0 used.1);
    keys = λ s key at. (let used = key_owner_is_used page before said says well s key at in used_kept key.owner used.0 used.1);
    objects = λ s object at. (let used = object_owner_is_used page before said says well s object at in used_kept object.owner used.0 used.1);
  }
    where
      used_kept : (s : ℕ) (x : Entry) → thing_in before.entries.items s ≡ Some x → domain_aid after.entries.items s ≡ domain_aid before.entries.items s
      used_kept s x used = other_aid (Some entry) set s (λ same. (let none = ap (thing_in before.entries.items) same in cc))

  -- an entry in place of one with its AID
  pub keeps_domains_replaced : (was entry : Entry) → slot < length before.entries.items → SetsEntry before after slot (Some entry)
      → thing_in before.entries.items slot ≡ Some was → entry.aid ≡ was.aid → KeepsDomains before after
  keeps_domains_replaced was entry within set at alike = record {
    entries = λ s e there. kept e.domain;
    files = λ s file there. kept file.domain;
    keys = λ s key there. kept key.owner;
    objects = λ s object there. kept object.owner;
  }
    where
      kept : (s : ℕ) → domain_aid after.entries.items s ≡ domain_aid before.entries.items s
      kept s = elim (cases_eq s slot) [
        | inl same ↦
            (let aid = λ (es : List (Option Entry)) (n : ℕ). domain_aid es n in
            ap (aid after.entries.items) same ∙ ap (λ (o : Option Entry). unwrap_or (option_map (λ e. e.aid) o) []) (this_slot (Some entry) within set) ∙ alike
            ∙ sym (ap (λ (o : Option Entry). unwrap_or (option_map (λ e. e.aid) o) []) at) ∙ ap (aid before.entries.items) (sym same))
        | inr other ↦ other_aid (Some entry) set s other
      ]

  -- an entry taken out that is the domain of no other thing
  pub keeps_domains_removed : slot < length before.entries.items → SetsEntry before after slot None → NoneNames before slot → KeepsDomains before after
  keeps_domains_removed within set none = record {
    entries = λ s e at. elim (cases_eq s slot) [
      | inl same ↦
          (let gone = this_slot None within set in
          let here : thing_in after.entries.items slot ≡ Some e = subst (λ (n : ℕ). thing_in after.entries.items n ≡ Some e) same at in cc)
      | inr other ↦ other_aid None set e.domain (none.entries s e other (sym (other_slot None set s other) ∙ at))
    ];
    files = λ s file at. other_aid None set file.domain (none.files s file at);
    keys = λ s key at. other_aid None set key.owner (none.keys s key at);
    objects = λ s object at. other_aid None set object.owner (none.objects s object at);
  }
