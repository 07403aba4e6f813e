-- What tables say after the lock marks of a domain and of all below it were set or cleared.
use Rattle.std.proofs.Common.{◌≡◌, inl, inr, ℕ, suc, Bool, cond, List, [], ◌∷◌, length, Option, None, Some, refl, ap, sym, subst, ◌∙◌, arith}
use Rattle.std.specs.Prelude.{map, unwrap_or}
use Rattle.std.specs.Option.{option_map}
use Rattle.std.specs.List.Sorted.{IsPermutation}
use Rattle.std.proofs.lemmas.Bool.{cases_Bool}
use Rattle.std.proofs.lemmas.List.Sorted.{IsPermutation-map}
use Rattle.card_types.specs.Registry as registry
use Rattle.card_types.specs.RegistryChange.{with_locks}
use Rattle.card_types.specs.Represents.{Represents, counter_of, domain_aid, entry_of, file_of, keeps_counter, key_of, object_of, things_in, thing_in}
use Rattle.card_types.specs.Well.{Well}
use Rattle.card_types.specs.declared.tables.Entry.{Entry}
use Rattle.card_types.specs.declared.tables.Tables.{Tables}
use Rattle.card_types.proofs.ChangedSlot.{same_all, same_slots}
use Rattle.card_types.proofs.MappedEntries.{entries_changed_ascending, some_keep}
use Rattle.domain_tree.specs.Above.{IsTreeOf}
use Rattle.registry.specs.Tree.{LocksTree, with_lock}
use Rattle.registry.proofs.Tree.{in_tree_named, named_in_tree, these, these_tell, used_in_tree}

-- a list that shows the things in slots, each of them changed where it is
mapped_slots : {T X : Type 0} (view view' : T → X) (f : X → X) (before after : List (Option T)) → length after ≡ length before
    → ((slot : ℕ) → option_map view' (thing_in after slot) ≡ option_map f (option_map view (thing_in before slot))) → map view' (things_in after) ≡ map f (map view (things_in before))
mapped_slots view view' f [] [] long each = refl
mapped_slots view view' f [] (y ∷ after) long each = absurd (omega (arith, long))
mapped_slots view view' f (x ∷ before) [] long each = absurd (omega (arith, long))
mapped_slots view view' f (None ∷ before) (None ∷ after) long each = mapped_slots view view' f before after (omega (arith, long)) (λ slot. each (suc slot))
mapped_slots view view' f (None ∷ before) (Some y ∷ after) long each = absurd (let first = each 0 in cc)
mapped_slots view view' f (Some x ∷ before) (None ∷ after) long each = absurd (let first = each 0 in cc)
mapped_slots view view' f (Some x ∷ before) (Some y ∷ after) long each =
    let first : view' y ≡ f (view x) = (let both = each 0 in cc) in
    let rest = mapped_slots view view' f before after (omega (arith, long)) (λ slot. each (suc slot)) in
    rw (first, rest) refl

module _ (page : ℕ → List ℕ) (before after : Tables) (said : registry.Registry) (says : Represents page before said) (well : Well said) (domain : ℕ) (top : Entry)
    (at : thing_in before.entries.items domain ≡ Some top) (locked : Bool) (locks : LocksTree before after domain locked)
    (long : length after.entries.items ≡ length before.entries.items) where
  abbrev tree : List ℕ → Bool
  tree = these page before said says well domain top at

  abbrev mark : registry.Entry → registry.Entry
  mark entry = record entry { life = record { life = entry.life.life; locked = locked } }

  abbrev marks : registry.Entry → registry.Entry
  marks entry = cond (tree entry.aid) (mark entry) entry

  free_slot : (slot : ℕ) → thing_in before.entries.items slot ≡ None → thing_in after.entries.items slot ≡ None
  free_slot slot free =
      locks.outside slot (λ there. (let entry = used_in_tree before.entries.items domain slot top at there in let used = entry.1 in cc)) ∙ free

  -- what a used slot holds then
  used_slot : (slot : ℕ) (entry : Entry) → thing_in before.entries.items slot ≡ Some entry
      → thing_in after.entries.items slot ≡ Some (cond (tree entry.aid) (with_lock locked entry) entry)
  used_slot slot entry here =
      let tells = these_tell page before said says well domain top at entry.aid in
      elim (cases_Bool (tree entry.aid)) [
        | inl there ↦
            rw there (locks.inside slot (in_tree_named page before said says well domain top at slot entry here (tells.0 there)) ∙ ap (option_map (with_lock locked)) here)
        | inr other ↦
            rw other (locks.outside slot (λ there. (let yes = tells.1 (named_in_tree page before said says well domain top at slot entry here there) in cc)) ∙ here)
      ]

  same_aids : (slot : ℕ) → domain_aid after.entries.items slot ≡ domain_aid before.entries.items slot
  same_aids slot = by (thing_in before.entries.items slot) refl
    where
      aid_in : Option Entry → List ℕ
      aid_in o = unwrap_or (option_map (λ (e : Entry). e.aid) o) []

      by : (o : Option Entry) → thing_in before.entries.items slot ≡ o → domain_aid after.entries.items slot ≡ domain_aid before.entries.items slot
      by None free = (let gone = free_slot slot free in rw (gone, free) refl)
      by (Some entry) here = elim (cases_Bool (tree entry.aid)) [
        | inl there ↦ (let then = used_slot slot entry here in rw (then, here, there) refl)
        | inr other ↦ (let then = used_slot slot entry here in rw (then, here, other) refl)
      ]

  abbrev view : Entry → registry.Entry
  view = entry_of before.entries.items before.files.items

  abbrev view' : Entry → registry.Entry
  view' = entry_of after.entries.items after.files.items

  same_view : (entry : Entry) → view' entry ≡ view entry
  same_view entry = rw (same_aids entry.domain, locks.files) refl

  same_slot : (slot : ℕ) → option_map view' (thing_in after.entries.items slot) ≡ option_map marks (option_map view (thing_in before.entries.items slot))
  same_slot slot = by (thing_in before.entries.items slot) refl
    where
      by : (o : Option Entry) → thing_in before.entries.items slot ≡ o → option_map view' (thing_in after.entries.items slot) ≡ option_map marks (option_map view (thing_in before.entries.items slot))
      by None free = (let gone = free_slot slot free in rw (gone, free) refl)
      by (Some entry) here = elim (cases_Bool (tree entry.aid)) [
        | inl there ↦ (let then = used_slot slot entry here in rw (then, here, there) (ap Some (same_view (with_lock locked entry))))
        | inr other ↦ (let then = used_slot slot entry here in rw (then, here, other) (ap Some (same_view entry)))
      ]

  tree_locked : Represents page after (with_locks said tree locked)
  tree_locked = record {
    life = locks.life ∙ says.life;
    entries = subst (λ (xs : List registry.Entry). IsPermutation xs (map marks said.entries)) (sym (mapped_slots view view' marks before.entries.items after.entries.items long same_slot))
        (IsPermutation-map marks (map view (things_in before.entries.items)) said.entries says.entries);
    files = same_all (file_of page before.entries.items) (file_of page after.entries.items) before.files.items after.files.items said.files says.files locks.files
        (λ other file there. rw (same_aids file.domain));
    keys = same_all (key_of before.entries.items) (key_of after.entries.items) before.keys.items after.keys.items said.keys says.keys locks.keys
        (λ other key there. rw (same_aids key.owner));
    counters = same_slots (counter_of before.entries.items) (counter_of after.entries.items) keeps_counter before.keys.items after.keys.items said.counters says.counters locks.keys
        (λ other key there. rw (same_aids key.owner));
    objects = same_all (object_of before.entries.items) (object_of after.entries.items) before.objects.items after.objects.items said.objects says.objects locks.objects
        (λ other object there. rw (same_aids object.owner));
    ascending = entries_changed_ascending said marks
        (some_keep tree mark (record { aid = λ entry. refl; file = λ entry. refl; privileges = λ entry. refl })) (λ entry. cond_same entry) says.ascending;
  }
    where
      cond_same : (entry : registry.Entry) → (marks entry).domain ≡ entry.domain
      cond_same entry = elim (cases_Bool (tree entry.aid)) [
        | inl there ↦ rw there refl
        | inr other ↦ rw other refl
      ]

  pub says_locked : (these : List ℕ → Bool) × IsTreeOf said (domain_aid before.entries.items domain) these × Represents page after (with_locks said these locked)
  says_locked = (tree, these_tell page before said says well domain top at, tree_locked)
