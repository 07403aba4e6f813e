-- What tables are after a thing was removed: which things are left in their slots, and that they are a card's over any load pages.
use Rattle.std.proofs.Common.{◌≡◌, ◌≢◌, inl, inr, ℕ, zero, suc, ◌==◌, ◌++◌, Bool, true, List, [], ◌∷◌, Option, None, Some, length, refl, ap, subst, sym, ◌∙◌, append_assoc}
use Rattle.std.specs.Prelude.{All, Contains, IsSome, MatchOption, map, nat_eq, not, slice_set}
use Rattle.std.specs.List.{AllByRecursion, IsDistinct, concat}
use Rattle.std.specs.Option.{option_map}
use Rattle.std.proofs.lemmas.Bool.{cases_Bool, cases_eq, eqb-true, not-true}
use Rattle.std.proofs.lemmas.List.{get_or-set_other, length-map, length-set}
use Rattle.std.proofs.lemmas.List.Elements.{All-cons, All-head, All-tail}
use Rattle.std.proofs.lemmas.Map.Keys.{IsDistinct-cons, IsDistinct-head, IsDistinct-tail}
use Rattle.card_check.proofs.CardNames.{file_aid_is}
use Rattle.card_core.specs.Prelude.{AreCards, HasIssuer, IsAlone, IsFrom, IsInLoadPages, IsNoDomain, IsOfCard, IsToGoIn, IsUnloaded, LeavesOthers, LeavesOwned, MayRemoveEntry, RemovesEntry, RemovesLoaded, Represents, SetsFile, Well, aid_of, domain_aid, entry_file, entry_of, file_aid, file_of, key_owner, object_owner, pages_named, same_aid, slot_without, thing_in, things_in, without_applications, without_entry, without_file}
use Rattle.card_types.proofs.ApplicationsRemoved.{applications_removed_keep}
use Rattle.card_types.proofs.Domains.{domain_aid_is, domain_is_used, file_domain_is_used, loaded_file_is_used, same_domain}
use Rattle.card_types.proofs.EntryNames.{one_entry_slot}
use Rattle.card_types.proofs.FileNames.{one_file_slot}
use Rattle.card_types.proofs.Members.{filtered}
use Rattle.card_types.proofs.RemovedThing.{entry_removed_keeps, file_removed_keeps}
use Rattle.card_types.proofs.SameAid.{same_aid_decides}
use Rattle.card_types.proofs.Shows.{shows_used}
use Rattle.card_types.specs.Registry as registry
use Rattle.card_types.specs.declared.factory.TheConstants.{FACTORY_FILE, ISSUER}
use Rattle.card_types.specs.declared.found.Found.TheVariants as Thing
use Rattle.card_types.specs.declared.tables.Entry.{Entry}
use Rattle.card_types.specs.declared.tables.KeyRec.{KeyRec}
use Rattle.card_types.specs.declared.tables.LoadFile.{LoadFile}
use Rattle.card_types.specs.declared.tables.Object.{Object}
use Rattle.card_types.specs.declared.tables.Tables.{Tables}
use Rattle.card_types.specs.declared.tables.TheConstants.{ISSUER_SLOT}
use Rattle.registry.proofs.Freed.{held_freed, left_there, other_stays}
use Rattle.card_core.proofs.Cards.{AreFiles, cards_from, in_order}
use Rattle.card_core.proofs.Confirming.{entry_in}

-- what a thing's slot holds
thing_there : {T : Type 0} (name : T → List ℕ) (slot : Option T) → IsSome (option_map name slot) → (thing : T) × (slot ≡ Some thing)
thing_there name None some = cc
thing_there name (Some thing) some = (thing, refl)

pub entry_there : (tables : Tables) (slot : ℕ) → IsSome (aid_of tables (Thing.Entry slot)) → (entry : Entry) × (thing_in tables.entries.items slot ≡ Some entry)
entry_there tables slot = thing_there (λ (e : Entry). e.aid) (thing_in tables.entries.items slot)

pub file_there : (tables : Tables) (slot : ℕ) → IsSome (aid_of tables (Thing.File slot)) → (file : LoadFile) × (thing_in tables.files.items slot ≡ Some file)
file_there tables slot = thing_there (λ (f : LoadFile). f.aid) (thing_in tables.files.items slot)

-- what is said of a thing that is to go, by the slots of entries and of Executable Load Files
pub no_domain : (tables : Tables) (related : Bool) (slot : ℕ) → IsAlone tables related (Thing.Entry slot) → IsNoDomain tables slot
no_domain tables related slot alone = record {
  entries = λ other entry apart at same. alone slot refl (inl (other, entry, apart, at, same));
  files = λ other file at same. alone slot refl (inr (other, file, at, same));
}

pub no_source : (tables : Tables) (slot : ℕ) → ((other : ℕ) → IsFrom tables slot other → ⊥) → IsUnloaded tables slot
no_source tables slot none other entry at same = none other (subst (λ (o : Option Entry). MatchOption o ⊥ (λ e. e.file ≡ slot)) (sym at) same)

pub not_factory : (tables : Tables) (slot : ℕ) (file : LoadFile) → thing_in tables.files.items slot ≡ Some file → aid_of tables (Thing.File slot) ≢ Some FACTORY_FILE
    → file_aid tables.files.items slot ≢ FACTORY_FILE
not_factory tables slot file at other same =
    other (ap (option_map (λ (f : LoadFile). f.aid)) at ∙ ap Some (sym (file_aid_is tables.files.items slot file at) ∙ same))

-- where the slots are the same, all is left; where the things of one owner are freed, those of others
same_owned : {T : Type 0} (owner : T → ℕ) (stays : ℕ → Type 0) (before after : List (Option T)) → after ≡ before → LeavesOwned owner stays before after
same_owned owner stays before after same slot thing =
    (λ at. ap (λ slots. thing_in slots slot) (sym same) ∙ at, λ at _. ap (λ slots. thing_in slots slot) same ∙ at)

freed_owned : {T : Type 0} (owner : T → ℕ) (gone : ℕ) (before after : List (Option T)) → after ≡ map (slot_without owner gone) before
    → LeavesOwned owner (λ slot. slot ≡ gone → ⊥) before after
freed_owned owner gone before after is slot thing = (
  λ at. (left_there owner gone before slot thing (ap (λ slots. thing_in slots slot) (sym is) ∙ at)).0,
  λ at stays. ap (λ slots. thing_in slots slot) is ∙ other_stays owner gone before slot thing at stays,
)

module _ (before after : Tables) (slot : ℕ) where
  pub entry_leaves : (related : Bool) → RemovesEntry before after slot → LeavesOthers before after related (Thing.Entry slot)
  entry_leaves related removes = record {
    entries = λ other stays. ap (λ slots. thing_in slots other) removes.entries ∙ get_or-set_other before.entries.items slot other None None stays;
    keys = freed_owned key_owner slot before.keys.items after.keys.items removes.keys;
    objects = freed_owned object_owner slot before.objects.items after.objects.items removes.objects;
  }

  pub loaded_leaves : RemovesLoaded before after slot → LeavesOthers before after true (Thing.File slot)
  loaded_leaves removes = record {
    entries = λ other stays.
        ap (λ slots. thing_in slots other) removes.entries ∙ held_freed entry_file slot before.entries.items other ∙ kept other stays (thing_in before.entries.items other) refl;
    keys = same_owned key_owner (λ owner. IsToGoIn before true (Thing.File slot) owner → ⊥) before.keys.items after.keys.items removes.keys;
    objects = same_owned object_owner (λ owner. IsToGoIn before true (Thing.File slot) owner → ⊥) before.objects.items after.objects.items removes.objects;
  }
    where
      kept : (other : ℕ) → (IsToGoIn before true (Thing.File slot) other → ⊥) → (o : Option Entry) → thing_in before.entries.items other ≡ o → slot_without entry_file slot o ≡ o
      kept other stays None at = refl
      kept other stays (Some entry) at = elim (cases_Bool (entry.file == slot)) [
        | inl same ↦ absurd (stays (refl, subst (λ (o : Option Entry). MatchOption o ⊥ (λ e. e.file ≡ slot)) (sym at) (eqb-true entry.file slot same)))
        | inr apart ↦ rw apart refl
      ]

  pub file_leaves : (related : Bool) → SetsFile before after slot None → LeavesOthers before after related (Thing.File slot)
  file_leaves related set = record {
    entries = λ other stays. ap (λ slots. thing_in slots other) set.entries;
    keys = same_owned key_owner (λ owner. IsToGoIn before related (Thing.File slot) owner → ⊥) before.keys.items after.keys.items set.keys;
    objects = same_owned object_owner (λ owner. IsToGoIn before related (Thing.File slot) owner → ⊥) before.objects.items after.objects.items set.objects;
  }

-- a thing that may go by its slot may go by its AID
module _ (page : ℕ → List ℕ) (tables : Tables) (said : registry.Registry) (says : Represents page tables said) (well : Well said) where
  pub may_remove_entry : HasIssuer tables.entries.items → (slot : ℕ) (entry : Entry) → thing_in tables.entries.items slot ≡ Some entry → IsNoDomain tables slot → slot ≢ ISSUER_SLOT
      → MayRemoveEntry said (domain_aid tables.entries.items slot)
  may_remove_entry issuer slot entry at alone other = record {
    other = λ same.
        (let own = entry_in tables.entries.items ISSUER_SLOT (λ e. e.aid ≡ ISSUER) issuer in
        other (one_entry_slot page tables said says slot ISSUER_SLOT entry own.0 at own.1 (sym aid ∙ same ∙ sym own.2)));
    no_entry = λ e there in_it.
        (let from = (shows_used (entry_of tables.entries.items tables.files.items) tables.entries.items said.entries says.entries).from e there in
        let domain = domain_is_used page tables said says well from.0 from.1 from.2 in
        let up = same_domain page tables said says from.1.domain slot domain.0 entry domain.1 at (ap (λ (x : registry.Entry). x.domain) from.4 ∙ in_it) in
        elim (cases_eq from.0 slot) [
          | inl same ↦
              sym (ap (λ (x : registry.Entry). x.aid) from.4) ∙ sym (domain_aid_is tables.entries.items from.0 from.1 from.2) ∙ ap (domain_aid tables.entries.items) same
          | inr apart ↦ absurd (alone.entries from.0 from.1 apart from.2 up)
        ]);
    no_file = λ f there in_it.
        (let from = (shows_used (file_of page tables.entries.items) tables.files.items said.files says.files).from f there in
        let domain = file_domain_is_used page tables said says well from.0 from.1 from.2 in
        let up = same_domain page tables said says from.1.domain slot domain.0 entry domain.1 at (ap (λ (x : registry.LoadFile). x.domain) from.4 ∙ in_it) in
        alone.files from.0 from.1 from.2 up);
  }
    where
      aid : domain_aid tables.entries.items slot ≡ entry.aid
      aid = domain_aid_is tables.entries.items slot entry at

  pub none_loaded : (slot : ℕ) (file : LoadFile) → thing_in tables.files.items slot ≡ Some file → IsUnloaded tables slot → (e : registry.Entry) → Contains said.entries e
      → e.file ≢ file_aid tables.files.items slot
  none_loaded slot file at unloaded e there comes =
      let from = (shows_used (entry_of tables.entries.items tables.files.items) tables.entries.items said.entries says.entries).from e there in
      let loaded = loaded_file_is_used page tables said says well from.0 from.1 from.2 in
      let alike = sym (file_aid_is tables.files.items from.1.file loaded.0 loaded.1) ∙ ap (λ (x : registry.Entry). x.file) from.4 ∙ comes ∙ file_aid_is tables.files.items slot file at in
      unloaded from.0 from.1 from.2 (one_file_slot page tables said says from.1.file slot loaded.0 file loaded.1 at alike)

-- Executable Load Files without one that is not the factory's
all_dropped : (P : ℕ → Type 0) (a b c : List ℕ) → AllByRecursion P (a ++ (b ++ c)) → AllByRecursion P (a ++ c)
all_dropped P [] [] c all = all
all_dropped P [] (y ∷ b) c all = all_dropped P [] b c all.1
all_dropped P (x ∷ a) b c all = (all.0, all_dropped P a b c all.1)

distinct_dropped : (a b c : List ℕ) → IsDistinct nat_eq (a ++ (b ++ c)) → IsDistinct nat_eq (a ++ c)
distinct_dropped [] [] c apart = apart
distinct_dropped [] (y ∷ b) c apart = distinct_dropped [] b c (IsDistinct-tail nat_eq y (b ++ c) apart)
distinct_dropped (x ∷ a) b c apart =
    IsDistinct-cons nat_eq x (a ++ c) (all_dropped _ a b c (IsDistinct-head nat_eq x (a ++ (b ++ c)) apart)) (distinct_dropped a b c (IsDistinct-tail nat_eq x (a ++ (b ++ c)) apart))

abbrev pages_in : List (Option LoadFile) → List ℕ
pages_in slots = concat (map pages_named (things_in slots))

pages_dropped : (first : List ℕ) (slots : List (Option LoadFile)) (slot : ℕ) → IsDistinct nat_eq (first ++ pages_in slots) → IsDistinct nat_eq (first ++ pages_in (slice_set slots slot None))
pages_dropped first [] slot apart = apart
pages_dropped first (None ∷ slots) zero apart = apart
pages_dropped first (Some file ∷ slots) zero apart = distinct_dropped first (pages_named file) (pages_in slots) apart
pages_dropped first (None ∷ slots) (suc slot) apart = pages_dropped first slots slot apart
pages_dropped first (Some file ∷ slots) (suc slot) apart =
    subst (IsDistinct nat_eq) (append_assoc first (pages_named file) (pages_in (slice_set slots slot None)))
    (pages_dropped (first ++ pages_named file) slots slot (subst (IsDistinct nat_eq) (sym (append_assoc first (pages_named file) (pages_in slots))) apart))

pub all_left : (P : LoadFile → Type 0) (slots : List (Option LoadFile)) (slot : ℕ) → All P (things_in slots) → All P (things_in (slice_set slots slot None))
all_left P [] slot all = all
all_left P (None ∷ slots) zero all = all
all_left P (Some file ∷ slots) zero all = All-tail P file (things_in slots) all
all_left P (None ∷ slots) (suc slot) all = all_left P slots slot all
all_left P (Some file ∷ slots) (suc slot) all =
    All-cons P file (things_in (slice_set slots slot None)) (All-head P file (things_in slots) all) (all_left P slots slot (All-tail P file (things_in slots) all))

files_left : (slots : List (Option LoadFile)) (slot : ℕ) → file_aid slots slot ≢ FACTORY_FILE → AreFiles slots → AreFiles (slice_set slots slot None)
files_left slots slot other are = record {
  factory = subst (λ (o : Option LoadFile). MatchOption o ⊥ (λ file. (file.aid ≡ FACTORY_FILE) × (file.len ≡ 0)))
      (sym (get_or-set_other slots slot 0 None None (λ zero. other (ap (file_aid slots) (sym zero) ∙ named (thing_in slots 0) refl are.factory)))) are.factory;
  pages = all_left IsInLoadPages slots slot are.pages;
  apart = pages_dropped [] slots slot are.apart;
}
  where
    named : (o : Option LoadFile) → thing_in slots 0 ≡ o → MatchOption o ⊥ (λ file. (file.aid ≡ FACTORY_FILE) × (file.len ≡ 0)) → file_aid slots 0 ≡ FACTORY_FILE
    named None at is = absurd is
    named (Some file) at is = file_aid_is slots 0 file at ∙ is.0

module _ (before after : Tables) (slot : ℕ) (cards : AreCards before) where
  -- after an entry went
  pub entry_gone_cards : (entry : Entry) → thing_in before.entries.items slot ≡ Some entry → RemovesEntry before after slot → IsNoDomain before slot → slot ≢ ISSUER_SLOT
      → ((page : ℕ → List ℕ) (said : registry.Registry) → Represents page before said → Well said
      → Represents page after (without_entry said (domain_aid before.entries.items slot))) → AreCards after
  entry_gone_cards entry at removes alone other each =
      cards_from before after
      (ap (λ (slots : List (Option Entry)). length slots) removes.entries ∙ length-set before.entries.items slot None)
      (ap (λ (slots : List (Option LoadFile)). length slots) removes.files)
      (ap (λ (slots : List (Option KeyRec)). length slots) removes.keys ∙ length-map before.keys.items (slot_without key_owner slot))
      (ap (λ (slots : List (Option Object)). length slots) removes.objects ∙ length-map before.objects.items (slot_without object_owner slot))
      (λ issuer. subst (λ (o : Option Entry). MatchOption o ⊥ (λ e. e.aid ≡ ISSUER)) (sym ((entry_leaves before after slot true removes).entries ISSUER_SLOT (λ same. other (sym same)))) issuer)
      (λ files. subst AreFiles (sym removes.files) files)
      (λ page said says well.
      (let aid = domain_aid before.entries.items slot in
      let may = may_remove_entry page before said says well (in_order before cards).layout.issuer slot entry at alone other in (
        without_entry said aid,
        each page said says well,
        (entry_removed_keeps said aid (record { well = well; ascending = says.ascending }) may).well,
      )))
      cards

  -- after an Executable Load File went
  module _ (file : LoadFile) (at : thing_in before.files.items slot ≡ Some file) (other : file_aid before.files.items slot ≢ FACTORY_FILE) where
    abbrev aid : List ℕ
    aid = file_aid before.files.items slot

    pub file_gone_cards : SetsFile before after slot None → IsUnloaded before slot
        → ((page : ℕ → List ℕ) (said : registry.Registry) → Represents page before said → Well said → Represents page after (without_file said aid)) → AreCards after
    file_gone_cards set unloaded each =
        cards_from before after
        (ap (λ (slots : List (Option Entry)). length slots) set.entries)
        (ap (λ (slots : List (Option LoadFile)). length slots) set.files ∙ length-set before.files.items slot None)
        (ap (λ (slots : List (Option KeyRec)). length slots) set.keys)
        (ap (λ (slots : List (Option Object)). length slots) set.objects)
        (λ issuer. subst HasIssuer (sym set.entries) issuer)
        (λ files. subst AreFiles (sym set.files) (files_left before.files.items slot other files))
        (λ page said says well.
        (let of : IsOfCard said = record { well = well; ascending = says.ascending } in (
          without_file said aid,
          each page said says well,
          (file_removed_keeps said aid of (record { other = other; no_entry = none_loaded page before said says well slot file at unloaded })).well,
        )))
        cards

    -- with what comes from it
    pub loaded_gone_cards : RemovesLoaded before after slot → (IsToGoIn before true (Thing.File slot) ISSUER_SLOT → ⊥)
        → ((page : ℕ → List ℕ) (said : registry.Registry) → Represents page before said → Well said → Represents page after (without_file (without_applications said aid) aid))
        → AreCards after
    loaded_gone_cards removes issuer_stays each =
        cards_from before after
        (ap (λ (slots : List (Option Entry)). length slots) removes.entries ∙ length-map before.entries.items (slot_without entry_file slot))
        (ap (λ (slots : List (Option LoadFile)). length slots) removes.files ∙ length-set before.files.items slot None)
        (ap (λ (slots : List (Option KeyRec)). length slots) removes.keys)
        (ap (λ (slots : List (Option Object)). length slots) removes.objects)
        (λ issuer. subst (λ (o : Option Entry). MatchOption o ⊥ (λ e. e.aid ≡ ISSUER)) (sym ((loaded_leaves before after slot removes).entries ISSUER_SLOT issuer_stays)) issuer)
        (λ files. subst AreFiles (sym removes.files) (files_left before.files.items slot other files))
        (λ page said says well.
        (let rest = without_applications said aid in
        let of = applications_removed_keep said aid (record { well = well; ascending = says.ascending }) other in (
          without_file rest aid,
          each page said says well,
          (file_removed_keeps rest aid of (record {
            other = other;
            no_entry = λ e there same.
                (let kept = not-true (same_aid e.file aid) (filtered (λ (x : registry.Entry). not (same_aid x.file aid)) said.entries e there).1 in
                let hit = (same_aid_decides e.file aid).1 same in
                cc);
          })).well,
        )))
        cards
