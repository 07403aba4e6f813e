-- What the tables of a card have in their slots.
use Rattle.std.proofs.Common.{◌≡◌, ◌≢◌, inl, inr, ℕ, ◌≤◌, Bool, true, cond, List, [], ◌∷◌, Option, None, Some, refl, ap, sym, subst, ◌∙◌, arith}
use Rattle.std.specs.Prelude.{All, map}
use Rattle.std.specs.Option.{option_map}
use Rattle.std.specs.List.{concat}
use Rattle.std.proofs.lemmas.Bool.{eqb-true}
use Rattle.std.proofs.lemmas.List.{length-take}
use Rattle.std.proofs.lemmas.List.Elements.{All-append, All-contains, All-head, All-nil, All-tail}
use Rattle.std.proofs.lemmas.List.Sorted.{sum_by-IsPermutation}
use Rattle.std.proofs.lemmas.List.Sums.{length-filter}
use Rattle.std.proofs.lemmas.Option.{MatchOption-at_some}
use Rattle.card_types.specs.Aid.{same_aid}
use Rattle.card_types.specs.KeySets.{HasKeys, IsKeyOf}
use Rattle.card_types.specs.Privileges.{has, security_domain}
use Rattle.card_types.specs.Registry as registry
use Rattle.card_types.specs.Registry.{entry_named, file_named}
use Rattle.card_types.specs.Represents.{Represents, counter_of, domain_aid, entry_of, file_of, key_of, object_of, things_in, thing_in}
use Rattle.card_types.specs.Well.{IsFactoryFile, IsIssuerDomain, IsWellCounter, IsWellFile, IsWellKey, IsWellObject, Well}
use Rattle.card_types.specs.declared.factory.TheConstants.{ISSUER, FACTORY_FILE}
use Rattle.card_types.specs.declared.found.Found.TheVariants as found
use Rattle.card_types.specs.declared.limits.TheConstants.{FILE_LIMIT}
use Rattle.card_types.specs.declared.tables.Entry.{Entry}
use Rattle.card_types.specs.declared.tables.KeyRec.{KeyRec}
use Rattle.card_types.specs.declared.tables.LoadFile.{LoadFile}
use Rattle.card_types.specs.declared.tables.Object.{Object}
use Rattle.card_types.specs.declared.tables.Tables.{Tables}
use Rattle.card_types.proofs.DomainLines.{line_in_slots}
use Rattle.card_types.proofs.Domains.{domain_aid_is, domain_is_used, file_domain_is_used, key_owner_is_used, loaded_file_is_used, object_owner_is_used, same_domain, well_entry}
use Rattle.card_types.proofs.EntryNames.{entry_in_slot, one_entry_slot}
use Rattle.card_types.proofs.FileNames.{file_in_slot, one_file_slot}
use Rattle.card_types.proofs.KeyNames.{counters_shown, keys_shown, one_key_slot}
use Rattle.card_types.proofs.ObjectNames.{objects_shown, one_object_slot}
use Rattle.card_types.proofs.SameAid.{same_aid_decides}
use Rattle.card_types.proofs.SetMembers.{counter_there}
use Rattle.card_types.proofs.SetNames.{set_of_counter}
use Rattle.card_types.proofs.Shows.{shows_used}
use Rattle.card_check.specs.CardSlots.{HasCardSlots, IsCardEntry, IsCardFile, IsCardKey, IsCardObject, IsDomainSlot, IsFactoryLoadFile, IsIssuerEntry, IsOnlyWithAid, is_key_of}
use Rattle.card_check.specs.IsCard.{IsCard, IsInLoadPages, pages_named}
use Rattle.page_journal.specs.Pages.{IsLoadPage}
use Rattle.card_check.specs.LoadPages.{HaveLoadPages}
use Rattle.card_check.proofs.CardNames.{file_aid_is, in_used, is_factory_slot, some_from, used_from}
use Rattle.card_check.proofs.Counting.{count_of_slots}
use Rattle.card_check.proofs.LoadPagesNamed.{all_of_members}

-- the entry or the file that a slot has, by its AID
held_with : {T : Type 0} (aid : T → List ℕ) (o : Option T) (name : List ℕ) → option_map aid o ≡ Some name → (thing : T) × (o ≡ Some thing) × (aid thing ≡ name)
held_with aid None name is = cc
held_with aid (Some thing) name is = (thing, refl, cc)

module _ (page : ℕ → List ℕ) (tables : Tables) (card : IsCard page tables) where
  abbrev entries : List (Option Entry)
  entries = tables.entries.items

  abbrev files : List (Option LoadFile)
  files = tables.files.items

  abbrev said : registry.Registry
  said = card.said

  abbrev says : Represents page tables said
  says = card.of.says

  abbrev well : Well said
  well = card.of.well

  first_entry : (entry : Entry) × (thing_in entries 0 ≡ Some entry) × (entry.aid ≡ ISSUER)
  first_entry = in_used (λ (entry : Entry). entry.aid ≡ ISSUER) (thing_in entries 0) card.of.layout.issuer

  first_file : (file : LoadFile) × (thing_in files 0 ≡ Some file) × ((file.aid ≡ FACTORY_FILE) × (file.len ≡ 0))
  first_file = in_used (λ (file : LoadFile). (file.aid ≡ FACTORY_FILE) × (file.len ≡ 0)) (thing_in files 0) card.of.factory_file

  issuer_aid : domain_aid entries 0 ≡ ISSUER
  issuer_aid = domain_aid_is entries 0 first_entry.0 first_entry.1 ∙ first_entry.2

  -- a slot that is named by the AID of the Issuer Security Domain is its slot
  issuer_slot : (slot : ℕ) (entry : Entry) → thing_in entries slot ≡ Some entry → domain_aid entries slot ≡ ISSUER → slot ≡ 0
  issuer_slot slot entry at named = same_domain page tables said says slot 0 entry first_entry.0 at first_entry.1 (named ∙ sym issuer_aid)

  issuer_is : IsIssuerEntry first_entry.0
  issuer_is =
      let entry = first_entry.0 in
      let at = first_entry.1 in
      let named : entry_named said ISSUER ≡ Some (entry_of entries files entry) =
      subst (λ (aid : List ℕ). entry_named said aid ≡ Some (entry_of entries files entry)) first_entry.2 (entry_in_slot page tables said says 0 entry at) in
      let is : IsIssuerDomain (entry_of entries files entry) = MatchOption-at_some ⊥ IsIssuerDomain _ named well.issuer in
      let domain = domain_is_used page tables said says well 0 entry at in
      let file = loaded_file_is_used page tables said says well 0 entry at in
      record {
        aid = first_entry.2;
        domain = issuer_slot entry.domain domain.0 domain.1 is.domain;
        file = one_file_slot page tables said says entry.file 0 file.0 first_file.0 file.1 first_file.1
            (sym (file_aid_is files entry.file file.0 file.1) ∙ is.file ∙ sym first_file.2.0);
        module_ = is.module_;
        life = is.life;
        unlocked = is.unlocked;
      }

  factory_is : IsFactoryLoadFile first_file.0
  factory_is =
      let file = first_file.0 in
      let at = first_file.1 in
      let named : file_named said FACTORY_FILE ≡ Some (file_of page entries file) =
      subst (λ (aid : List ℕ). file_named said aid ≡ Some (file_of page entries file)) first_file.2.0 (file_in_slot page tables said says 0 file at) in
      let is : IsFactoryFile (file_of page entries file) = MatchOption-at_some ⊥ IsFactoryFile _ named well.factory_file in
      let domain = file_domain_is_used page tables said says well 0 file at in
      record { aid = first_file.2.0; domain = issuer_slot file.domain domain.0 domain.1 is.domain; len = first_file.2.1 }

  is_domain_slot : (slot : ℕ) → (domain : Entry) × (thing_in entries slot ≡ Some domain) × (has security_domain domain.privileges ≡ true) → IsDomainSlot entries slot
  is_domain_slot slot domain = used_from (λ (e : Entry). has security_domain e.privileges ≡ true) (thing_in entries slot) domain.0 domain.1 domain.2

  well_file : (slot : ℕ) (file : LoadFile) → thing_in files slot ≡ Some file → IsWellFile said (file_of page entries file)
  well_file slot file at = All-contains (IsWellFile said) said.files _ well.files ((shows_used (file_of page entries) files said.files says.files).there slot file at refl)

  -- no entry has the AID of a file
  apart : (a b : ℕ) (x : Entry) (y : LoadFile) → thing_in entries a ≡ Some x → thing_in files b ≡ Some y → x.aid ≢ y.aid
  apart a b x y at_a at_b alike =
      let none = (well_file b y at_b).apart in
      let found = entry_in_slot page tables said says a x at_a in
      let here : entry_named said y.aid ≡ Some (entry_of entries files x) = subst (λ (aid : List ℕ). entry_named said aid ≡ Some (entry_of entries files x)) alike found in
      cc

  entry_alone : (slot : ℕ) (entry : Entry) → thing_in entries slot ≡ Some entry → IsOnlyWithAid tables (found.Entry slot) entry.aid
  entry_alone slot entry at (found.Entry other) named =
      let there = held_with (λ (e : Entry). e.aid) (thing_in entries other) entry.aid named in
      ap found.Entry (one_entry_slot page tables said says other slot there.0 entry there.1 at there.2)
  entry_alone slot entry at (found.File other) named =
      let there = held_with (λ (f : LoadFile). f.aid) (thing_in files other) entry.aid named in
      absurd (apart slot other entry there.0 at there.1 (sym there.2))

  file_alone : (slot : ℕ) (file : LoadFile) → thing_in files slot ≡ Some file → IsOnlyWithAid tables (found.File slot) file.aid
  file_alone slot file at (found.Entry other) named =
      let there = held_with (λ (e : Entry). e.aid) (thing_in entries other) file.aid named in
      absurd (apart other slot there.0 file there.1 at there.2)
  file_alone slot file at (found.File other) named =
      let there = held_with (λ (f : LoadFile). f.aid) (thing_in files other) file.aid named in
      ap found.File (one_file_slot page tables said says other slot there.0 file there.1 at there.2)

  entry_is : (slot : ℕ) (entry : Entry) → thing_in entries slot ≡ Some entry → IsCardEntry tables slot entry
  entry_is slot entry at =
      let is = well_entry page tables said says well slot entry at in
      let proper = is.proper in
      let file = loaded_file_is_used page tables said says well slot entry at in
      record {
        aid = proper.aid;
        alone = entry_alone slot entry at;
        domain = is_domain_slot entry.domain (domain_is_used page tables said says well slot entry at);
        leads = line_in_slots page tables said says well slot entry at;
        loaded = some_from (thing_in files entry.file) file.0 file.1;
        kind = record {
          module_ = proper.module_;
          kind = proper.kind ∙ sym (is_factory_slot files first_file.0 first_file.1 first_file.2.0 (one_file_slot page tables said says) entry.file file.0 file.1);
          domain_module = proper.domain_module;
          life = proper.life;
        };
        rights = record { named = proper.named_privileges; domain_rights = proper.domain_privileges; one_management = proper.one_management };
        receipts = proper.receipts;
      }

  file_is : (slot : ℕ) (file : LoadFile) → thing_in files slot ≡ Some file → IsCardFile tables slot file
  file_is slot file at =
      let is = well_file slot file at in
      record {
        aid = is.aid;
        alone = file_alone slot file at;
        domain = is_domain_slot file.domain (file_domain_is_used page tables said says well slot file at);
        bytes = λ later. elim is.size [
          | inl named ↦
              (let first : slot ≡ 0 = one_file_slot page tables said says slot 0 file first_file.0 at first_file.1 (named ∙ sym first_file.2.0) in
              absurd (omega (arith, first, later)))
          | inr some ↦ omega (arith, some.0, length-take file.len (concat (map page (pages_named file))))
        ];
      }

  pages_each : (fs : List LoadFile) → All IsInLoadPages fs → All IsLoadPage (concat (map pages_named fs))
  pages_each [] all = All-nil IsLoadPage
  pages_each (file ∷ fs) all =
      All-append IsLoadPage (pages_named file) (concat (map pages_named fs)) (All-head IsInLoadPages file fs all).pages (pages_each fs (All-tail IsInLoadPages file fs all))

  pages_are : HaveLoadPages files
  pages_are = record {
    lengths = all_of_members (λ (f : LoadFile). f.len ≤ FILE_LIMIT) (things_in files) (λ file there. (All-contains IsInLoadPages (things_in files) file card.of.files there).size);
    pages = record { each = pages_each (things_in files) card.of.files; apart = card.of.apart };
  }

  key_is : (slot : ℕ) (key : KeyRec) → thing_in tables.keys.items slot ≡ Some key → IsCardKey tables slot key
  key_is slot key at =
      let is : IsWellKey said (key_of entries key) = All-contains (IsWellKey said) said.keys _ well.keys ((keys_shown page tables said says).there slot key at refl) in
      let owner = key_owner_is_used page tables said says well slot key at in
      let mine : registry.Key → Bool = λ other. same_aid other.owner (domain_aid entries key.owner) in
      record {
        owner = is_domain_slot key.owner owner;
        size = is.size;
        size_of_set = λ other another here owned versioned.
            is.size_of_set (key_of entries another) ((keys_shown page tables said says).there other another here refl) (ap (domain_aid entries) owned) versioned;
        name = is.name;
        alone = λ other has.
            (let another = in_used (IsKeyOf key.owner key.version key.identifier) (thing_in tables.keys.items other) has in
            one_key_slot page tables said says other slot another.0 key another.1 at another.2.same_owner another.2.same_version another.2.same_identifier);
        whole = λ low.
            (let counter = counter_there said (domain_aid entries key.owner) key.version (is.whole low).counter in
            let set = set_of_counter page tables said says well key.owner owner.0 counter.counter owner.1 counter.is_there counter.owner_is in
            subst (λ (version : ℕ). (slots : List ℕ) × HasKeys tables.keys.items key.owner version slots) counter.version_is set.1);
        counter = λ keeps.
            (let there = (counters_shown page tables said says).there slot key at keeps in
            let counts : IsWellCounter said (counter_of entries key) = All-contains (IsWellCounter said) said.counters _ well.counters there in
            counts.number);
        few = omega (
          arith,
          count_of_slots (key_of entries) mine (is_key_of key.owner) tables.keys.items refl (λ other another here same.
              (same_aid_decides (domain_aid entries another.owner) (domain_aid entries key.owner)).1 (ap (domain_aid entries) (eqb-true another.owner key.owner same))),
          length-filter mine said.keys,
          sum_by-IsPermutation (λ (k : registry.Key). cond (mine k) 1 0) _ said.keys says.keys,
          well.few_keys_each (domain_aid entries key.owner),
        );
      }

  object_is : (slot : ℕ) (object : Object) → thing_in tables.objects.items slot ≡ Some object → IsCardObject tables slot object
  object_is slot object at =
      let is : IsWellObject said (object_of entries object) = All-contains (IsWellObject said) said.objects _ well.objects ((objects_shown page tables said says).there slot object at refl) in
      record {
        owner = is_domain_slot object.owner (object_owner_is_used page tables said says well slot object at);
        form = is.form;
        alone = λ other has.
            (let another = in_used (λ (o : Object). (o.owner ≡ object.owner) × (o.tag ≡ object.tag)) (thing_in tables.objects.items other) has in
            one_object_slot page tables said says other slot another.0 object another.1 at another.2.0 another.2.1);
      }

  pub slots_of_card : HasCardSlots tables
  slots_of_card = record {
    room = card.of.layout.slots;
    issuer = used_from IsIssuerEntry (thing_in entries 0) first_entry.0 first_entry.1 issuer_is;
    factory_file = used_from IsFactoryLoadFile (thing_in files 0) first_file.0 first_file.1 factory_is;
    entries = record { at = entry_is };
    files = record { at = file_is };
    pages = pages_are;
    keys = record { at = key_is };
    objects = record { at = object_is };
  }
