-- What the slots of a card lay out is as a registry always is.
use Rattle.std.proofs.Common.{◌≡◌, inl, inr, ℕ, ◌*◌, ◌<◌, ◌≤◌, min, Bool, true, cond, ◌==◌, List, [], ◌∷◌, length, take, Option, Some, refl, ap, sym, subst, ◌∙◌, length-append, arith}
use Rattle.std.specs.Prelude.{All, Contains, IsSome, map, nat_lt}
use Rattle.std.specs.List.{concat, sum_by}
use Rattle.std.specs.List.Sorted.{IsPermutation}
use Rattle.std.proofs.lemmas.Bool.{and_from, and_parts, cases_eq, eq-eqb, lt-ltb, ltb-true}
use Rattle.std.proofs.lemmas.List.{length-map, length-take}
use Rattle.std.proofs.lemmas.List.Elements.{All-contains}
use Rattle.std.proofs.lemmas.List.Sorted.{length_permutation, sum_by-IsPermutation}
use Rattle.std.proofs.lemmas.List.Sums.{length-filter, sum_by-cons}
use Rattle.card_types.specs.Aid.{same_aid}
use Rattle.card_types.specs.Hierarchy.{IsLine}
use Rattle.card_types.specs.KeySets.{HasKey, HasKeys, IsKeyOf}
use Rattle.card_types.specs.Privileges.{has, security_domain}
use Rattle.card_types.specs.Registry as registry
use Rattle.card_types.specs.Registry.{domain_of, entry_named, file_named, is_domain, keys_of}
use Rattle.card_types.specs.Represents.{Represents, counter_of, domain_aid, entry_of, file_aid, file_of, keeps_counter, key_of, object_of, things_in, thing_in}
use Rattle.card_types.specs.Well.{IsDomainNamed, IsFactoryFile, IsIssuerDomain, IsWellCounter, IsWellEntry, IsWellFile, IsWellKey, IsWellObject, IsWholeSet, LeadsToRoot, Well, pages_of}
use Rattle.card_types.specs.declared.factory.TheConstants.{ISSUER, FACTORY_FILE}
use Rattle.card_types.specs.declared.limits.TheConstants.{DOMAIN_KEYS, ENTRIES, FILES, FILE_LIMIT, KEYS, OBJECTS}
use Rattle.card_types.specs.declared.tables.Entry.{Entry}
use Rattle.card_types.specs.declared.tables.KeyRec.{KeyRec}
use Rattle.card_types.specs.declared.tables.LoadFile.{LoadFile}
use Rattle.card_types.specs.declared.tables.Object.{Object}
use Rattle.card_types.specs.declared.tables.Tables.{Tables}
use Rattle.card_types.proofs.DomainLines.{line_named}
use Rattle.card_types.proofs.Domains.{domain_aid_is}
use Rattle.card_types.proofs.EntryNames.{entry_in_slot, entry_unnamed}
use Rattle.card_types.proofs.SetMembers.{HasKeyNamed, whole_of}
use Rattle.card_types.proofs.FileNames.{file_in_slot}
use Rattle.card_types.proofs.KeyNames.{counters_shown, keys_shown}
use Rattle.card_types.proofs.Members.{contains_first, filtered}
use Rattle.card_types.proofs.ObjectNames.{objects_shown}
use Rattle.card_types.proofs.SameAid.{same_aid_decides}
use Rattle.card_types.proofs.Shows.{shows_used, used_from_held}
use Rattle.card_check.specs.CardSlots.{HasCardSlots, IsDomainSlot, is_key_of}
use Rattle.card_check.specs.IsCard.{HasPages, pages_named}
use Rattle.card_check.specs.LoadPages.{HasPageNumbers, all_pages}
use Rattle.card_check.proofs.CardNames.{apart, factory_load_file, file_aid_is, in_some, in_used, is_factory_slot, issuer_entry, one_domain, one_file, some_from, used_from}
use Rattle.card_check.proofs.Counting.{count_of_views, few_load_pages, length_of_pages, used_at_most}
use Rattle.card_check.proofs.LoadPagesNamed.{all_of_members}

module _ (page : ℕ → List ℕ) (whole : HasPages page) (tables : Tables) (card : HasCardSlots tables) (said : registry.Registry) (says : Represents page tables said) where
  abbrev entries : List (Option Entry)
  entries = tables.entries.items

  abbrev files : List (Option LoadFile)
  files = tables.files.items

  issuer_aid : domain_aid entries 0 ≡ ISSUER
  issuer_aid = (let issuer = issuer_entry tables card in domain_aid_is entries 0 issuer.0 issuer.1 ∙ issuer.2.aid)

  domain_named : (slot : ℕ) → IsDomainSlot entries slot → IsDomainNamed said (domain_aid entries slot)
  domain_named slot is =
      let domain = in_used (λ (e : Entry). has security_domain e.privileges ≡ true) (thing_in entries slot) is in
      subst (IsDomainNamed said) (sym (domain_aid_is entries slot domain.0 domain.1))
      (used_from (λ (e : registry.Entry). is_domain e ≡ true) (entry_named said domain.0.aid) (entry_of entries files domain.0)
      (entry_in_slot page tables said says slot domain.0 domain.1) domain.2)

  leads_named : (slot : ℕ) (entry : Entry) → thing_in entries slot ≡ Some entry → LeadsToRoot said entry.aid
  leads_named slot entry at =
      let leads = (card.entries.at slot entry at).leads in (
        map (domain_aid entries) leads.0,
        subst (λ (aid : List ℕ). IsLine (domain_of said) aid (map (domain_aid entries) leads.0)) (domain_aid_is entries slot entry at) (line_named page tables said says slot leads.0 leads.1),
      )

  well_entry : (slot : ℕ) (entry : Entry) → thing_in entries slot ≡ Some entry → IsWellEntry said (entry_of entries files entry)
  well_entry slot entry at =
      let is = card.entries.at slot entry at in
      let file = in_some (thing_in files entry.file) is.loaded in
      let factory = factory_load_file tables card in
      record {
        proper = record {
          aid = is.aid;
          module_ = is.kind.module_;
          kind = is.kind.kind ∙ is_factory_slot files factory.0 factory.1 factory.2.aid (one_file tables card) entry.file file.0 file.1;
          domain_module = is.kind.domain_module;
          life = is.kind.life;
          named_privileges = is.rights.named;
          domain_privileges = is.rights.domain_rights;
          one_management = is.rights.one_management;
          receipts = is.receipts;
        };
        domain = domain_named entry.domain is.domain;
        line = leads_named slot entry at;
        loaded = subst (λ (aid : List ℕ). IsSome (file_named said aid)) (sym (file_aid_is files entry.file file.0 file.1))
            (some_from (file_named said file.0.aid) (file_of page entries file.0) (file_in_slot page tables said says entry.file file.0 file.1));
      }

  -- the bytes of a file
  length_of_bytes : (file : LoadFile) → length (file_of page entries file).bytes ≡ min file.len (256 * length (pages_named file))
  length_of_bytes file = length-take file.len (concat (map page (pages_named file))) ∙ ap (min file.len) (length_of_pages page whole (pages_named file))

  -- they take no more pages than there are
  pages_taken : (file : LoadFile) → pages_of (length (file_of page entries file).bytes) ≤ length (pages_named file)
  pages_taken file = omega (arith, length_of_bytes file)

  bytes_at_most : (file : LoadFile) → length (file_of page entries file).bytes ≤ file.len
  bytes_at_most file = omega (arith, length_of_bytes file)

  some_bytes : (file : LoadFile) → HasPageNumbers file → 1 ≤ file.len → 1 ≤ length (file_of page entries file).bytes
  some_bytes file array some =
      let numbers : 1 ≤ length (pages_named file) = omega (arith, length-take (pages_of file.len) file.pages, array, some) in
      omega (arith, length_of_bytes file)

  pages_summed : (fs : List LoadFile) → sum_by (λ (file : registry.LoadFile). pages_of (length file.bytes)) (map (file_of page entries) fs) ≤ length (concat (map pages_named fs))
  pages_summed [] = omega arith
  pages_summed (file ∷ fs) =
      let rest = pages_summed fs in
      omega (
        arith,
        pages_taken file,
        sum_by-cons (λ (file : registry.LoadFile). pages_of (length file.bytes)) (file_of page entries file) (map (file_of page entries) fs),
        length-append (pages_named file) (concat (map pages_named fs)),
      )

  module _ (arrays : All HasPageNumbers (things_in files)) where
    well_file : (slot : ℕ) (file : LoadFile) → thing_in files slot ≡ Some file → IsWellFile said (file_of page entries file)
    well_file slot file at =
        let is = card.files.at slot file at in
        let factory = factory_load_file tables card in
        record {
          aid = is.aid;
          apart = entry_unnamed page tables said says file.aid (λ other entry here same.
              apart tables card other slot entry file here at ((same_aid_decides entry.aid file.aid).0 same));
          domain = domain_named file.domain is.domain;
          size = elim (cases_eq slot 0) [
            | inl first ↦ inl (let here : thing_in files 0 ≡ Some file = subst (λ (s : ℕ). thing_in files s ≡ Some file) first at in
                let same : file ≡ factory.0 = (let there = factory.1 in cc) in
                ap (λ (f : LoadFile). f.aid) same ∙ factory.2.aid)
            | inr later ↦
                (let among = used_from_held files slot file at in
                let short : file.len ≤ FILE_LIMIT = All-contains (λ f. f.len ≤ FILE_LIMIT) (things_in files) file card.pages.lengths among in
                let array : HasPageNumbers file = All-contains HasPageNumbers (things_in files) file arrays among in
                let some = is.bytes (omega (arith, later)) in
                inr (some_bytes file array some, omega (arith, bytes_at_most file, short)))
          ];
        }

  has_key_named : (owner version identifier slot : ℕ) → HasKey tables.keys.items owner version identifier slot → HasKeyNamed said (domain_aid entries owner) version identifier
  has_key_named owner version identifier slot has =
      let key = in_used (IsKeyOf owner version identifier) (thing_in tables.keys.items slot) has in
      record {
        key = key_of entries key.0;
        is_there = (keys_shown page tables said says).there slot key.0 key.1 refl;
        owner_is = ap (domain_aid entries) key.2.same_owner;
        version_is = key.2.same_version;
        identifier_is = key.2.same_identifier;
      }

  whole_set : (owner version : ℕ) (slots : List ℕ) → version < 0x70 → HasKeys tables.keys.items owner version slots → IsWholeSet said (domain_aid entries owner) version
  whole_set owner version slots low has =
      let first = in_used (IsKeyOf owner version 1) (thing_in tables.keys.items has.first) has.first_key in
      whole_of said (domain_aid entries owner) version
      (has_key_named owner version 1 has.first has.first_key) (has_key_named owner version 2 has.second has.second_key) (has_key_named owner version 3 has.third has.third_key)
      (record {
        counter = counter_of entries first.0;
        is_there = (counters_shown page tables said says).there has.first first.0 first.1
            (and_from (first.0.identifier == 1) (nat_lt first.0.version 0x70) (eq-eqb first.0.identifier 1 first.2.same_identifier) (lt-ltb first.0.version 0x70 (omega (arith, first.2.same_version, low))));
        owner_is = ap (domain_aid entries) first.2.same_owner;
        version_is = first.2.same_version;
      })

  well_key : (slot : ℕ) (key : KeyRec) → thing_in tables.keys.items slot ≡ Some key → IsWellKey said (key_of entries key)
  well_key slot key at =
      let is = card.keys.at slot key at in
      record {
        owner = domain_named key.owner is.owner;
        size = is.size;
        size_of_set = λ other among owned versioned.
            (let from = (keys_shown page tables said says).from other among in
            let alike = ap (λ (k : registry.Key). k.owner) from.4 ∙ owned in
            let same = is.size_of_set from.0 from.1 from.2
            (one_domain tables card from.1.owner key.owner (card.keys.at from.0 from.1 from.2).owner is.owner alike)
            (ap (λ (k : registry.Key). k.version) from.4 ∙ versioned) in
            ap (λ (k : registry.Key). length k.bytes) (sym from.4) ∙ same);
        name = is.name;
        whole = λ low. (let set = is.whole low in whole_set key.owner key.version set.0 low set.1);
      }

  well_counter : (slot : ℕ) (key : KeyRec) → thing_in tables.keys.items slot ≡ Some key → keeps_counter key ≡ true → IsWellCounter said (counter_of entries key)
  well_counter slot key at keeps =
      let is = card.keys.at slot key at in
      let low : key.version < 0x70 = ltb-true key.version 0x70 (and_parts (key.identifier == 1) (nat_lt key.version 0x70) keeps).1 in
      let set = is.whole low in
      record { set = whole_set key.owner key.version set.0 low set.1; version = low; number = is.counter keeps }

  well_object : (slot : ℕ) (object : Object) → thing_in tables.objects.items slot ≡ Some object → IsWellObject said (object_of entries object)
  well_object slot object at =
      let is = card.objects.at slot object at in
      record { owner = domain_named object.owner is.owner; form = is.form }

  -- a domain has few keys
  few_keys : (owner : List ℕ) → length (keys_of said owner) ≤ DOMAIN_KEYS
  few_keys owner = by (keys_of said owner) refl
    where
      by : (keys : List registry.Key) → keys_of said owner ≡ keys → length (keys_of said owner) ≤ DOMAIN_KEYS
      by [] none = omega (arith, ap length none)
      by (key ∷ keys) some =
          (let mine : registry.Key → Bool = λ other. same_aid other.owner owner in
          let fits = filtered mine said.keys key (subst (λ (ks : List registry.Key). Contains ks key) (sym some) (contains_first key keys)) in
          let from = (keys_shown page tables said says).from key fits.0 in
          let named : domain_aid entries from.1.owner ≡ owner = ap (λ (k : registry.Key). k.owner) from.4 ∙ (same_aid_decides key.owner owner).0 fits.1 in
          let is = card.keys.at from.0 from.1 from.2 in
          let same = count_of_views (key_of entries) mine (is_key_of from.1.owner) tables.keys.items (λ slot other at mine_too.
          (let alike : domain_aid entries other.owner ≡ domain_aid entries from.1.owner = (same_aid_decides (domain_aid entries other.owner) owner).0 mine_too ∙ sym named in
          eq-eqb other.owner from.1.owner (one_domain tables card other.owner from.1.owner (card.keys.at slot other at).owner is.owner alike))) in
          omega (arith, is.few, same, length-filter mine said.keys, sum_by-IsPermutation (λ (k : registry.Key). cond (mine k) 1 0) _ said.keys says.keys))

  few : {T X : Type 0} (view : T → X) (slots : List (Option T)) (shown : List X) (n : ℕ) → IsPermutation (map view (things_in slots)) shown → length slots ≡ n → length shown ≤ n
  few view slots shown n same is = omega (arith, length_permutation _ shown same, length-map (things_in slots) view, used_at_most slots, is)

  pub card_is_well : All HasPageNumbers (things_in files) → Well said
  card_is_well arrays =
      let issuer = issuer_entry tables card in
      let factory = factory_load_file tables card in
      let issuer_domain : domain_aid entries 0 ≡ ISSUER = issuer_aid in
      let factory_aid : file_aid files 0 ≡ FACTORY_FILE = file_aid_is files 0 factory.0 factory.1 ∙ factory.2.aid in
      record {
        few_entries = few (entry_of entries files) entries said.entries ENTRIES says.entries card.room.entries;
        few_files = few (file_of page entries) files said.files FILES says.files card.room.files;
        few_keys = few (key_of entries) tables.keys.items said.keys KEYS says.keys card.room.keys;
        few_objects = few (object_of entries) tables.objects.items said.objects OBJECTS says.objects card.room.objects;
        few_pages = omega (arith, sum_by-IsPermutation (λ (file : registry.LoadFile). pages_of (length file.bytes)) _ said.files says.files, pages_summed (things_in files), few_load_pages (all_pages files) card.pages.pages);
        few_keys_each = few_keys;
        issuer = used_from IsIssuerDomain (entry_named said ISSUER) (entry_of entries files issuer.0)
            (subst (λ (aid : List ℕ). entry_named said aid ≡ Some (entry_of entries files issuer.0)) issuer.2.aid (entry_in_slot page tables said says 0 issuer.0 issuer.1))
            (record {
              domain = ap (domain_aid entries) issuer.2.domain ∙ issuer_domain;
              file = ap (file_aid files) issuer.2.file ∙ factory_aid;
              module_ = issuer.2.module_;
              life = issuer.2.life;
              unlocked = issuer.2.unlocked;
            });
        factory_file = used_from IsFactoryFile (file_named said FACTORY_FILE) (file_of page entries factory.0)
            (subst (λ (aid : List ℕ). file_named said aid ≡ Some (file_of page entries factory.0)) factory.2.aid (file_in_slot page tables said says 0 factory.0 factory.1))
            (record {
              domain = ap (domain_aid entries) factory.2.domain ∙ issuer_domain;
              bytes = ap (λ (n : ℕ). take n (concat (map page (pages_named factory.0)))) factory.2.len;
            });
        entries = all_of_members (IsWellEntry said) said.entries (λ x there.
            (let from = (shows_used (entry_of entries files) entries said.entries says.entries).from x there in
            subst (IsWellEntry said) from.4 (well_entry from.0 from.1 from.2)));
        files = all_of_members (IsWellFile said) said.files (λ x there.
            (let from = (shows_used (file_of page entries) files said.files says.files).from x there in
            subst (IsWellFile said) from.4 (well_file arrays from.0 from.1 from.2)));
        keys = all_of_members (IsWellKey said) said.keys (λ x there.
            (let from = (keys_shown page tables said says).from x there in
            subst (IsWellKey said) from.4 (well_key from.0 from.1 from.2)));
        counters = all_of_members (IsWellCounter said) said.counters (λ x there.
            (let from = (counters_shown page tables said says).from x there in
            subst (IsWellCounter said) from.4 (well_counter from.0 from.1 from.2 from.3)));
        objects = all_of_members (IsWellObject said) said.objects (λ x there.
            (let from = (objects_shown page tables said says).from x there in
            subst (IsWellObject said) from.4 (well_object from.0 from.1 from.2)));
      }
