-- The domains of things in slots.
use Rattle.std.proofs.Common.{◌≡◌, ℕ, true, List, [], length, Option, None, Some, refl, ap, sym, subst, ◌∙◌, arith}
use Rattle.std.specs.Prelude.{IsSome, MatchOption, unwrap_or}
use Rattle.std.specs.Option.{option_map}
use Rattle.std.proofs.lemmas.List.Elements.{All-contains}
use Rattle.std.proofs.lemmas.Option.{MatchOption-at_some}
use Rattle.card_types.specs.Aid.{IsAid, same_aid}
use Rattle.card_types.specs.Privileges.{has, security_domain}
use Rattle.card_types.specs.Registry as registry
use Rattle.card_types.specs.Registry.{domain_of, entry_named, file_named, is_domain}
use Rattle.card_types.specs.Represents.{Represents, domain_aid, domain_slot, entry_of, file_aid, file_of, key_of, object_of, thing_in}
use Rattle.card_types.specs.Well.{IsDomainNamed, IsWellEntry, IsWellFile, IsWellKey, IsWellObject, Well}
use Rattle.card_types.specs.declared.tables.Entry.{Entry}
use Rattle.card_types.specs.declared.tables.LoadFile.{LoadFile}
use Rattle.card_types.specs.declared.tables.KeyRec.{KeyRec}
use Rattle.card_types.specs.declared.tables.Object.{Object}
use Rattle.card_types.specs.declared.tables.Tables.{Tables}
use Rattle.card_types.proofs.EntryNames.{entry_in_slot, one_entry_slot}
use Rattle.card_types.proofs.LeastOfList.{found_fits}
use Rattle.card_types.proofs.SameAid.{same_aid_decides}
use Rattle.card_types.proofs.Shows.{shows_used}

-- the AID of a used slot
pub domain_aid_is : (entries : List (Option Entry)) (slot : ℕ) (entry : Entry) → thing_in entries slot ≡ Some entry → domain_aid entries slot ≡ entry.aid
domain_aid_is entries slot entry at = ap (λ (o : Option Entry). unwrap_or (option_map (λ e. e.aid) o) []) at

-- a slot with a step is used
pub used_from_step : (entries : List (Option Entry)) (slot next : ℕ) → domain_slot entries slot ≡ Some next
    → (entry : Entry) × (thing_in entries slot ≡ Some entry) × (entry.domain ≡ next)
used_from_step entries slot next steps = by (thing_in entries slot) refl steps
  where
    by : (o : Option Entry) → thing_in entries slot ≡ o → option_map (λ e. e.domain) o ≡ Some next
        → (entry : Entry) × (thing_in entries slot ≡ Some entry) × (entry.domain ≡ next)
    by None is steps = cc
    by (Some entry) is steps = (entry, is, cc)

pub step_from_used : (entries : List (Option Entry)) (slot : ℕ) (entry : Entry) → thing_in entries slot ≡ Some entry → domain_slot entries slot ≡ Some entry.domain
step_from_used entries slot entry at = ap (option_map (λ e. e.domain)) at

module _ (page : ℕ → List ℕ) (tables : Tables) (said : registry.Registry) (says : Represents page tables said) where
  -- two used slots with one AID are one
  pub same_domain : (a b : ℕ) (x y : Entry) → thing_in tables.entries.items a ≡ Some x → thing_in tables.entries.items b ≡ Some y
      → domain_aid tables.entries.items a ≡ domain_aid tables.entries.items b → a ≡ b
  same_domain a b x y at_a at_b alike =
      one_entry_slot page tables said says a b x y at_a at_b
      (sym (domain_aid_is tables.entries.items a x at_a) ∙ alike ∙ domain_aid_is tables.entries.items b y at_b)

  -- a step by slots is a step by names
  pub step_named : (slot next : ℕ) → domain_slot tables.entries.items slot ≡ Some next
      → domain_of said (domain_aid tables.entries.items slot) ≡ Some (domain_aid tables.entries.items next)
  step_named slot next steps =
      let entry = used_from_step tables.entries.items slot next steps in
      let named = entry_in_slot page tables said says slot entry.0 entry.1 in
      ap (λ aid. domain_of said aid) (domain_aid_is tables.entries.items slot entry.0 entry.1)
      ∙ ap (option_map (λ e. e.domain)) named ∙ ap (λ n. Some (domain_aid tables.entries.items n)) entry.2

  module _ (well : Well said) where
    -- what is so of the entry in a used slot
    pub well_entry : (slot : ℕ) (entry : Entry) → thing_in tables.entries.items slot ≡ Some entry → IsWellEntry said (entry_of tables.entries.items tables.files.items entry)
    well_entry slot entry at =
        All-contains (IsWellEntry said) said.entries _ well.entries
        (found_fits (λ e. same_aid e.aid entry.aid) said.entries (entry_of tables.entries.items tables.files.items entry) (entry_in_slot page tables said says slot entry at)).0

    -- nothing is named by no bytes
    none_unnamed : IsDomainNamed said [] → ⊥
    none_unnamed named = by (entry_named said []) refl named
      where
        by : (o : Option registry.Entry) → entry_named said [] ≡ o → MatchOption o ⊥ (λ entry. is_domain entry ≡ true) → ⊥
        by None is named = named
        by (Some entry) is named =
            (let found = found_fits (λ e. same_aid e.aid []) said.entries entry is in
            let empty : entry.aid ≡ [] = (same_aid_decides entry.aid []).0 found.1 in
            let aid : IsAid entry.aid = (All-contains (IsWellEntry said) said.entries entry well.entries found.0).proper.aid in
            omega (arith, aid.0, ap length empty))

    no_file_unnamed : IsSome (file_named said []) → ⊥
    no_file_unnamed named = by (file_named said []) refl named
      where
        by : (o : Option registry.LoadFile) → file_named said [] ≡ o → IsSome o → ⊥
        by None is named = cc
        by (Some file) is named =
            (let found = found_fits (λ f. same_aid f.aid []) said.files file is in
            let empty : file.aid ≡ [] = (same_aid_decides file.aid []).0 found.1 in
            let aid : IsAid file.aid = (All-contains (IsWellFile said) said.files file well.files found.0).aid in
            omega (arith, aid.0, ap length empty))

    -- a slot that a domain is named by holds that domain
    pub domain_named_is_used : (slot : ℕ) → IsDomainNamed said (domain_aid tables.entries.items slot)
        → (domain : Entry) × (thing_in tables.entries.items slot ≡ Some domain) × (has security_domain domain.privileges ≡ true)
    domain_named_is_used slot named = by (thing_in tables.entries.items slot) refl
      where
        by : (o : Option Entry) → thing_in tables.entries.items slot ≡ o
            → (domain : Entry) × (thing_in tables.entries.items slot ≡ Some domain) × (has security_domain domain.privileges ≡ true)
        by None at =
            (let empty : domain_aid tables.entries.items slot ≡ [] = ap (λ (o : Option Entry). unwrap_or (option_map (λ e. e.aid) o) []) at in
            absurd (none_unnamed (subst (IsDomainNamed said) empty named)))
        by (Some domain) at =
            (let here : IsDomainNamed said domain.aid = subst (IsDomainNamed said) (domain_aid_is tables.entries.items slot domain at) named in
            (domain, at, MatchOption-at_some ⊥ (λ entry. is_domain entry ≡ true) _ (entry_in_slot page tables said says slot domain at) here))

    -- the load file of an entry is in its slot
    pub loaded_file_is_used : (slot : ℕ) (entry : Entry) → thing_in tables.entries.items slot ≡ Some entry
        → (file : LoadFile) × (thing_in tables.files.items entry.file ≡ Some file)
    loaded_file_is_used slot entry at = by (thing_in tables.files.items entry.file) refl (well_entry slot entry at).loaded
      where
        by : (o : Option LoadFile) → thing_in tables.files.items entry.file ≡ o → IsSome (file_named said (file_aid tables.files.items entry.file))
            → (file : LoadFile) × (thing_in tables.files.items entry.file ≡ Some file)
        by (Some file) at loaded = (file, at)
        by None at loaded = absurd (no_file_unnamed (subst (λ (aid : List ℕ). IsSome (file_named said aid)) (ap (λ (o : Option LoadFile). unwrap_or (option_map (λ f. f.aid) o) []) at) loaded))

    -- the domain of an entry, a load file, a key, an object is a domain in its slot
    pub domain_is_used : (slot : ℕ) (entry : Entry) → thing_in tables.entries.items slot ≡ Some entry
        → (domain : Entry) × (thing_in tables.entries.items entry.domain ≡ Some domain) × (has security_domain domain.privileges ≡ true)
    domain_is_used slot entry at = domain_named_is_used entry.domain (well_entry slot entry at).domain

    pub file_domain_is_used : (slot : ℕ) (file : LoadFile) → thing_in tables.files.items slot ≡ Some file
        → (domain : Entry) × (thing_in tables.entries.items file.domain ≡ Some domain) × (has security_domain domain.privileges ≡ true)
    file_domain_is_used slot file at =
        let there = (shows_used (file_of page tables.entries.items) tables.files.items said.files says.files).there slot file at refl in
        domain_named_is_used file.domain (All-contains (IsWellFile said) said.files _ well.files there).domain

    pub key_owner_is_used : (slot : ℕ) (key : KeyRec) → thing_in tables.keys.items slot ≡ Some key
        → (domain : Entry) × (thing_in tables.entries.items key.owner ≡ Some domain) × (has security_domain domain.privileges ≡ true)
    key_owner_is_used slot key at =
        let there = (shows_used (key_of tables.entries.items) tables.keys.items said.keys says.keys).there slot key at refl in
        domain_named_is_used key.owner (All-contains (IsWellKey said) said.keys _ well.keys there).owner

    pub object_owner_is_used : (slot : ℕ) (object : Object) → thing_in tables.objects.items slot ≡ Some object
        → (domain : Entry) × (thing_in tables.entries.items object.owner ≡ Some domain) × (has security_domain domain.privileges ≡ true)
    object_owner_is_used slot object at =
        let there = (shows_used (object_of tables.entries.items) tables.objects.items said.objects says.objects).there slot object at refl in
        domain_named_is_used object.owner (All-contains (IsWellObject said) said.objects _ well.objects there).owner
