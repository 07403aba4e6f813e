-- The charge of an Executable Load File, by slots and by AIDs.
use Rattle.std.proofs.Common.{◌≡◌, ◌⊎◌, inl, inr, ℕ, List, Option, None, Some, refl, sym, ap, subst, ◌∙◌}
use Rattle.std.proofs.lemmas.List.Elements.{All-contains}
use Rattle.card_types.proofs.Domains.{file_domain_is_used, same_domain}
use Rattle.card_types.proofs.FoundNames.{found_entry_named}
use Rattle.card_types.proofs.LeastOfList.{found_fits}
use Rattle.card_types.proofs.SameAid.{same_aid_decides}
use Rattle.policy_slots.specs.Prelude.{Above, ActsIn, Admitted, IsFileInCharge, IsWellFile, Represents, Well, acting, aid_of, domain_aid, domain_slot, entry_named, file_named, file_of, same_aid, thing_in}
use Rattle.card_types.specs.Registry as registry
use Rattle.card_types.specs.declared.found.Found.TheVariants as found
use Rattle.card_types.specs.declared.tables.LoadFile.{LoadFile}
use Rattle.card_types.specs.declared.tables.Tables.{Tables}
use Rattle.domain_tree.proofs.AboveNamed.{above_in_slots, above_named}

-- an entry's AID is that of no Executable Load File
pub apart_from_entry : (said : registry.Registry) → Well said → (aid : List ℕ) (entry : registry.Entry) → entry_named said aid ≡ Some entry → file_named said aid ≡ None
apart_from_entry said well aid entry named = by (file_named said aid) refl
  where
    by : (o : Option registry.LoadFile) → file_named said aid ≡ o → file_named said aid ≡ None
    by None is = is
    by (Some file) is =
        let found = found_fits (λ f. same_aid f.aid aid) said.files file is in
        let apart = (All-contains (IsWellFile said) said.files file well.files found.0).apart in
        let same = ap (entry_named said) ((same_aid_decides file.aid aid).0 found.1) in
        let clash : Some entry ≡ None = sym named ∙ sym same ∙ apart in
        absurd (cc)

pub entry_no_file : (page : ℕ → List ℕ) (tables : Tables) (said : registry.Registry) → Represents page tables said → (aid : List ℕ)
    → Well said → (slot : ℕ) → aid_of tables (found.Entry slot) ≡ Some aid → file_named said aid ≡ None
entry_no_file page tables said says aid well slot is = (let named = found_entry_named page tables said says slot aid is in apart_from_entry said well aid _ named.2)

module _ (page : ℕ → List ℕ) (tables : Tables) (domain : ℕ) (admitted : Admitted) (acts : ActsIn page tables domain admitted) where
  -- the charge of an Executable Load File, by slots
  module _ (slot : ℕ) (file : LoadFile) (at : thing_in tables.files.items slot ≡ Some file) where
    abbrev InCharge : Type 0
    InCharge = IsFileInCharge admitted.at.registry (acting admitted) (file_of page tables.entries.items file)

    pub own_file : file.domain ≡ domain → InCharge
    own_file same = inl (ap (domain_aid tables.entries.items) same ∙ sym acts.on)

    pub file_below : Above (domain_slot tables.entries.items) domain file.domain → InCharge
    file_below above =
        let owner = file_domain_is_used page tables admitted.at.registry acts.says acts.well slot file at in
        inr (subst (λ (aid : List ℕ). IsAbove aid) (sym acts.on)
        (above_named page tables admitted.at.registry acts.says domain file.domain acts.entry owner.0 acts.at owner.1 above))
      where
        IsAbove : List ℕ → Type 0
        IsAbove aid = Above (registry.domain_of admitted.at.registry) aid (domain_aid tables.entries.items file.domain)

    pub by_slots : InCharge → (file.domain ≡ domain) ⊎ Above (domain_slot tables.entries.items) domain file.domain
    by_slots (inl same) =
        let owner = file_domain_is_used page tables admitted.at.registry acts.says acts.well slot file at in
        inl (same_domain page tables admitted.at.registry acts.says file.domain domain owner.0 acts.entry owner.1 acts.at (same ∙ acts.on))
    by_slots (inr above) =
        let owner = file_domain_is_used page tables admitted.at.registry acts.says acts.well slot file at in
        inr (above_in_slots page tables admitted.at.registry acts.says acts.well domain file.domain acts.entry owner.0 acts.at owner.1
        (subst (λ (aid : List ℕ). Above (registry.domain_of admitted.at.registry) aid (domain_aid tables.entries.items file.domain)) acts.on above))
