-- What is above what and in whose charge, by slots and by AIDs.
use Rattle.std.proofs.Common.{◌≡◌, ◌↔◌, inl, inr, ℕ, Bool, true, List, Option, None, Some, refl, ap, sym, subst, ◌∙◌}
use Rattle.std.specs.Prelude.{IsSome, IsTrue, MatchOption}
use Rattle.std.specs.Option.{option_map}
use Rattle.card_types.proofs.EntryNames.{entry_in_slot, one_entry_slot}
use Rattle.card_types.proofs.Domains.{domain_aid_is}
use Rattle.card_types.proofs.FoundNames.{found_file_named}
use Rattle.policy_slots.specs.Prelude.{Above, IsAboveIn, IsAtOrAbove, IsDomainNamed, IsFileInCharge, IsInCharge, Represents, Well, aid_of, bits_of, domain_aid, domain_of, domain_of_thing, domain_slot, entry_domain, entry_has, entry_named, entry_of, file_domain, file_of, is_domain, is_privileged, security_domain, thing_in}
use Rattle.card_types.specs.Registry as registry
use Rattle.card_types.specs.declared.found.Found.TheVariants as found
use Rattle.card_types.specs.declared.privileges.Privileges.{Privileges}
use Rattle.card_types.specs.declared.tables.Entry.{Entry}
use Rattle.card_types.specs.declared.tables.LoadFile.{LoadFile}
use Rattle.card_types.specs.declared.tables.Tables.{Tables}
use Rattle.domain_tree.proofs.AboveNamed.{slot_above}
use Rattle.policy_machine.proofs.FileApart.{file_apart}
use Rattle.policy_slots.proofs.FileCharge.{entry_no_file}
use Rattle.policy_slots.proofs.NearestHolder.{privilege_named}
use Rattle.policy_slots.proofs.ThingsFound.{IsEntryAt, above_by_aids, above_by_slots, entry_at}

-- an entry that is a domain holds the privilege that makes it one
domain_privilege : (o : Option registry.Entry) → is_privileged security_domain o ≡ true → MatchOption o ⊥ (λ entry. is_domain entry ≡ true)
domain_privilege None holds = cc
domain_privilege (Some entry) holds = holds

privilege_domain : (o : Option registry.Entry) → MatchOption o ⊥ (λ entry. is_domain entry ≡ true) → is_privileged security_domain o ≡ true
privilege_domain None is = absurd is
privilege_domain (Some entry) is = is

module _ (page : ℕ → List ℕ) (tables : Tables) (said : registry.Registry) (says : Represents page tables said) where
  abbrev at_slot : (slot : ℕ) (aid : List ℕ) → aid_of tables (found.Entry slot) ≡ Some aid → IsEntryAt tables said slot aid
  at_slot slot aid named = entry_at page tables said says slot aid named

  -- the entry in a slot is a domain where its AID is that of one
  domain_held : (privilege : Privileges) (slot : ℕ) (aid : List ℕ) → aid_of tables (found.Entry slot) ≡ Some aid
      → entry_has privilege (thing_in tables.entries.items slot) ≡ is_privileged (bits_of privilege) (entry_named said aid)
  domain_held privilege slot aid named =
      let is = at_slot slot aid named in
      privilege_named page tables said says privilege slot is.entry is.at ∙ ap (λ (a : List ℕ). is_privileged (bits_of privilege) (entry_named said a)) is.domain

  pub domain_by_slot : (slot : ℕ) (aid : List ℕ) (holds : Bool) → aid_of tables (found.Entry slot) ≡ Some aid
      → holds ≡ entry_has (record { 0 = security_domain }) (thing_in tables.entries.items slot) → (holds ≡ true → IsDomainNamed said aid) × (IsDomainNamed said aid → holds ≡ true)
  domain_by_slot slot aid holds named is =
      let same = is ∙ domain_held (record { 0 = security_domain }) slot aid named in (
        λ yes_. domain_privilege (entry_named said aid) (sym same ∙ yes_),
        λ domain. same ∙ privilege_domain (entry_named said aid) domain,
      )

  module _ (well : Well said) where
    module _ (a b : ℕ) (x y : List ℕ) (at_a : aid_of tables (found.Entry a) ≡ Some x) (at_b : aid_of tables (found.Entry b) ≡ Some y) where
      -- above by slots is above by AIDs
      pub above_alike : Above (domain_slot tables.entries.items) a b ↔ IsAboveIn said x y
      above_alike = (
        above_by_aids page tables said says well a b x y (at_slot a x at_a) (at_slot b y at_b),
        above_by_slots page tables said says well a b x y (at_slot a x at_a) (at_slot b y at_b),
      )

      pub at_or_above_alike : (a ≡ b → ⊥) → (above : Bool) → IsTrue above ↔ Above (domain_slot tables.entries.items) a b → IsTrue above ↔ IsAtOrAbove said x y
      at_or_above_alike other above told = (
        λ is. inr (above_alike.0 (told.0 is)),
        λ over. elim over [
          | inl same ↦
              (let upper = at_slot a x at_a in
              let lower = at_slot b y at_b in
              absurd (other (one_entry_slot page tables said says a b upper.entry lower.entry upper.at lower.at (upper.aid_is ∙ sym same ∙ sym lower.aid_is))))
          | inr above_ ↦ told.1 (above_alike.1 above_)
        ],
      )

    -- an Executable Load File is above nothing
    pub file_above_none : (slot b : ℕ) (x y : List ℕ) → aid_of tables (found.File slot) ≡ Some x → aid_of tables (found.Entry b) ≡ Some y → IsAboveIn said x y → ⊥
    file_above_none slot b x y at_file at_b above =
        let file = found_file_named page tables said says slot x at_file in
        let lower = at_slot b y at_b in
        let there = slot_above page tables said says well b lower.entry x lower.at (subst (λ (aid : List ℕ). IsAboveIn said x aid) (sym lower.domain) above) in
        let named : entry_named said x ≡ Some (entry_of tables.entries.items tables.files.items there.1)
        = ap (entry_named said) (sym there.3 ∙ domain_aid_is tables.entries.items there.0 there.1 there.2) ∙ entry_in_slot page tables said says there.0 there.1 there.2 in
        let none = file_apart said well x _ file.2 in
        cc

    -- an entry is in the charge of the domains above it
    pub entry_charge : (slot : ℕ) (domain aid : List ℕ) (within : Bool) → aid_of tables (found.Entry slot) ≡ Some aid → IsTrue within ↔ IsAboveIn said domain aid
        → IsTrue within ↔ IsInCharge said domain aid
    entry_charge slot domain aid within named told =
        let there = at_slot slot aid named in
        let none = entry_no_file page tables said says aid well slot named in (
          λ is. inl (subst IsSome (sym there.named) refl, told.0 is),
          λ charge. elim charge [
            | inl above ↦ told.1 above.1
            | inr file ↦ absurd (subst (λ (o : Option registry.LoadFile). MatchOption o ⊥ (IsFileInCharge said domain)) none file)
          ],
        )

    -- an Executable Load File is in that of its own and of those above
    pub file_charge : (slot : ℕ) (domain aid : List ℕ) (within : Bool) → aid_of tables (found.File slot) ≡ Some aid
        → ((file : LoadFile) → thing_in tables.files.items slot ≡ Some file → IsTrue within ↔ IsFileInCharge said domain (file_of page tables.entries.items file))
        → IsTrue within ↔ IsInCharge said domain aid
    file_charge slot domain aid within named told =
        let file = found_file_named page tables said says slot aid named in
        let none = file_apart said well aid _ file.2 in
        let by_slot = told file.0 file.1 in (
          λ is. inr (subst (λ (o : Option registry.LoadFile). MatchOption o ⊥ (IsFileInCharge said domain)) (sym file.2) (by_slot.0 is)),
          λ charge. elim charge [
            | inl above ↦ (let some = subst IsSome none above.0 in cc)
            | inr here ↦ by_slot.1 (subst (λ (o : Option registry.LoadFile). MatchOption o ⊥ (IsFileInCharge said domain)) file.2 here)
          ],
        )

    -- the domain of a thing
    pub domain_of_entry : (slot : ℕ) (aid : List ℕ) (entry : Entry) → aid_of tables (found.Entry slot) ≡ Some aid → thing_in tables.entries.items slot ≡ Some entry
        → domain_aid tables.entries.items entry.domain ≡ domain_of_thing said aid
    domain_of_entry slot aid entry named at =
        let none = entry_no_file page tables said says aid well slot named in
        let there = at_slot slot aid named in
        let same : there.entry ≡ entry = (let here = there.at in cc) in
        let steps : domain_of said aid ≡ Some (domain_aid tables.entries.items entry.domain)
        = ap (option_map (λ (e : registry.Entry). e.domain)) there.named ∙ ap (λ (e : Entry). Some (domain_aid tables.entries.items e.domain)) same in
        sym (ap (λ (f : Option registry.LoadFile). file_domain f (entry_domain (domain_of said aid))) none ∙ ap entry_domain steps)

    pub domain_of_file : (slot : ℕ) (aid : List ℕ) (file : LoadFile) → aid_of tables (found.File slot) ≡ Some aid → thing_in tables.files.items slot ≡ Some file
        → domain_aid tables.entries.items file.domain ≡ domain_of_thing said aid
    domain_of_file slot aid file named at =
        let there = found_file_named page tables said says slot aid named in
        let same : there.0 ≡ file = (let here = there.1 in cc) in
        sym (ap (λ (f : Option registry.LoadFile). file_domain f (entry_domain (domain_of said aid))) there.2 ∙ ap (λ (f : LoadFile). domain_aid tables.entries.items f.domain) same)
