-- Entries by their AIDs, in their slots, and the domains above them.
use Rattle.std.proofs.Common.{◌≡◌, ℕ, List, [], Option, None, Some, refl, ap, sym, subst, ◌∙◌}
use Rattle.std.specs.Prelude.{IsSome, unwrap_or}
use Rattle.std.specs.Option.{option_map}
use Rattle.card_types.proofs.Domains.{domain_aid_is}
use Rattle.card_types.proofs.FoundNames.{found_entry_named}
use Rattle.card_types.proofs.Next.{held_from_name}
use Rattle.policy_slots.specs.Prelude.{Above, ActsIn, Admitted, IsAboveIn, Represents, Well, acting, aid_of, domain_aid, domain_slot, entry_named, entry_of, thing_in}
use Rattle.card_types.specs.Registry as registry
use Rattle.card_types.specs.declared.found.Found.TheVariants as found
use Rattle.card_types.specs.declared.tables.Entry.{Entry}
use Rattle.card_types.specs.declared.tables.Tables.{Tables}
use Rattle.domain_tree.proofs.AboveNamed.{above_in_slots, above_named}
use Rattle.policy_slots.proofs.ActingDomain.{acting_aid}

-- the entry with this AID is in the slot
pub record IsEntryAt (tables : Tables) (said : registry.Registry) (slot : ℕ) (aid : List ℕ) : Type 0 where
  pub entry : Entry
  pub at : thing_in tables.entries.items slot ≡ Some entry
  pub aid_is : entry.aid ≡ aid
  pub named : entry_named said aid ≡ Some (entry_of tables.entries.items tables.files.items entry)
  pub domain : domain_aid tables.entries.items slot ≡ aid

pub entry_at : (page : ℕ → List ℕ) (tables : Tables) (said : registry.Registry) → Represents page tables said → (slot : ℕ) (aid : List ℕ)
    → aid_of tables (found.Entry slot) ≡ Some aid → IsEntryAt tables said slot aid
entry_at page tables said says slot aid named =
    let there = held_from_name (λ (e : Entry). e.aid) tables.entries.items slot aid named in
    let by_name = found_entry_named page tables said says slot aid named in
    let same : by_name.0 ≡ there.0 = (let here = by_name.1 in let also = there.1 in cc) in
    record {
      entry = there.0;
      at = there.1;
      aid_is = there.2;
      named = by_name.2 ∙ ap (λ (e : Entry). Some (entry_of tables.entries.items tables.files.items e)) same;
      domain = domain_aid_is tables.entries.items slot there.0 there.1 ∙ there.2;
    }

-- what is above by slots is what is above by AIDs
module _ (page : ℕ → List ℕ) (tables : Tables) (said : registry.Registry) (says : Represents page tables said) (well : Well said)
    (a b : ℕ) (x y : List ℕ) (upper : IsEntryAt tables said a x) (lower : IsEntryAt tables said b y) where
  pub above_by_aids : Above (domain_slot tables.entries.items) a b → IsAboveIn said x y
  above_by_aids above =
      subst (λ (aid : List ℕ). IsAboveIn said aid y) upper.domain
      (subst (λ (aid : List ℕ). IsAboveIn said (domain_aid tables.entries.items a) aid) lower.domain
      (above_named page tables said says a b upper.entry lower.entry upper.at lower.at above))

  pub above_by_slots : IsAboveIn said x y → Above (domain_slot tables.entries.items) a b
  above_by_slots above =
      above_in_slots page tables said says well a b upper.entry lower.entry upper.at lower.at
      (subst (λ (aid : List ℕ). IsAboveIn said aid (domain_aid tables.entries.items b)) (sym upper.domain)
      (subst (λ (aid : List ℕ). IsAboveIn said x aid) (sym lower.domain) above))

-- the entry that the slot holds is the one that is named
pub named_as : (tables : Tables) (said : registry.Registry) (slot : ℕ) (aid : List ℕ) (is : IsEntryAt tables said slot aid) (entry : Entry)
    → thing_in tables.entries.items slot ≡ Some entry → entry_named said aid ≡ Some (entry_of tables.entries.items tables.files.items entry)
named_as tables said slot aid is entry at =
    let same : is.entry ≡ entry = (let here = is.at in cc) in
    is.named ∙ ap (λ (e : Entry). Some (entry_of tables.entries.items tables.files.items e)) same

-- the domain that a command acts for
pub acting_named : (page : ℕ → List ℕ) (tables : Tables) (domain : ℕ) (admitted : Admitted) → ActsIn page tables domain admitted
    → aid_of tables (found.Entry domain) ≡ Some (acting admitted)
acting_named page tables domain admitted acts =
    ap (option_map (λ (e : Entry). e.aid)) acts.at ∙ ap Some (sym (acting_aid page tables domain admitted acts))

pub acting_at : (page : ℕ → List ℕ) (tables : Tables) (domain : ℕ) (admitted : Admitted) → ActsIn page tables domain admitted
    → IsEntryAt tables admitted.at.registry domain (acting admitted)
acting_at page tables domain admitted acts =
    entry_at page tables admitted.at.registry acts.says domain (acting admitted) (acting_named page tables domain admitted acts)

-- a used slot has the AID of its entry
pub named_by_slot : (tables : Tables) (slot : ℕ) → IsSome (thing_in tables.entries.items slot) → aid_of tables (found.Entry slot) ≡ Some (domain_aid tables.entries.items slot)
named_by_slot tables slot used = by (thing_in tables.entries.items slot) used
  where
    by : (o : Option Entry) → IsSome o → option_map (λ (e : Entry). e.aid) o ≡ Some (unwrap_or (option_map (λ (e : Entry). e.aid) o) [])
    by None some = cc
    by (Some entry) some = refl
