-- DELETE of a key (GlobalPlatform Card Specification 2.3.1, 11.2): the keys of the selected domain with one key version number go.
use Rattle.std.specs.Prelude.{◌≡◌, ◌≢◌, ◌⊎◌, ℕ, ◌<◌, List, [], ◌∷◌, Option, None, Some, MatchOption, codes, false, find}
use Rattle.card_types.specs.Aid.{same_aid}
use Rattle.card_types.specs.Well.{IsRoot}
use Rattle.policy_machine.specs.Admission.{Admitted}
use Rattle.policy_machine.specs.Delegation.{no_confirmation}
use Rattle.policy_machine.specs.KeySets.{counters_but, has_key_version, keys_but, with_keys}
use Rattle.policy_machine.specs.Management.{acting}
use Rattle.policy_machine.specs.Refusal.{Refusal, refusal}
use Rattle.policy_machine.specs.declared.delete_key.RuleDK.{RuleDK}
use Rattle.policy_machine.specs.declared.delete_key.RuleDK.TheVariants.{DK1, DK2}
use Rattle.policy_machine.specs.declared.rule.Rule.TheVariants.{DK}
use Rattle.policy_machine.specs.ManagedForm.{ManagedForm, content_form, ordered_rules}

-- P1 is 00; P2 says whether what is related to an object goes with it (80), and makes no difference to a key
abbrev pub DeleteParameters : ℕ → ℕ → Type 0
DeleteParameters p1 p2 = (p1 ≡ 0x00) × ((p2 ≡ 0x00) ⊎ (p2 ≡ 0x80))

-- the data field names a key version number (D2), and a key identifier (D0) or none, in either order
abbrev pub Chooses : List ℕ → (version : ℕ) → (identifier : Option ℕ) → Type 0
Chooses body version None = body ≡ 0xD2 ∷ 1 ∷ version ∷ []
Chooses body version (Some identifier) =
    (body ≡ 0xD2 ∷ 1 ∷ version ∷ 0xD0 ∷ 1 ∷ identifier ∷ []) ⊎ (body ≡ 0xD0 ∷ 1 ∷ identifier ∷ 0xD2 ∷ 1 ∷ version ∷ [])

-- what is asked for
pub record KeyChosen : Type 0 where
  pub version : ℕ
  pub identifier : Option ℕ

abbrev pub AsksToDeleteKey : List ℕ → KeyChosen → Type 0
AsksToDeleteKey body chosen = Chooses body chosen.version chosen.identifier

abbrev pub delete_key_refusal : RuleDK → Refusal
delete_key_refusal DK1 = refusal (codes "DK1") 0x6A88
delete_key_refusal DK2 = refusal (codes "DK2") 0x6985

-- one key of a key set is not deleted without the others, and a token or receipt key has key identifier 01
abbrev pub NamesPart : ℕ → Option ℕ → Type 0
NamesPart version identifier = MatchOption identifier ⊥ (λ i. (version < 0x70) ⊎ (i ≢ 0x01))

-- the domain is a root, and no key set would be left to it
abbrev pub IsLastSet : Admitted → ℕ → Type 0
IsLastSet admitted version =
    IsRoot admitted.at.registry (acting admitted)
    × (find (λ counter. same_aid counter.owner (acting admitted)) (counters_but (acting admitted) version admitted.at.registry.counters) ≡ None)

abbrev pub DeletingKeyFails : Admitted → KeyChosen → RuleDK → Type 0
-- the domain has no such key
DeletingKeyFails admitted chosen DK1 =
    (has_key_version admitted.at.registry (acting admitted) chosen.version ≡ false) ⊎ NamesPart chosen.version chosen.identifier
-- it is the last key set of a root
DeletingKeyFails admitted chosen DK2 = IsLastSet admitted chosen.version

-- The keys go, and the sequence counter of a key set with them.
abbrev pub managed_delete_key : ManagedForm
managed_delete_key = record {
  judged = record (content_form 0xE4 DeleteParameters (λ p1 p2. AsksToDeleteKey)) { own = ordered_rules DK (DK1 ∷ DK2 ∷ []) DeletingKeyFails };
  becomes = λ admitted chosen changed. changed ≡ with_keys admitted.at.registry
      (keys_but (acting admitted) chosen.version admitted.at.registry.keys) (counters_but (acting admitted) chosen.version admitted.at.registry.counters);
  reply = λ chosen. no_confirmation;
}
