-- The command of a deed (GlobalPlatform Card Specification 2.3.1, 11.2, 11.5 and 11.10), with the token that approves it.
use Rattle.std.specs.Prelude.{◌≡◌, ℕ, ◌<◌, List, [], ◌∷◌, ◌++◌, None, Option, Some, MatchOption, not, replicate, if◌then◌else◌}
use Rattle.std.specs.Int.{to_be_bytes, w32}
use Rattle.std.specs.List.{flat_map}
use Rattle.apdu_core.specs.Apdu.{Apdu}
use Rattle.card_types.specs.Aid.{same_aid}
use Rattle.card_types.specs.LifeMark.{life_mark_code}
use Rattle.card_types.specs.Registry.{Key, Registry, entry_named}
use Rattle.card_types.specs.declared.factory.TheConstants.{FACTORY_FILE, FACTORY_MODULE}
use Rattle.card_types.specs.declared.life.LifeMark.{LifeMark}
use Rattle.policy_machine.specs.CommandForm.{CommandForm}
use Rattle.policy_machine.specs.Delegation.{IsVerifier, NoVerifier}
use Rattle.policy_machine.specs.DeleteObject.{managed_delete_object}
use Rattle.policy_machine.specs.EntryStatus.{managed_entry_status}
use Rattle.policy_machine.specs.Extradition.{managed_extradition}
use Rattle.policy_machine.specs.InstallApplication.{managed_install}
use Rattle.policy_machine.specs.InstallLoad.{install_load, judged_install_load}
use Rattle.policy_machine.specs.ManagedForm.{JudgedForm, command_form}
use Rattle.tokens_receipts.specs.Receipt.{with_length}
use Rattle.tokens_receipts.specs.Token.{object_named_by, token, token_element, token_field}
use Rattle.access_matrix.specs.Deeds.{IsThing}
use Rattle.access_matrix.specs.There.{judged_there, plain}
use Rattle.access_matrix.specs.declared.deed.Deed.{Deed}
use Rattle.access_matrix.specs.declared.deed.Deed.TheVariants.{Delete, Related, Lock, Move, Install, Load}

-- the rules by which a deed is judged
abbrev pub judged_as : Deed → JudgedForm
judged_as (Delete aid) = managed_delete_object.judged
judged_as (Related file) = managed_delete_object.judged
judged_as (Lock aid) = managed_entry_status.judged
judged_as (Move aid domain) = managed_extradition.judged
judged_as (Install file) = managed_install.judged
judged_as Load = judged_install_load

-- the form that the command of a deed has
abbrev pub form_of : Deed → CommandForm
form_of (Delete aid) = command_form managed_delete_object
form_of (Related file) = command_form managed_delete_object
form_of (Lock aid) = command_form managed_entry_status
form_of (Move aid domain) = command_form managed_extradition
form_of (Install file) = command_form managed_install
form_of Load = install_load

-- F000000000, F000000001 and so on
abbrev pub numbered_aid : ℕ → List ℕ
numbered_aid number = 0xF0 ∷ to_be_bytes w32 number

-- the first of these that names nothing
pub record IsFirstFreeAid (registry : Registry) (aid : List ℕ) : Type 0 where
  pub number : ℕ
  pub is : aid ≡ numbered_aid number
  pub free : IsThing registry aid → ⊥
  pub first : (lower : ℕ) → lower < number → IsThing registry (numbered_aid lower)

-- The Module of an application that is made from an Executable Load File, and its privileges: a security domain comes from the
-- factory's file, and anything else has a Module of its own AID and no privileges.
abbrev pub module_for : (file aid : List ℕ) → List ℕ
module_for file aid = if same_aid file FACTORY_FILE then FACTORY_MODULE else aid

abbrev pub privileges_for : List ℕ → List ℕ
privileges_for file = if same_aid file FACTORY_FILE then 0x80 ∷ [] else 0x00 ∷ []

abbrev pub p1_of : Deed → ℕ
p1_of (Delete aid) = 0x00
p1_of (Related file) = 0x00
p1_of (Lock aid) = 0x40
p1_of (Move aid domain) = 0x10
p1_of (Install file) = 0x0C
p1_of Load = 0x02

-- the life cycle state with the other lock mark
abbrev pub with_other_lock : LifeMark → LifeMark
with_other_lock mark = record { life = mark.life; locked = not mark.locked }

-- what comes from a file goes with it, and an entry gets the other lock mark
abbrev pub HasP2 : Registry → Deed → ℕ → Type 0
HasP2 registry (Related file) p2 = p2 ≡ 0x80
HasP2 registry (Lock aid) p2 = MatchOption (entry_named registry aid) ⊥ (λ entry. p2 ≡ life_mark_code (with_other_lock entry.life))
HasP2 registry deed p2 = p2 ≡ 0x00

-- what the data field has before the token: a new thing has a free AID, an application the parameters C9 00, and an Executable Load File
-- a hash of 32 zeros
abbrev pub HasFront : Registry → Deed → List ℕ → Type 0
HasFront registry (Delete aid) front = front ≡ object_named_by aid
HasFront registry (Related file) front = front ≡ object_named_by file
HasFront registry (Lock aid) front = front ≡ aid
HasFront registry (Move aid domain) front = front ≡ flat_map with_length (domain ∷ [] ∷ aid ∷ [] ∷ [] ∷ [])
HasFront registry (Install file) front =
    (new : List ℕ) × IsFirstFreeAid registry new
    × (front ≡ flat_map with_length (file ∷ module_for file new ∷ new ∷ privileges_for file ∷ (0xC9 ∷ 0x00 ∷ []) ∷ []))
HasFront registry Load front =
    (new : List ℕ) × IsFirstFreeAid registry new × (front ≡ flat_map with_length (new ∷ [] ∷ replicate 32 0 ∷ [] ∷ []))

-- how the token ends it
abbrev pub end_of : Deed → Option (List ℕ) → List ℕ
end_of (Delete aid) given = token_element given
end_of (Related file) given = token_element given
end_of (Lock aid) given = []
end_of deed given = with_length (token_field given)

-- the token of a delegated command under the token key of the acting domain's verifier, where there is one
abbrev pub IsTokenFor : Registry → List ℕ → Type 0 → (p1 p2 : ℕ) → List ℕ → Option (List ℕ) → Type 0
IsTokenFor registry domain delegated p1 p2 front None = delegated → NoVerifier registry domain
IsTokenFor registry domain delegated p1 p2 front (Some given) =
    delegated × ((verifier : List ℕ) × (key : Key) × IsVerifier registry domain verifier key × (given ≡ token key.bytes p1 p2 front))

-- The command of a deed of a security domain.
pub record IsCommandOf (registry : Registry) (domain : List ℕ) (deed : Deed) (command : Apdu) : Type 0 where
  pub p2 : ℕ
  pub front : List ℕ
  pub given : Option (List ℕ)
  pub has_p2 : HasP2 registry deed p2
  pub has_front : HasFront registry deed front
  pub approved : IsTokenFor registry domain ((judged_as deed).delegation.is_delegated (judged_there registry domain command)) (p1_of deed) p2 front given
  pub is : command ≡ plain (judged_as deed).instruction (p1_of deed) p2 (front ++ end_of deed given)
