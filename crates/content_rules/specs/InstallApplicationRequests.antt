-- For the code inside. What the code reads of an INSTALL [for install], and what it finds.
use Rattle.std.specs.Prelude.{◌≡◌, ℕ, ◌≤◌, ◌==◌, ◌&&◌, List, Bool, false, not, Option, None, Some, MatchOption, ◌≢◌, length}
use Rattle.apdu_core.specs.Apdu.{Apdu}
use Rattle.card_types.specs.Aid.{same_aid}
use Rattle.card_types.specs.Search.{NoneFree}
use Rattle.card_types.specs.Found.{aid_of}
use Rattle.card_types.specs.Privileges.{bits_of, has}
use Rattle.card_types.specs.Registry.{file_named}
use Rattle.card_types.specs.declared.factory.TheConstants.{FACTORY_FILE}
use Rattle.card_types.specs.declared.found.Found.{Found}
use Rattle.card_types.specs.declared.found.Found.TheVariants.{File}
use Rattle.card_types.specs.declared.privileges.Privileges.{Privileges}
use Rattle.card_types.specs.declared.tables.Entry.{Entry as Slot}
use Rattle.card_types.specs.declared.tables.Tables.{Tables}
use Rattle.domain_tree.specs.Holders.{entry_has}
use Rattle.policy_machine.specs.Admission.{Admitted}
use Rattle.policy_machine.specs.Charge.{IsFileInCharge}
use Rattle.policy_machine.specs.InstallApplication.{AsksToInstall, InstallAsked}
use Rattle.policy_machine.specs.InstallFields.{approval_in}
use Rattle.policy_machine.specs.Management.{acting}
use Rattle.content_rules.specs.declared.install_application.InstallRequest.{InstallRequest}
use Rattle.policy_slots.specs.HoldersFound.{approval_of}
use Rattle.policy_slots.specs.declared.live.LoadName.{LoadName}

-- The request is that of a command with this P1, P2 and data field.
pub record IsInstallRequest (request : InstallRequest) (p1 p2 : ℕ) (body : List ℕ) : Type 0 where
  pub asked : InstallAsked
  pub asks : AsksToInstall body asked
  pub selectable : request.selectable ≡ (p1 == 0x0C)
  pub file : request.file ≡ asked.given.first
  pub module_ : request.«module» ≡ asked.given.second
  pub aid : request.aid ≡ asked.given.third
  pub privileges : request.privileges ≡ asked.privileges
  pub parameters : (request.signed.p1 ≡ p1) × (request.signed.p2 ≡ p2)
  pub approval : approval_of request.signed ≡ approval_in asked.given
  pub short : length request.signed.before.now ≤ length body

-- The request is that of this command.
abbrev pub IsInstallOf : InstallRequest → Apdu → Type 0
IsInstallOf request command = IsInstallRequest request command.p1 command.p2 command.body

-- the load session is for this AID
abbrev pub is_loaded_as : List ℕ → Option LoadName → Bool
is_loaded_as aid None = false
is_loaded_as aid (Some load) = same_aid load.aid aid

-- the privileges have one that the entry in a slot does not hold
abbrev pub exceeds_by : Privileges → Option Slot → Privileges → Bool
exceeds_by privileges entry privilege = has (bits_of privilege) privileges && not (entry_has privilege entry)

-- an Executable Load File is not the factory's, and not in the charge of the domain
abbrev pub IsOutOfCharge : Admitted → List ℕ → Type 0
IsOutOfCharge admitted aid =
    (aid ≢ FACTORY_FILE) × MatchOption (file_named admitted.at.registry aid) ⊥ (λ file. IsFileInCharge admitted.at.registry (acting admitted) file → ⊥)

-- the Executable Load File is in the slot, nothing has the AID, and there is room for another entry
pub record FindsSource (request : InstallRequest) (tables : Tables) (slot : ℕ) : Type 0 where
  pub file : aid_of tables (File slot) ≡ Some request.file
  pub free : (thing : Found) → aid_of tables thing ≢ Some request.aid
  pub room : NoneFree tables.entries.items → ⊥
