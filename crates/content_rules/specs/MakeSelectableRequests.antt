-- For the code inside. What the code reads of an INSTALL [for make selectable], and what it finds.
use Rattle.std.specs.Prelude.{◌≡◌, ℕ, ◌≤◌, List, [], Option, None, Some, MatchOption, length}
use Rattle.apdu_core.specs.Apdu.{Apdu}
use Rattle.card_types.specs.Privileges.{ArePrivilegeBytes}
use Rattle.card_types.specs.declared.privileges.Privileges.{Privileges}
use Rattle.card_types.specs.declared.tables.Entry.{Entry}
use Rattle.policy_machine.specs.InstallFields.{InstallData, approval_in}
use Rattle.policy_machine.specs.MakeSelectable.{AsksToMakeSelectable, is_installed}
use Rattle.content_rules.specs.declared.make_selectable.SelectableRequest.{SelectableRequest}
use Rattle.policy_slots.specs.HoldersFound.{approval_of}

-- no privileges are given, or these
abbrev pub AreGiven : Option Privileges → List ℕ → Type 0
AreGiven None bytes = bytes ≡ []
AreGiven (Some privileges) bytes = ArePrivilegeBytes privileges bytes

-- The request is that of a command with this P1, P2 and data field.
pub record IsSelectableRequest (request : SelectableRequest) (p1 p2 : ℕ) (body : List ℕ) : Type 0 where
  pub given : InstallData
  pub asks : AsksToMakeSelectable body given
  pub aid : request.aid ≡ given.third
  pub privileges : AreGiven request.privileges given.privileges
  pub parameters : (request.signed.p1 ≡ p1) × (request.signed.p2 ≡ p2)
  pub approval : approval_of request.signed ≡ approval_in given
  pub short : length request.signed.before.now ≤ length body

-- The request is that of this command.
abbrev pub IsSelectableOf : SelectableRequest → Apdu → Type 0
IsSelectableOf request command = IsSelectableRequest request command.p1 command.p2 command.body

-- the slot holds the entry with this AID, which is just installed
abbrev pub IsInstalledWith : List ℕ → Option Entry → Type 0
IsInstalledWith aid slot = MatchOption slot ⊥ (λ entry. (entry.aid ≡ aid) × (entry.life ≡ is_installed))
