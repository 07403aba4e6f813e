-- For the code inside. What the code reads of an INSTALL [for extradition], and what it finds.
use Rattle.std.specs.Prelude.{◌≡◌, ℕ, ◌≤◌, IsSome, List, Some, length}
use Rattle.apdu_core.specs.Apdu.{Apdu}
use Rattle.card_types.specs.Found.{aid_of}
use Rattle.card_types.specs.Registry.{Registry}
use Rattle.card_types.specs.Represents.{Represents, domain_aid, thing_in}
use Rattle.card_types.specs.Well.{Well}
use Rattle.card_types.specs.declared.found.Found.TheVariants.{Entry}
use Rattle.card_types.specs.declared.tables.Tables.{Tables}
use Rattle.policy_machine.specs.Extradition.{AsksToExtradite, domain_of_thing}
use Rattle.policy_machine.specs.InstallFields.{InstallData, approval_in}
use Rattle.content_rules.specs.declared.extradition.Extradition.{Extradition}
use Rattle.content_rules.specs.declared.extradition.ExtraditionRequest.{ExtraditionRequest}
use Rattle.policy_slots.specs.HoldersFound.{approval_of}

-- The request is that of a command with this P1, P2 and data field.
pub record IsExtraditionRequest (request : ExtraditionRequest) (p1 p2 : ℕ) (body : List ℕ) : Type 0 where
  pub given : InstallData
  pub asks : AsksToExtradite body given
  pub to : request.to ≡ given.first
  pub aid : request.aid ≡ given.third
  pub parameters : (request.signed.p1 ≡ p1) × (request.signed.p2 ≡ p2)
  pub approval : approval_of request.signed ≡ approval_in given
  pub short : length request.signed.before.now ≤ length body

-- The request is that of this command.
abbrev pub IsExtraditionOf : ExtraditionRequest → Apdu → Type 0
IsExtraditionOf request command = IsExtraditionRequest request command.p1 command.p2 command.body

-- the thing, its domain and its new one are in these slots
pub record FindsMove (request : ExtraditionRequest) (tables : Tables) (found : Extradition) : Type 0 where
  pub thing : aid_of tables found.thing ≡ Some request.aid
  pub from : (page : ℕ → List ℕ) (said : Registry) → Represents page tables said → Well said
      → domain_aid tables.entries.items found.from ≡ domain_of_thing said request.aid
  pub to : aid_of tables (Entry found.to) ≡ Some request.to
  pub old : IsSome (thing_in tables.entries.items found.from)
