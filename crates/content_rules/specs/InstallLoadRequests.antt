-- For the code inside. What the code reads of an INSTALL [for load].
use Rattle.std.specs.Prelude.{◌≡◌, ℕ, ◌≤◌, List, [], Option, None, Some, length}
use Rattle.apdu_core.specs.Apdu.{Apdu}
use Rattle.card_types.specs.Aid.{IsAid}
use Rattle.policy_machine.specs.InstallLoad.{AsksToLoad, LoadData, load_approval}
use Rattle.content_rules.specs.declared.install_load.LoadInstallRequest.{LoadInstallRequest}
use Rattle.policy_slots.specs.HoldersFound.{approval_of}

-- the field names this domain, or it is empty
abbrev pub NamesDomain : Option (List ℕ) → List ℕ → Type 0
NamesDomain None field = field ≡ []
NamesDomain (Some aid) field = (field ≡ aid) × IsAid field

-- The request is that of a command with this P1, P2 and data field.
pub record IsLoadInstallRequest (request : LoadInstallRequest) (p1 p2 : ℕ) (body : List ℕ) : Type 0 where
  pub given : LoadData
  pub asks : AsksToLoad body given
  pub file : request.file ≡ given.file
  pub domain : NamesDomain request.domain given.domain
  pub hash : request.hash.now ≡ given.hash
  pub parameters : (request.signed.p1 ≡ p1) × (request.signed.p2 ≡ p2)
  pub approval : approval_of request.signed ≡ load_approval given
  pub short : length request.signed.before.now ≤ length body

-- The request is that of this command.
abbrev pub IsLoadInstallOf : LoadInstallRequest → Apdu → Type 0
IsLoadInstallOf request command = IsLoadInstallRequest request command.p1 command.p2 command.body
