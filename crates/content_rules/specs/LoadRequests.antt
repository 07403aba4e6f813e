-- For the code inside. What the code reads of a LOAD.
use Rattle.std.specs.Prelude.{◌≡◌, ℕ, ◌==◌, List}
use Rattle.apdu_core.specs.Apdu.{Apdu}
use Rattle.policy_machine.specs.Load.{LoadParameters}
use Rattle.content_rules.specs.declared.load.LoadRequest.{LoadRequest}

-- The request is that of a command with this P1, P2 and data field.
pub record IsLoadRequest (request : LoadRequest) (p1 p2 : ℕ) (body : List ℕ) : Type 0 where
  pub form : LoadParameters p1
  pub last : request.last ≡ (p1 == 0x80)
  pub number : request.number ≡ p2
  pub block : request.block.now ≡ body

-- The request is that of this command.
abbrev pub IsLoadOf : LoadRequest → Apdu → Type 0
IsLoadOf request command = IsLoadRequest request command.p1 command.p2 command.body
