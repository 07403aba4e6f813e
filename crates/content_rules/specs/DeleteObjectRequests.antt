-- For the code inside. What the code reads of a DELETE of an object.
use Rattle.std.specs.Prelude.{◌≡◌, ℕ, ◌≤◌, ◌==◌, List, length}
use Rattle.apdu_core.specs.Apdu.{Apdu}
use Rattle.policy_machine.specs.DeleteKey.{DeleteParameters}
use Rattle.policy_machine.specs.DeleteObject.{AsksToDelete, DeletionAsked}
use Rattle.content_rules.specs.declared.delete_object.DeletionRequest.{DeletionRequest}
use Rattle.policy_slots.specs.HoldersFound.{approval_of}

-- The request is that of a command with this P1, P2 and data field.
pub record IsDeletionRequest (request : DeletionRequest) (p1 p2 : ℕ) (body : List ℕ) : Type 0 where
  pub asked : DeletionAsked
  pub asks : AsksToDelete body asked
  pub form : DeleteParameters p1 p2
  pub aid : request.aid ≡ asked.aid
  pub related : request.related ≡ (p2 == 0x80)
  pub parameters : (request.signed.p1 ≡ p1) × (request.signed.p2 ≡ p2)
  pub approval : approval_of request.signed ≡ asked.approval
  pub short : length request.signed.before.now ≤ length body

-- The request is that of this command.
abbrev pub IsDeletionOf : DeletionRequest → Apdu → Type 0
IsDeletionOf request command = IsDeletionRequest request command.p1 command.p2 command.body
