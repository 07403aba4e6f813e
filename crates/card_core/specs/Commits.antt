-- The commands that may commit a change.
use Rattle.std.specs.Prelude.{◌≡◌, ◌⊎◌, ℕ, List, Contains}
use Rattle.policy_machine.specs.Admission.{Of}
use Rattle.policy_machine.specs.Classes.{changing}
use Rattle.policy_machine.specs.declared.instruction.TheConstants.{INITIALIZE_UPDATE}

-- INITIALIZE UPDATE, which draws a sequence counter, and the commands of card content management but for GET STATUS
abbrev pub MayCommit : List ℕ → Type 0
MayCommit bytes = Of bytes (λ command. (command.ins ≡ INITIALIZE_UPDATE) ⊎ Contains changing command.ins)
