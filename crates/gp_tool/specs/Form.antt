-- The forms of a line, and what a card is given by it.
use Rattle.std.specs.Prelude.{◌≡◌, ◌⊎◌, ℕ, ◌<◌, List, [], ◌∷◌, length, codes, Ok, ◌≤◌, take}
use Rattle.gp_tool.specs.Effects.{LinePlace}
use Rattle.gp_tool.specs.declared.form.Form.{Form}
use Rattle.gp_tool.specs.declared.form.TheConstants.{COMMAND_LIMIT}
use Rattle.hex.specs.Hex.{decode_of}
use Rattle.policy_machine.specs.Run.{Input, Command, Reset}
use Rattle.policy_machine.specs.State.{State}
use Rattle.policy_machine.specs.Step.{Outcome, Step}
use Rattle.script_tool.specs.Line.{IsBlank, IsComment}
use Rattle.gp_tool.specs.declared.form.Form.TheVariants as form

-- the line is the bytes in hexadecimal digits, in either case, of one byte at least
abbrev pub IsHex : List ℕ → List ℕ → Type 0
IsHex line bytes = (decode_of line ≡ Ok bytes) × (0 < length bytes)

-- a line gives a card nothing, a reset, or a command
abbrev pub SpellsInputs : List ℕ → List Input → Type 0
SpellsInputs line inputs =
    ((IsBlank line ⊎ IsComment line) × (inputs ≡ []))
    ⊎ ((line ≡ codes "reset") × (inputs ≡ Reset ∷ []))
    ⊎ ((bytes : List ℕ) × IsHex line bytes × (inputs ≡ Command bytes ∷ []))

-- a line for a card
abbrev pub IsForCard : List ℕ → Type 0
IsForCard line = (inputs : List Input) × SpellsInputs line inputs

-- The device failed in the command of a line, which is its first.
abbrev pub FailsCommand : {Memory : Type 0} → List ℕ → LinePlace Memory → List Outcome → State → Outcome → Type 0
FailsCommand line at begun mid next =
    (begun ≡ []) × (mid ≡ at.state) × (bytes : List ℕ) × SpellsInputs line (Command bytes ∷ []) × Step at.state bytes next

-- For the code inside. What the code's form of a line stands for.

abbrev pub inputs_of : Form → List ℕ → List Input
inputs_of form.Nothing bytes = []
inputs_of form.Reset bytes = Reset ∷ []
inputs_of (form.Command count) bytes = Command (take count bytes) ∷ []

-- a command is no longer than the room for it
abbrev pub FitsRoom : Form → Type 0
FitsRoom form.Nothing = Unit {0}
FitsRoom form.Reset = Unit {0}
FitsRoom (form.Command count) = count ≤ COMMAND_LIMIT
