-- What a line has said, by the kind of its answer. Programs over a card cite these.
use Rattle.std.proofs.Common.{◌≡◌, ◌⊎◌, ℕ, refl, inl, inr}
use Rattle.std.specs.Prelude.{◌↔◌, List, Result, Err}
use Rattle.script_tool.specs.HostLines.{is_difference}
use Rattle.script_tool.specs.Printed.{kind_played, Printed, Nothing}
use Rattle.script_tool.specs.Kinds.{is_difference_kind}
use Rattle.script_lines.specs.Line.{HasNoForm, SaysLine}
use Rattle.script_lines.specs.declared.line.ScriptLine.{ScriptLine}
use Rattle.script_tool.specs.declared.played.Played as the_played
use Rattle.script_tool.specs.declared.played.StepStop.{StepStop}
use Rattle.script_tool.specs.declared.played.StepStop.TheVariants.{Form}

-- a difference is of the kind of one
pub differs_as : (printed : Printed) → is_difference_kind (kind_played printed) ≡ is_difference printed
differs_as Nothing = refl
differs_as _ = refl

-- when the form of a line is refused
abbrev pub RefusesForm : Result the_played.Played StepStop → ℕ → List ℕ → Type 0
RefusesForm result number line = (n : ℕ) → (result ≡ Err (Form n)) ↔ ((n ≡ number) × HasNoForm line)

-- a line that was not refused says something
pub says_some : (result : Result the_played.Played StepStop) (number : ℕ) (line : List ℕ) → RefusesForm result number line
    → HasNoForm line ⊎ ((said : ScriptLine) × SaysLine line said) → (result ≡ Err (Form number) → ⊥) → (said : ScriptLine) × SaysLine line said
says_some result number line form (inl none) other = (let refused = form number in absurd (other (refused.1 (refl, none))))
says_some result number line form (inr some) other = some
