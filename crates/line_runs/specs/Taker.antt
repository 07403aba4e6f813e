-- What takes lines, one after the other. This profile's own.
use Rattle.std.specs.Prelude.{◌≡◌, ℕ, List}
use Rattle.faults.specs.Faults.{Rose}
use Rattle.line_runs.specs.declared.taker.Taking.{Taking}
use Rattle.line_runs.specs.declared.taker.Taking.TheVariants.{Taken, NoForm, Failed}

-- from one state, by a line, to the next one, with what is written
abbrev pub LineStep : Type 0 → Type 1
LineStep T = T → List ℕ → T → List ℕ → Type 0

-- which lines have a form in a state, where such a line leads, how the taker fails in one, and how many faults it has counted
pub record Taker (T : Type 0) : Type 1 where
  pub has_form : T → List ℕ → Type 0
  pub takes : LineStep T
  pub fails : LineStep T
  pub faults : T → ℕ

-- what takes each line that leads anywhere, and never fails
abbrev pub faultless : {T : Type 0} → LineStep T → Taker T
faultless {T} takes = record {
  has_form = λ at line. (next : T) × (text : List ℕ) × takes at line next text;
  takes = takes;
  fails = λ _ _ _ _. ⊥;
  faults = λ _. 0;
}

-- What comes of a line. One of no form leaves all as it was.
abbrev pub TakerComes : {T : Type 0} → Taker T → T → List ℕ → T → List ℕ → Taking → Type 0
TakerComes does at line next text Taken = does.takes at line next text
TakerComes does at line next text NoForm = (does.has_form at line → ⊥) × (next ≡ at)
TakerComes does at line next text Failed = does.fails at line next text

-- the taker's count of faults rises where it fails, and stands still elsewhere
abbrev pub TakingCause : Taking → ℕ → ℕ → Type 0
TakingCause Failed old new = Rose old new
TakingCause _ old new = new ≡ old
