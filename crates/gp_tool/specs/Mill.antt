-- The verb `mill`: a workload that is the same each time is played, and its summary is written.
use Rattle.std.specs.Prelude.{◌≡◌, ◌⊎◌, ℕ, ◌+◌, ◌<◌, ◌≤◌, ◌^◌, ◌==◌, Bool, List, [], ◌∷◌, ◌++◌, length, cond, codes, decimal}
use Rattle.std.specs.List.{ends_with}
use Rattle.std.specs.Str.Parse.{IsNumeral, digits_value}
use Rattle.hex.specs.Hex.{encode_lower}
use Rattle.card_types.specs.Factory.{factory_registry}
use Rattle.card_types.specs.Registry.{Registry}
use Rattle.card_types.specs.declared.factory.TheConstants.{ISSUER}
use Rattle.faults.specs.Faults.{Rose}
use Rattle.flash_core.specs.declared.flash.Flash.{Ghosts as Flash}
use Rattle.io_edge.specs.Streams.{SinkState}
use Rattle.policy_machine.specs.GetData.{IsSequenceCounter}
use Rattle.policy_machine.specs.State.{State}
use Rattle.policy_machine.specs.Step.{Outcome}
use Rattle.script_tool.specs.Host.{Host}
use Rattle.script_tool.specs.Mill.{workload}
use Rattle.gp_tool.specs.Device.{HasFailed, HasRun, LeavesOneOf, LeftOneOf}
use Rattle.gp_tool.specs.Effects.{LineEffect, LinePlace}
use Rattle.gp_tool.specs.Flush.{WritesText}
use Rattle.gp_tool.specs.Formatted.{IsFactoryCard}
use Rattle.gp_tool.specs.RunsLines.{FailsLine, RunsLines, start}
use Rattle.line_runs.specs.declared.exit.Ending.{Ending}
use Rattle.line_runs.specs.declared.exit.Ending.TheVariants.{Failed}
use Rattle.gp_tool.specs.declared.tally.Tally.{Tally}
use Rattle.gp_tool.specs.declared.verb.Verb.TheVariants.{Play}
use Rattle.gp_tool.specs.declared.workload.Workload.{Workload}

-- the word is a number in so many decimal digits at most, perhaps with leading zeros
abbrev pub IsNumber : ℕ → List ℕ → ℕ → Type 0
IsNumber most word n = IsNumeral 10 word × (length word ≤ most) × (digits_value 10 word ≡ n)

-- the words name a workload: a seed of 64 bits, and from 1 to 10,000 rounds
abbrev pub NameWorkload : List ℕ → List ℕ → Workload → Type 0
NameWorkload seed rounds work =
    IsNumber 20 seed work.seed × (work.seed < 2 ^ 64) × IsNumber 5 rounds work.rounds × (1 ≤ work.rounds) × (work.rounds ≤ 10_000)

-- the text of a line ends with the status word 9000
abbrev pub is_success : List ℕ → Bool
is_success text = ends_with (λ a b. a == b) text (codes "9000" ++ 10 ∷ [])

-- one text more
abbrev pub with_text : List ℕ → Tally → Tally
with_text text tally =
    cond (is_success text) (record { success = tally.success + 1; other = tally.other }) (record { success = tally.success; other = tally.other + 1 })

abbrev pub with_texts : List (List ℕ) → Tally → Tally
with_texts [] tally = tally
with_texts (text ∷ texts) tally = with_texts texts (with_text text tally)

-- how many texts end with 9000, and how many do not
abbrev pub tally_of : List (List ℕ) → Tally
tally_of texts = with_texts texts (record { success = 0; other = 0 })

-- the sequence counter that a session of the Issuer Security Domain draws, where it has one
abbrev pub IsCounterText : Registry → List ℕ → Type 0
IsCounterText registry text =
    ((value : List ℕ) × IsSequenceCounter registry ISSUER value × (text ≡ encode_lower value))
    ⊎ (((value : List ℕ) → IsSequenceCounter registry ISSUER value → ⊥) × (text ≡ codes "none"))

-- a line of the summary: a word and a count
abbrev pub count_line : List ℕ → ℕ → List ℕ
count_line word count = word ++ codes " " ++ decimal count ++ 10 ∷ []

-- its first line
abbrev pub workload_line : Workload → List ℕ
workload_line work = codes "mill " ++ decimal work.seed ++ codes " " ++ decimal work.rounds ++ 10 ∷ []

-- all five
abbrev pub summary : Workload → Tally → List ℕ → List ℕ
summary work tally counter =
    workload_line work ++ count_line (codes "rounds") work.rounds ++ count_line (codes "9000") tally.success ++ count_line (codes "other") tally.other
    ++ codes "counter " ++ counter ++ 10 ∷ []

-- The lines of the workload were played from a first state on, and the text is the summary of what they wrote. `made` is the
-- device at the first state.
pub record PlaysAll {F : Type 0} (device : Flash F) (work : Workload) (made : F) (first : State) (new : F) (count : ℕ) (text : List ℕ) : Type 0 where
  pub effect : LineEffect
  pub last : LinePlace Host
  pub plays : RunsLines Play 1 (workload work.seed work.rounds) (start Play first) effect last
  pub run : HasRun device made new first count effect.outcomes last.state
  pub counter : List ℕ
  pub counted : IsCounterText last.state.registry counter
  pub text_is : text ≡ summary work (tally_of effect.texts) counter

-- The device failed in a command of the line after the first ones.
pub record PlaysSome {F : Type 0} (device : Flash F) (work : Workload) (made : F) (first : State) (new : F) (count : ℕ) : Type 0 where
  pub given : List (List ℕ)
  pub line : List ℕ
  pub rest : List (List ℕ)
  pub lines_are : workload work.seed work.rounds ≡ given ++ line ∷ rest
  pub effect : LineEffect
  pub last : LinePlace Host
  pub plays : RunsLines Play 1 given (start Play first) effect last
  pub begun : List Outcome
  pub mid : State
  pub next : Outcome
  pub fails : FailsLine Play line last begun mid next
  pub failed : HasFailed device made new first count (effect.outcomes ++ begun) mid next

-- what was played and written at each ending
abbrev pub MillEnds : {F : Type 0} → Flash F → Type 0 → Workload → F → State → Ending → F → ℕ → SinkState → SinkState → Type 0
MillEnds device writes work made first Failed new count old new' = PlaysSome device work made first new count × (writes → new'.written ≡ old.written)
MillEnds device writes work made first ending new count old new' = (text : List ℕ) × PlaysAll device work made first new count text × WritesText writes text ending old new'

-- The card was made, without a fault, and not powered on: the device failed then, or it does not tell what it holds. Power lost
-- at any moment since leaves the factory card.
pub record IsNotMilled {F : Type 0} (device : Flash F) (status count : ℕ) (old new : F) : Type 0 where
  pub made : F
  pub factory : IsFactoryCard device made
  pub faultless : device.faults made ≡ device.faults old
  pub none : count ≡ 0
  pub why : ((status ≡ 3) × Rose (device.faults made) (device.faults new)) ⊎ ((status ≡ 4) × (device.tells → ⊥))
  pub left : LeftOneOf device new (factory_registry ∷ [])
  pub moments : LeavesOneOf device made new (factory_registry ∷ [])
