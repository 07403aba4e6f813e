-- How a turn ends.
use Rattle.std.proofs.Common.{◌≡◌, ◌+◌, ◌++◌, ◌≤◌, Bool, true, false, List, ℕ, length, take, ap, ◌∙◌, inl, inr}
use Rattle.flash_core.specs.declared.flash.Flash.{Ghosts as Flash}
use Rattle.io_edge.specs.Lines.{Reading, GivesLine, ahead, room}
use Rattle.io_edge.specs.declared.line.Line.{Line}
use Rattle.io_edge.specs.declared.line.TheConstants.{LINE_LIMIT}
use Rattle.line_runs.specs.Exit.{ending_of}
use Rattle.gp_tool.specs.Effects.{LinePlace}
use Rattle.gp_tool.specs.Ends.{IsBad}
use Rattle.line_runs.specs.Outside.{Outside}
use Rattle.gp_tool.specs.RunsLines.{FailsLine, HasForm, Memory, PlaysLine}
use Rattle.line_runs.specs.Outside.{bad_line}
use Rattle.gp_tool.specs.Serve.{BreaksLine, RunsLine, Standing}
use Rattle.gp_tool.specs.Standing.{Held, Means}
use Rattle.line_runs.specs.Turn.{IsAtEnd, TakesFew}
use Rattle.gp_tool.specs.Turn.{BreaksNext, EndsWith, Refuses, TakesLine}
use Rattle.line_runs.specs.declared.exit.Ending.{Ending}
use Rattle.line_runs.specs.declared.exit.Ending.TheVariants.{Finished, BadLine, WriteFault}
use Rattle.gp_tool.specs.declared.verb.Verb.{Verb}

-- a run ends with a bad line as its number was written
pub refusal_ends : {F : Type 0} (verb : Verb) (device : Flash F) (reads writes : Type 0) (at at' : Standing F (Held verb)) (old : Reading) (before now : Outside) (ending : Ending)
    → at' ≡ at → ((memory : Memory verb) → Means verb at.held memory → reads → IsBad verb memory (room old) (ahead old before.source.left)) → Refuses writes (old.number + 1) before.sink.written now.sink.written ending
    → TakesFew reads old before now → EndsWith verb device reads writes at at' old before now ending
refusal_ends verb device reads writes at at' old before now BadLine same bad refuses taken = (same, (bad, refuses, taken))
refusal_ends verb device reads writes at at' old before now WriteFault same bad refuses taken = inr (same, (bad, refuses, taken))
refusal_ends verb device reads writes at at' old before now _ same bad refuses taken = absurd refuses

-- a run ends at the end of its input, by whether a reply has differed
pub input_ends : {F : Type 0} (verb : Verb) (device : Flash F) (reads writes : Type 0) (at at' : Standing F (Held verb)) (old : Reading) (before now : Outside) (differs : Bool)
    → at.differs ≡ differs → at' ≡ at → IsAtEnd reads writes old before now → EndsWith verb device reads writes at at' old before now (ending_of differs)
input_ends verb device reads writes at at' old before now false is same over = (same, is, over)
input_ends verb device reads writes at at' old before now true is same over = (same, is, over)

-- what was written before stays
pub refuses_from : (writes : Type 0) (number : ℕ) (before mid now : List ℕ) (ending : Ending) → (writes → mid ≡ before)
    → Refuses writes number mid now ending → Refuses writes number before now ending
refuses_from writes number before mid now BadLine same refuses = λ told. refuses told ∙ ap (λ w. w ++ bad_line number) (same told)
refuses_from writes number before mid now WriteFault same refuses =
    λ told. (let part = refuses told in (part.0, part.1 ∙ ap (λ w. w ++ take part.0 (bad_line number)) (same told)))
refuses_from writes number before mid now Finished same refuses = absurd refuses
refuses_from writes number before mid now _ same refuses = absurd refuses

-- the line that was given is the next one ahead
unfoldable pub given_line : {F : Type 0} (verb : Verb) (device : Flash F) (reads : Type 0) (number : ℕ) (at at' : Standing F (Held verb)) (place : LinePlace (Memory verb)) (old new : Reading) (left left' : List ℕ) (line : Line)
    → GivesLine reads old new left left' line → length line.text.now ≤ LINE_LIMIT
    → RunsLine (Means verb) (PlaysLine verb number line.text.now) device at at' place → TakesLine verb device reads number at at' place (room old) (ahead old left) (ahead new left')
given_line verb device reads number at at' place old new left left' line gives fits played = record { line = line.text.now; next = gives.line; fits = fits; played = played }

-- the device failed in its command
pub failing_line : {F : Type 0} (verb : Verb) (device : Flash F) (reads : Type 0) (at at' : Standing F (Held verb)) (place : LinePlace (Memory verb)) (old new : Reading) (left left' : List ℕ) (line : Line)
    → GivesLine reads old new left left' line → length line.text.now ≤ LINE_LIMIT → BreaksLine (FailsLine verb line.text.now) device at at' place
    → BreaksNext verb device reads at at' place (room old) (ahead old left)
failing_line verb device reads at at' place old new left left' line gives fits breaks = record {
  line = line.text.now;
  next = λ told. (ahead new left', gives.line told);
  fits = fits;
  breaks = breaks;
}

-- a malformed line that was given is a bad one
pub bad_form : (verb : Verb) (held : Held verb) (reads : Type 0) (old new : Reading) (left left' : List ℕ) (line : Line)
    → GivesLine reads old new left left' line → ((memory : Memory verb) → Means verb held memory → HasForm verb line.text.now memory → ⊥)
    → (memory : Memory verb) → Means verb held memory → reads → IsBad verb memory (room old) (ahead old left)
bad_form verb held reads old new left left' line gives none memory means told = (line.text.now, inl (ahead new left', gives.line told, none memory means))
