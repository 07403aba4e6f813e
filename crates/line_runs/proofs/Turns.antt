-- How a turn ends.
use Rattle.std.proofs.Common.{◌≡◌, ◌+◌, ◌≤◌, List, ℕ, length, inl, inr}
use Rattle.io_edge.specs.Lines.{Reading, GivesLine, ahead, room}
use Rattle.io_edge.specs.declared.line.Line.{Line}
use Rattle.io_edge.specs.declared.line.TheConstants.{LINE_LIMIT}
use Rattle.line_runs.specs.Outside.{Outside}
use Rattle.line_runs.specs.Taken.{IsBadLine}
use Rattle.line_runs.specs.Taker.{LineStep, Taker}
use Rattle.line_runs.specs.Turn.{LinesEndWith, TakesFew, TakesNext, WritesAtFault, WritesBadLine}
use Rattle.line_runs.specs.declared.ending.LinesEnd.{LinesEnd}
use Rattle.line_runs.specs.declared.ending.LinesEnd.TheVariants.{Finished, BadLine, Failed, ReadFault, WriteFault, InputTooLong}

-- the taking ends with a bad line as its number was written
pub refusal_ends : {T : Type 0} (does : Taker T) (reads writes : Type 0) (at at' : T) (old : Reading) (before now : Outside) (end : LinesEnd) → at' ≡ at
    → (reads → IsBadLine (does.has_form at) (room old) (ahead old before.source.left)) → WritesBadLine writes (old.number + 1) before.sink.written now.sink.written end
    → TakesFew reads old before now → LinesEndWith does reads writes at at' old before now end
refusal_ends does reads writes at at' old before now BadLine same bad refuses taken = (same, (bad, refuses, taken))
refusal_ends does reads writes at at' old before now WriteFault same bad refuses taken = inr (inl (same, (bad, refuses, taken)))
refusal_ends does reads writes at at' old before now Finished same bad refuses taken = absurd refuses
refusal_ends does reads writes at at' old before now ReadFault same bad refuses taken = absurd refuses
refusal_ends does reads writes at at' old before now InputTooLong same bad refuses taken = absurd refuses
refusal_ends does reads writes at at' old before now Failed same bad refuses taken = absurd refuses

-- the taking ends with a line in which the taker failed, as its text was written
pub failure_ends : {T : Type 0} (does : Taker T) (reads writes : Type 0) (at at' : T) (old : Reading) (before now : Outside) (after text : List ℕ) (end : LinesEnd)
    → TakesNext does.fails reads at at' text (room old) (ahead old before.source.left) after → WritesAtFault writes text before.sink.written now.sink.written end
    → TakesFew reads old before now → LinesEndWith does reads writes at at' old before now end
failure_ends does reads writes at at' old before now after text Failed line wrote few = record { after = after; text = text; line = line; written = wrote; few = few }
failure_ends does reads writes at at' old before now after text WriteFault line wrote few =
    inr (inr (record { after = after; text = text; line = line; written = wrote; few = few }))
failure_ends does reads writes at at' old before now after text Finished line wrote few = absurd wrote
failure_ends does reads writes at at' old before now after text BadLine line wrote few = absurd wrote
failure_ends does reads writes at at' old before now after text ReadFault line wrote few = absurd wrote
failure_ends does reads writes at at' old before now after text InputTooLong line wrote few = absurd wrote

-- the line that was given is the next one ahead
unfoldable pub given_line : {T : Type 0} (takes : LineStep T) (reads : Type 0) (at at' : T) (text : List ℕ) (old new : Reading) (left left' : List ℕ) (line : Line)
    → GivesLine reads old new left left' line → length line.text.now ≤ LINE_LIMIT → takes at line.text.now at' text
    → TakesNext takes reads at at' text (room old) (ahead old left) (ahead new left')
given_line takes reads at at' text old new left left' line gives fits taken = record { line = line.text.now; next = gives.line; fits = fits; taken = taken }

-- a malformed line that was given is a bad one
pub bad_form : {T : Type 0} (does : Taker T) (reads : Type 0) (at : T) (old new : Reading) (left left' : List ℕ) (line : Line)
    → GivesLine reads old new left left' line → (does.has_form at line.text.now → ⊥) → reads → IsBadLine (does.has_form at) (room old) (ahead old left)
bad_form does reads at old new left left' line gives none told = (line.text.now, inl (ahead new left', gives.line told, none))
