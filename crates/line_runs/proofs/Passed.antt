-- What a call for the next line takes of an input.
use Rattle.std.proofs.Common.{◌≡◌, ◌+◌, ◌++◌, ◌<◌, List, [], ℕ, length, refl, sym, ap, ◌∙◌, append_assoc, arith, length-append}
use Rattle.io_edge.proofs.Cuts.{line_suffix}
use Rattle.io_edge.specs.Lines.{Reading, GivesLine, GivesStop, ahead, room}
use Rattle.io_edge.specs.declared.line.Line.{Line}
use Rattle.io_edge.specs.declared.line.LineStop.{LineStop}
use Rattle.io_edge.specs.declared.line.TheConstants.{INPUT_LIMIT}
use Rattle.line_runs.specs.Taken.{TakesNoMore}

-- what was taken after a line that was given
pub line_leaves : (reads : Type 0) (old new : Reading) (left left' : List ℕ) (line : Line)
    → GivesLine reads old new left left' line → reads → TakesNoMore (old.passed + length (ahead old left)) (ahead new left') left'
line_leaves reads old new left left' line gives told =
    let few = gives.few in
    let within = gives.within in
    let further = gives.further in
    let passed = gives.passed told in
    let all = length-append new.held left' in
    record { held = new.held; rest = refl; few = omega (arith, few, further); within = omega (arith, within, passed, all) }

-- what was taken of what stood ahead of the line
pub line_takes : (reads : Type 0) (old new : Reading) (left left' : List ℕ) (line : Line)
    → GivesLine reads old new left left' line → reads → TakesNoMore (old.passed + length (ahead old left)) (ahead old left) left'
line_takes reads old new left left' line gives told =
    let leaves = line_leaves reads old new left left' line gives told in
    let suffix = line_suffix (room old) (ahead old left) line.text.now (ahead new left') (gives.line told) in
    let few = gives.few in
    let passed = gives.passed told in
    let parts = ap length suffix.1 ∙ length-append suffix.0 (ahead new left') in
    let both = length-append suffix.0 new.held in
    record {
      held = suffix.0 ++ new.held;
      rest = suffix.1 ∙ sym (append_assoc suffix.0 new.held left');
      few = omega (arith, few, passed, parts, both);
      within = leaves.within;
    }

-- what was taken where no line is given
pub stop_takes : (reads : Type 0) (old new : Reading) (left left' : List ℕ) (cause : LineStop)
    → GivesStop reads old new left left' cause → reads → TakesNoMore (old.passed + length (ahead old left)) (ahead old left) left'
stop_takes reads old new left left' cause gives told =
    let few = gives.few in
    let within = gives.within in
    let passed = gives.passed in
    let kept = ap length (gives.kept told) in
    let all = length-append new.held left' in
    record { held = new.held; rest = sym (gives.kept told); few = omega (arith, few, passed); within = omega (arith, within, passed, kept, all) }

-- at the end of the input nothing is held
pub taken_all : (total : ℕ) (left : List ℕ) → left ≡ [] → total < INPUT_LIMIT → TakesNoMore total [] left
taken_all total left none short = record { held = []; rest = sym none; few = omega arith; within = omega (arith, short) }
