use Rattle.std.proofs.Common.{false, [], ◌∙◌}
use Rattle.cap_pack.proofs.InputLines.{lines_joined}
use Rattle.line_runs.specs.Outside.{outside}
use Rattle.gp_tool.proofs.CapEnding.{finished_ends, stopped_ends, stopped_well, written_well}
use Rattle.gp_tool.proofs.DeskEnding.{lines_cause}
use Rattle.gp_tool.proofs.cap_verb.pack.Goals as goal

pub returns-in-Finished-clause-ends : goal.returns-in-Finished-clause-ends
returns-in-Finished-clause-ends g c =
    let S = g.S.Source in
    let K = g.K.Sink in
    let taken = rw c.requires.none at c.in-Finished.ensures.ends in
    let lines = lines_joined taken.course.given [] taken.course.last taken.course.texts taken.course.played in
    let kept = taken.rests ∙ lines.2 in (
      taken.course,
      finished_ends K.tells (outside (S.state c.args.source.now) (K.state c.args.sink.now)) (S.state c.take_lines.new.source) (K.state c.take_lines.new.sink)
          (K.state c.write_joined.new.sink) taken.course taken.ends lines.0 lines.1 lines.3 (c.write_joined.ensures.flushes ∙ c.in-Finished.ensures.flushes)
          c.write_joined.result (c.write_joined.ensures.written lines.0 kept),
    )

pub returns-in-Finished-clause-complete : goal.returns-in-Finished-clause-complete
returns-in-Finished-clause-complete g c told good =
    let taken = rw c.requires.none at c.in-Finished.ensures.ends in
    let lines = lines_joined taken.course.given [] taken.course.last taken.course.texts taken.course.played in
    written_well lines.0 _ _ _ c.write_joined.result (c.write_joined.ensures.written lines.0 (taken.rests ∙ lines.2))

pub returns-in_default : goal.returns-in_default
returns-in_default g c =
    let S = g.S.Source in
    let K = g.K.Sink in
    let taken = rw c.requires.none at c.take_lines.ensures.ends in
    let old = outside (S.state c.args.source.now) (K.state c.args.sink.now) in
    let new = outside (S.state c.take_lines.new.source) (K.state c.take_lines.new.sink) in
    let end = c.take_lines.result in
    rw c.of_lines.ensures (record {
      ends = (taken.course, stopped_ends K.tells old new taken.course end c.in_default.not-Finished taken.ends);
      complete = λ told good. (let well = (rw c.requires.none at c.take_lines.ensures.complete) told good in stopped_well end well.0 well.1);
      flushes = c.take_lines.ensures.flushes;
      cause = lines_cause end false (S.state c.args.source.now).faults (S.state c.take_lines.new.source).faults
          (K.state c.args.sink.now).faults (K.state c.take_lines.new.sink).faults c.take_lines.ensures.cause;
    })
