use Rattle.std.proofs.Common.{ap, sym, ◌∙◌}
use Rattle.line_runs.specs.Outside.{outside}
use Rattle.receipt_desk.specs.Audit.{AuditState}
use Rattle.gp_tool.proofs.DeskEnding.{desk_done, desk_ends, flush_keeps, left_finished, lines_cause}
use Rattle.gp_tool.proofs.Flush.{after_from, flushed}
use Rattle.gp_tool.proofs.desk_verb.desk_verb.Goals as goal

pub returns-clause-ends : goal.returns-clause-ends
returns-clause-ends g c =
    let S = g.S.Source in
    let K = g.K.Sink in
    let taken = rw c.new-audit.ensures at c.take_lines-end.ensures.ends in
    let end = c.take_lines-end.result in
    let differs = c.differs.result in
    let ending = c.of_lines-ending.ensures in
    let after = after_from K.tells c.of_lines-ending.result (K.state c.args.sink.now) (K.state c.take_lines-end.new.sink) (K.state c.flush_at_end.new.sink) c.flush_at_end.result
    c.take_lines-end.ensures.flushes c.flush_at_end.ensures.ending in
    record {
      ending = c.flush_at_end.result;
      status_is = c.status_with.ensures;
      cause = c.flush_at_end.ensures.cause _ (S.state c.take_lines-end.new.source).faults 0
          (rw ending (lines_cause end differs (S.state c.args.source.now).faults (S.state c.take_lines-end.new.source).faults
          (K.state c.args.sink.now).faults (K.state c.take_lines-end.new.sink).faults c.take_lines-end.ensures.cause));
      flushes = flushed K.tells c.of_lines-ending.result c.flush_at_end.result (K.state c.args.sink.now) (K.state c.flush_at_end.new.sink) after;
      course = taken.course;
      ends = desk_ends K.tells (outside (S.state c.args.source.now) (K.state c.args.sink.now)) (S.state c.take_lines-end.new.source)
          (K.state c.take_lines-end.new.sink) (K.state c.flush_at_end.new.sink) c.flush_at_end.ensures.same c.take_lines-end.ensures.flushes taken.course
          end differs c.flush_at_end.result taken.ends
          (λ is. ap (λ (a : AuditState). a.differs) (sym (taken.rests ∙ left_finished K.tells (outside (S.state c.args.source.now) (K.state c.args.sink.now))
          (outside (S.state c.take_lines-end.new.source) (K.state c.take_lines-end.new.sink)) taken.course end taken.ends is)) ∙ sym c.differs.ensures)
          (rw ending at after);
    }

pub returns-clause-complete : goal.returns-clause-complete
unfolding returns-clause-ends
returns-clause-complete g c told good unread unwritten =
    let ends = returns-clause-ends g c in
    let complete = (rw c.new-audit.ensures at c.take_lines-end.ensures.complete) told good in
    rw (c.status_with.ensures) (desk_done c.take_lines-end.result c.differs.result c.flush_at_end.result _ _ _ _ ends.cause unread unwritten complete.0 complete.1
    (rw c.of_lines-ending.ensures at (flush_keeps g.K.Sink.tells c.of_lines-ending.result c.flush_at_end.result _ _ c.flush_at_end.ensures.ending)))
