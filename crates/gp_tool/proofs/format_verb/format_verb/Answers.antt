use Rattle.std.proofs.Common.{refl, inl}
use Rattle.gp_tool.proofs.Flush.{flushed}
use Rattle.gp_tool.proofs.FormatEnding.{format_done, format_failed}
use Rattle.gp_tool.specs.Around.{around}
use Rattle.gp_tool.proofs.format_verb.format_verb.Goals as goal
use Rattle.gp_tool.proofs.format_verb.format_verb.Goals.{in-Ok, in-Err}

pub returns-clause-format : goal.returns-clause-format
returns-clause-format g c =
    let F = g.F.Flash in
    let K = g.K.Sink in
    let end = c.flush_at_end in
    let before = K.state c.args.sink.now in
    let faults = around 0 before.faults (F.faults c.args.flash) in
    let cause = end.ensures.cause faults 0 (F.faults c.format.new.flash) in
    let flushes = flushed K.tells c.match-format.ending end.result before (K.state end.new.sink) end.ensures.ending in
    elim c.match-format.branch [
      | in-Ok w ↦
          record {
            none = refl;
            ending = end.result;
            ended = record { status_is = c.status.ensures; cause = (rw w.ending-is at cause) (refl, refl); flushes = flushes };
            past_gate = c.format.ensures.others;
            ends = format_done F K.tells c.format.new.flash before (K.state end.new.sink) end.ensures.same end.result (rw w.ending-is at end.ensures.ending)
                (λ told. rw w.in-Ok.is at (c.format.ensures.keeps told));
          }
      | in-Err w ↦
          record {
            none = refl;
            ending = end.result;
            ended = record {
              status_is = c.status.ensures;
              cause = (rw w.ending-is at cause) (refl, inl refl, (rw w.in-Err.is at c.format.ensures.cause).failed);
              flushes = flushes;
            };
            past_gate = c.format.ensures.others;
            ends = format_failed F K.tells c.format.new.flash before (K.state end.new.sink) end.ensures.same end.result (rw w.ending-is at end.ensures.ending);
          }
    ]
