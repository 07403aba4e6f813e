use Rattle.std.proofs.Common.{refl, ap, ◌∙◌, inl, inr}
use Rattle.line_runs.specs.Exit.{exit_status}
use Rattle.gp_tool.proofs.Flush.{flushed}
use Rattle.gp_tool.proofs.FormatEnding.{format_failed}
use Rattle.gp_tool.proofs.MillEnding.{mills_from}
use Rattle.gp_tool.specs.Around.{around}
use Rattle.line_runs.specs.declared.exit.Ending.TheVariants.{Failed}
use Rattle.gp_tool.proofs.mill_verb.mill_verb.Goals as goal

pub returns-in-Ok-clause-mill : goal.returns-in-Ok-clause-mill
returns-in-Ok-clause-mill g c other =
    mills_from c.args.work g.K.Sink g.F.Flash _ _ c.args.flash c.format.new.flash _ c.args.sink.now _ c.in-Ok.ensures.cause.ok (c.mill_factory_card.ensures.mill other)

pub returns-in-Err-clause-mill : goal.returns-in-Err-clause-mill
returns-in-Err-clause-mill g c other =
    let F = g.F.Flash in
    let K = g.K.Sink in
    let end = c.flush_at_end in
    let before = K.state c.args.sink.now in
    let faults = around 0 before.faults (F.faults c.args.flash) in
    let after = end.ensures.ending in
    inr (inl (
      c.status.ensures ∙ ap exit_status after.0,
      record {
        none = refl;
        ending = end.result;
        ended = record {
          status_is = c.status.ensures;
          cause = end.ensures.cause faults 0 (F.faults c.format.new.flash) (refl, inl refl, c.in-Err.ensures.cause.failed);
          flushes = flushed K.tells Failed end.result before (K.state end.new.sink) after;
        };
        past_gate = c.format.ensures.others;
        ends = format_failed F K.tells c.format.new.flash before (K.state end.new.sink) end.ensures.same end.result after;
      },
    ))
