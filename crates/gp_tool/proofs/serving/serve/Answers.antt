use Rattle.std.proofs.Common.{ap, ◌∙◌}
use Rattle.policy_machine.specs.State.{powered_on}
use Rattle.line_runs.specs.Exit.{exit_status}
use Rattle.gp_tool.proofs.Complete.{is_done}
use Rattle.gp_tool.proofs.LinesAreRuns.{lines_keep_trees}
use Rattle.gp_tool.proofs.Statuses.{never_others}
use Rattle.gp_tool.specs.RunsLines.{start}
use Rattle.gp_tool.proofs.serving.serve.Goals as goal

pub returns-clause-run : goal.returns-clause-run
returns-clause-run g c state stands =
    let again = c.reset.ensures.stands state stands in
    let ends = c.run-ending.ensures.ends (powered_on state.registry) again in
    let course = ends.course in
    rw (← c.reset.ensures.same.0) (record {
      ending = c.run-ending.result;
      ended = record { status_is = c.status.ensures; cause = c.run-ending.ensures.cause; flushes = c.run-ending.ensures.flushes };
      ends = ends;
      apart = lines_keep_trees c.args.verb 1 course.given (start c.args.verb (powered_on state.registry)) course.last course.effect again.sound course.plays;
    })

pub returns-clause-never : goal.returns-clause-never
returns-clause-never g c = rw c.status.ensures (never_others c.run-ending.result)

pub returns-clause-complete : goal.returns-clause-complete
returns-clause-complete g c state stands told good none =
    let again = c.reset.ensures.stands state stands in
    rw c.status.ensures (is_done c.args.verb g.S.Source.tells g.K.Sink.tells _ _ (powered_on state.registry) _ _ _ _ c.run-ending.result c.run-ending.ensures.cause
    (c.run-ending.ensures.ends (powered_on state.registry) again) told (good.0 (powered_on state.registry)) good.1 none.reads none.writes (rw (← c.reset.ensures.same.0) at none.flash))

pub returns-clause-live : goal.returns-clause-live
returns-clause-live g c other = c.run-ending.ensures.live (λ is. other (c.status.ensures ∙ ap exit_status is))
