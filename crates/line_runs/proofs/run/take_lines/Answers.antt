use Rattle.std.proofs.Common.{refl, arith, ◌∙◌}
use Rattle.line_runs.proofs.Complete.{is_complete}
use Rattle.line_runs.proofs.Course.{going_first, going_further, going_ends}
use Rattle.line_runs.proofs.run.take_lines.Goals as goal

pub loop-end-init : goal.loop-end-init
loop-end-init g c =
    rw c.new-lines.ensures (record {
      stop = refl;
      within = omega arith;
      quiet = refl;
      flushes = refl;
      going = going_first g.T.LineTaker.does g.S.Source.tells g.K.Sink.tells c.args.taker.now _;
    })

pub returns-in-Some-clause-ends : goal.returns-in-Some-clause-ends
returns-in-Some-clause-ends g c =
    going_ends g.T.LineTaker.does g.S.Source.tells g.K.Sink.tells c.args.taker.now _ c.loop-end.taker c.take_turn.new.taker
    _ _ c.loop-end.lines c.loop-end.invariant.going c.in-Some.end c.in-Some.ensures.ends (c.in-Some.ensures.flushes ∙ c.loop-end.invariant.flushes)

pub returns-in-Some-clause-complete : goal.returns-in-Some-clause-complete
returns-in-Some-clause-complete g c =
    is_complete g.T.LineTaker.does g.S.Source.tells g.K.Sink.tells c.args.taker.now c.take_turn.new.taker _ _ c.in-Some.end (returns-in-Some-clause-ends g c)

pub loop-end-preserved : goal.loop-end-preserved
loop-end-preserved g c =
    let on = c.in_default.ensures.goes_on in
    let quiet = c.in_default.ensures.quiet in
    let kept = c.loop-end.invariant in
    record {
      stop = on.stop;
      within = on.within;
      quiet = quiet ∙ kept.quiet;
      flushes = c.in_default.ensures.flushes ∙ kept.flushes;
      going = going_further g.T.LineTaker.does g.S.Source.tells g.K.Sink.tells c.args.taker.now _ c.loop-end.taker c.take_turn.new.taker
          _ _ c.loop-end.lines kept.going _ on;
    }
