use Rattle.std.proofs.Common.{refl, arith, ◌∙◌}
use Rattle.gp_tool.proofs.RunSoFar.{going_first, going_further, going_ends}
use Rattle.gp_tool.proofs.Moments.{nothing_done}
use Rattle.gp_tool.proofs.Kept.{means_first}
use Rattle.gp_tool.specs.Standing.{held_in, standing_in}
use Rattle.gp_tool.proofs.run.take_lines.Goals as goal

pub loop-ending-init : goal.loop-ending-init
loop-ending-init g c =
    let F = g.F.Flash in
    rw c.new-lines.ensures (record {
      stop = refl;
      within = omega arith;
      live = c.requires.live;
      reads = refl;
      writes = refl;
      later = omega arith;
      flushes = refl;
      going = λ first stands.
          going_first c.args.verb F g.S.Source.tells g.K.Sink.tells first c.args.end.now.card.flash _ c.args.end.now.card
          (held_in c.args.verb c.new-space.result) c.args.end.now.done c.requires.none stands
          (means_first c.args.verb c.new-space.result c.new-space.ensures.none c.new-space.ensures.player)
          (nothing_done F g.met.F.Flash.only_now c.args.end.now.card first stands);
    })

pub returns-in-Some-clause-ends : goal.returns-in-Some-clause-ends
returns-in-Some-clause-ends g c first stands =
    let F = g.F.Flash in
    let from = c.args.end.now.card.flash in
    let verb = c.args.verb in
    going_ends verb F g.S.Source.tells g.K.Sink.tells first from _
    (standing_in verb c.loop-ending.end c.loop-ending.space c.loop-ending.differs)
    (standing_in verb c.take_turn.new.end c.take_turn.new.space c.take_turn.new.differs)
    _ _ c.loop-ending.lines (c.loop-ending.invariant.going first stands)
    c.loop-ending.invariant.within c.in-Some.ending c.in-Some.ensures.ends (c.in-Some.ensures.flushes ∙ c.loop-ending.invariant.flushes)

pub loop-ending-preserved : goal.loop-ending-preserved
loop-ending-preserved g c =
    let F = g.F.Flash in
    let verb = c.args.verb in
    let on = c.in_default.ensures.goes_on in
    let quiet = c.in_default.ensures.quiet in
    let kept = c.loop-ending.invariant in
    record {
      stop = on.stop;
      within = on.within;
      live = c.in_default.ensures.live;
      reads = quiet.0 ∙ kept.reads;
      writes = quiet.1 ∙ kept.writes;
      later = omega (arith, kept.later, c.in_default.ensures.later);
      flushes = c.in_default.ensures.flushes ∙ kept.flushes;
      going = λ first stands.
          going_further verb F g.S.Source.tells g.K.Sink.tells first c.args.end.now.card.flash _
          (standing_in verb c.loop-ending.end c.loop-ending.space c.loop-ending.differs)
          (standing_in verb c.take_turn.new.end c.take_turn.new.space c.take_turn.new.differs)
          _ _ c.loop-ending.lines (kept.going first stands) _ on;
    }
