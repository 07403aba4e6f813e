use Rattle.gp_tool.proofs.Kept.{not_true}
use Rattle.gp_tool.proofs.Replayed.{compared_serves, kept_serves}
use Rattle.gp_tool.specs.Standing.{kept_in}
use Rattle.gp_tool.proofs.replay.replay_line.Goals as goal

pub returns-then-begins_with-clause-served : goal.returns-then-begins_with-clause-served
returns-then-begins_with-clause-served g c =
    let sign = c.begins_with.ensures.0 c.if-begins_with.true in
    compared_serves g.F.Flash g.K.Sink.tells c.args.number c.args.line.now g.met.F.Flash.only_now c.args.end.now.card (kept_in c.args.space.now) (kept_in c.compare_line.new.space)
    c.args.end.now.done c.args.differs.now c.compare_line.new.differs sign.0 _ _ sign.1 c.compare_line.result c.compare_line.ensures.compared

pub returns-then-begins_with-clause-cause : goal.returns-then-begins_with-clause-cause
returns-then-begins_with-clause-cause g c = c.compare_line.ensures.cause (g.F.Flash.faults c.args.end.now.card.flash)

pub returns-else-begins_with-clause-served : goal.returns-else-begins_with-clause-served
returns-else-begins_with-clause-served g c =
    kept_serves g.F.Flash g.K.Sink.tells c.args.number c.args.line.now _ _ _ (λ rest begins. not_true _ c.if-begins_with.false (c.begins_with.ensures.1 (rest, begins)))
    c.keep_reply.result (c.keep_reply.ensures.kept c.args.differs.now)

pub returns-else-begins_with-clause-cause : goal.returns-else-begins_with-clause-cause
returns-else-begins_with-clause-cause g c = c.keep_reply.ensures.cause (g.K.Sink.state c.args.sink.now).faults
