use Rattle.card_core.specs.Card.{CardRepresents}
use Rattle.gp_tool.proofs.Flush.{after_flush, after_from, flushed}
use Rattle.gp_tool.specs.Device.{HasFailed, HasRun}
use Rattle.gp_tool.proofs.run.run.Goals as goal

pub returns-clause-flushes : goal.returns-clause-flushes
returns-clause-flushes g c =
    flushed g.K.Sink.tells c.take_lines-ending.result _ _ _
    (after_from g.K.Sink.tells c.take_lines-ending.result _ _ _ _ c.take_lines-ending.ensures.flushes c.flush_at_end.ensures.ending)

pub returns-clause-ends : goal.returns-clause-ends
returns-clause-ends g c first stands =
    let F = g.F.Flash in
    let from = c.args.end.now.card.flash in
    let new = c.take_lines-ending.new.end.card.flash in
    after_flush c.args.verb g.S.Source.tells g.K.Sink.tells
    (λ outcomes last. HasRun F from new first c.take_lines-ending.new.end.done outcomes last × CardRepresents F c.take_lines-ending.new.end.card last)
    (HasFailed F from new first c.take_lines-ending.new.end.done)
    first _ (g.S.Source.state c.take_lines-ending.new.source) (g.K.Sink.state c.take_lines-ending.new.sink) _
    c.flush_at_end.ensures.same
    c.take_lines-ending.result c.flush_at_end.result
    (after_from g.K.Sink.tells c.take_lines-ending.result _ _ _ _ c.take_lines-ending.ensures.flushes c.flush_at_end.ensures.ending)
    c.take_lines-ending.ensures.flushes
    (c.take_lines-ending.ensures.ends first stands)
