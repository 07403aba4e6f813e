use Rattle.std.proofs.Common.{◌≡◌, [], refl, ap, ◌∙◌, Ok}
use Rattle.std.proofs.lemmas.List.{append-nil}
use Rattle.io_edge.proofs.Cuts.{lines_if_ok}
use Rattle.io_edge.proofs.Long.{too_long}
use Rattle.io_edge.proofs.lines.advance.Goals as goal

pub returns-in-Ok-Newline-clause-stop : goal.returns-in-Ok-Newline-clause-stop
returns-in-Ok-Newline-clause-stop g c told =
    rw (← c.look_ahead.ensures.bytes told) (c.cut_whole.ensures.stop (g.S.Source.state c.look_ahead.new.source).left)

pub returns-in-Ok-Limit-clause-stop : goal.returns-in-Ok-Limit-clause-stop
returns-in-Ok-Limit-clause-stop g c told =
    rw (← c.look_ahead.ensures.bytes told, ← c.held.ensures.held) (c.stop_at_limit.ensures.stop (g.S.Source.state c.look_ahead.new.source).left)

pub returns-in-Ok-Long-clause-stop : goal.returns-in-Ok-Long-clause-stop
returns-in-Ok-Long-clause-stop g c told =
    let found = rw c.in-Ok-Long.field-0-is at c.in-Ok-Long.ensures.found in
    rw (← c.look_ahead.ensures.bytes told)
    (refl, too_long c.args.room c.look_ahead.new.buffer.held (g.S.Source.state c.look_ahead.new.source).left found.0 found.1 c.look_ahead.ensures.within)

pub returns-in-Ok-Newline-clause-lines : goal.returns-in-Ok-Newline-clause-lines
returns-in-Ok-Newline-clause-lines g c told =
    rw (← c.look_ahead.ensures.bytes told)
    (lines_if_ok c.cut_whole.result c.args.room _ _ _ (c.cut_whole.ensures.line (g.S.Source.state c.look_ahead.new.source).left))

pub returns-in-Ok-Last-clause-lines : goal.returns-in-Ok-Last-clause-lines
returns-in-Ok-Last-clause-lines g c told =
    let none : (g.S.Source.state c.look_ahead.new.source).left ≡ []
    = c.look_ahead.ensures.last told (c.in-Ok-Last.is ∙ ap Ok c.in-Ok-Last.field-0-is) in
    rw (← c.look_ahead.ensures.bytes told, none, append-nil c.look_ahead.new.buffer.held, append-nil c.cut_last.new.buffer.held)
    (lines_if_ok c.cut_last.result c.args.room _ _ _ c.cut_last.ensures.line)
