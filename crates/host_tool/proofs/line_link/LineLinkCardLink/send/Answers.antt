use Rattle.std.proofs.Common.{sym, ap, subst, ◌∙◌}
use Rattle.host_tool.proofs.Links.{failed_refuses, link_answers, link_refuses}
use Rattle.host_tool.specs.Conveyed.{Conveyed, Unanswered}
use Rattle.host_tool.specs.Link.{Linked, sides_of}
use Rattle.host_tool.proofs.line_link.LineLinkCardLink.send.Goals as goal

pub returns-in-Some-clause-refused : goal.returns-in-Some-clause-refused
returns-in-Some-clause-refused g c start events told =
    subst (λ (l : Linked g.row.S.Denot g.row.K.Denot). Unanswered g.S.Source.tells g.K.Sink.tells (sides_of g.S.Source g.K.Sink start) (sides_of g.S.Source g.K.Sink l) l.why events c.args.command.now)
    (sym c.fail.ensures)
    (failed_refuses g.S.Source.tells g.K.Sink.tells _ _ events c.args.self.now.why told c.in-Some.fault c.args.command.now
    (ap (λ (l : Linked g.row.S.Denot g.row.K.Denot). l.why) (sym c.self.view_is) ∙ c.in-Some.is))

pub returns-in-Ok-clause-conveyed : goal.returns-in-Ok-clause-conveyed
returns-in-Ok-clause-conveyed g c start events told =
    link_answers g.S.Source.tells g.K.Sink.tells _ _ events c.self.inside.why
    (subst (λ (l : Linked g.row.S.Denot g.row.K.Denot). Conveyed g.S.Source.tells g.K.Sink.tells (sides_of g.S.Source g.K.Sink start) (sides_of g.S.Source g.K.Sink l) l.why events)
    (sym c.self.view_is) told)
    _ c.args.command.now c.ask.new.reply.items c.in-None.is (rw c.in-Ok.is at c.ask.ensures)

pub returns-in-Err-clause-refused : goal.returns-in-Err-clause-refused
returns-in-Err-clause-refused g c start events told =
    subst (λ (l : Linked g.row.S.Denot g.row.K.Denot). Unanswered g.S.Source.tells g.K.Sink.tells (sides_of g.S.Source g.K.Sink start) (sides_of g.S.Source g.K.Sink l) l.why events c.args.command.now)
    (sym c.fail-in-Err.ensures)
    (link_refuses g.S.Source.tells g.K.Sink.tells _ _ events c.self.inside.why
    (subst (λ (l : Linked g.row.S.Denot g.row.K.Denot). Conveyed g.S.Source.tells g.K.Sink.tells (sides_of g.S.Source g.K.Sink start) (sides_of g.S.Source g.K.Sink l) l.why events)
    (sym c.self.view_is) told)
    _ c.args.command.now c.ask.new.reply.items c.in-Err.fault c.in-None.is (rw c.in-Err.is at c.ask.ensures))
