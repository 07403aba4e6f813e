use Rattle.std.proofs.Common.{refl, sym, ap, subst, ◌∙◌}
use Rattle.host_tool.proofs.Links.{failed_resets, link_cuts, link_resets}
use Rattle.host_tool.specs.Conveyed.{Conveyed}
use Rattle.host_tool.specs.Link.{Linked, sides_of}
use Rattle.host_tool.proofs.line_link.LineLinkCardLink.reset.Goals as goal

pub returns-in-Some-clause-conveyed : goal.returns-in-Some-clause-conveyed
returns-in-Some-clause-conveyed g c start events told =
    failed_resets g.S.Source.tells g.K.Sink.tells _ _ events c.args.self.now.why told _
    (ap (λ (l : Linked g.row.S.Denot g.row.K.Denot). l.why) (sym c.self.view_is) ∙ c.in-Some.is)

pub returns-in-Ok-clause-conveyed : goal.returns-in-Ok-clause-conveyed
returns-in-Ok-clause-conveyed g c start events told =
    link_resets g.S.Source.tells g.K.Sink.tells _ _ events c.self.inside.why
    (subst (λ (l : Linked g.row.S.Denot g.row.K.Denot). Conveyed g.S.Source.tells g.K.Sink.tells (sides_of g.S.Source g.K.Sink start) (sides_of g.S.Source g.K.Sink l) l.why events)
    (sym c.self.view_is) told)
    _ c.in-None.is c.in-Ok.ensures.ok c.in-Ok.ensures.handed_on refl refl c.in-Ok.ensures.cause.ok

pub returns-in-Err-clause-conveyed : goal.returns-in-Err-clause-conveyed
returns-in-Err-clause-conveyed g c start events told =
    link_cuts g.S.Source.tells g.K.Sink.tells _ _ events c.self.inside.why
    (subst (λ (l : Linked g.row.S.Denot g.row.K.Denot). Conveyed g.S.Source.tells g.K.Sink.tells (sides_of g.S.Source g.K.Sink start) (sides_of g.S.Source g.K.Sink l) l.why events)
    (sym c.self.view_is) told)
    _ c.in-None.is c.in-Err.ensures.err refl c.in-Err.ensures.cause.failed
