use Rattle.std.proofs.Common.{refl}
use Rattle.gp_tool.proofs.CardEnds.{come_reset, has_come}
use Rattle.gp_tool.proofs.card_end.CardEndCardLink.reset.Goals as goal

pub returns-clause-sent : goal.returns-clause-sent
returns-clause-sent g c start first inputs came =
    let F = g.F.Flash in
    let come = has_come F _ (record { card = c.args.self.now.card; done = c.args.self.now.done }) first inputs c.args.self.now.card.live c.requires.up came in
    let same = c.reset.ensures.same in
    come_reset F _ _ (record { card = c.reset.new.self; done = c.args.self.now.done }) first inputs come (c.reset.ensures.stands come.last come.stands) same.0 refl same.2
