use Rattle.std.proofs.Common.{refl}
use Rattle.gp_tool.proofs.CardEnds.{come_answered, come_stopped, has_come}
use Rattle.gp_tool.proofs.Counting.{few_more}
use Rattle.gp_tool.proofs.card_end.CardEndCardLink.send.Goals as goal

pub returns-in-Ok-clause-answered : goal.returns-in-Ok-clause-answered
returns-in-Ok-clause-answered g c state stands =
    let step = c.in-Ok.ensures.step state stands in
    let answers = step.3 in
    (step.0.state, (step.0, step.1, answers.1, refl), answers.0)

pub returns-in-Ok-clause-sent : goal.returns-in-Ok-clause-sent
returns-in-Ok-clause-sent g c start first inputs came =
    let F = g.F.Flash in
    let come = has_come F _ (record { card = c.args.self.now.card; done = c.args.self.now.done }) first inputs c.args.self.now.card.live c.requires.up came in
    let step = c.in-Ok.ensures.step come.last come.stands in
    let answers = step.3 in
    come_answered F _ _ (record { card = c.give_command.new.card; done = _ }) first inputs come c.args.command.now step.0 step.1 step.2 answers.0 (few_more c.args.self.now.done _ c.in-Ok.ensures.done) c.in-Ok.ensures.ok

pub returns-in-Err-clause-sent : goal.returns-in-Err-clause-sent
returns-in-Err-clause-sent g c start first inputs came =
    let F = g.F.Flash in
    let come = has_come F _ (record { card = c.args.self.now.card; done = c.args.self.now.done }) first inputs c.args.self.now.card.live c.requires.up came in
    let step = c.in-Err.ensures.step come.last come.stands in
    let failed = c.in-Err.ensures.failed in
    come_stopped F _ _ (record { card = c.give_command.new.card; done = _ }) first inputs come c.args.command.now step.0 step.1 step.2 g.met.F.Flash.counts_now c.in-Err.ensures.same failed.1
