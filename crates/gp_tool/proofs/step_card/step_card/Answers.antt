use Rattle.gp_tool.proofs.CardEnds.{come_none}
use Rattle.gp_tool.proofs.StepsOver.{steps_card}
use Rattle.gp_tool.specs.StepsCard.{counting}
use Rattle.gp_tool.proofs.step_card.step_card.Goals as goal

pub returns-clause-played : goal.returns-clause-played
returns-clause-played g c host state said represents stands says =
    let F = g.F.Flash in
    let from = counting c.args.end.now in
    steps_card F _ c.args.end.now c.step.new.link from (counting c.step.new.link) state stands (come_none F g.met.F.Flash.only_now from state stands) (λ inputs came. came)
    host said _ _ c.step.result (c.step.ensures.played host said represents says) c.step.ensures.up (λ down. down)
