use Rattle.script_tool.proofs.AnswerKinds.{says_some}
use Rattle.cases.proofs.script.player.Player.play.Goals as goal

pub returns-in-Ok : goal.returns-in-Ok
returns-in-Ok g c some =
    says_some c.step.result 1 c.args.line.now c.step.ensures.form c.step.ensures.said (λ is. cc (c.in-Ok.is, is))
