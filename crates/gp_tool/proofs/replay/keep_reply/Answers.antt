use Rattle.std.proofs.Common.{[], ◌∷◌, Some, None, refl, ap}
use Rattle.policy_machine.specs.Run.{Command, Reset}
use Rattle.policy_machine.specs.State.{powered_on}
use Rattle.gp_tool.proofs.Given.{command_breaks, command_runs, silent_runs}
use Rattle.gp_tool.specs.Replay.{KeepsReplies}
use Rattle.gp_tool.specs.Serve.{IsHeld}
use Rattle.gp_tool.proofs.replay.keep_reply.Goals as goal

pub returns-in-Nothing-clause-kept : goal.returns-in-Nothing-clause-kept
returns-in-Nothing-clause-kept g c differs place stands =
    let F = g.F.Flash in
    let given = c.in-Nothing.ensures.given in
    silent_runs IsHeld F _ _ place (KeepsReplies c.args.line.now) place g.met.F.Flash.only_now stands (rw (given.1, given.3, c.in-Nothing.ensures.has_reply) stands) (rw given.1 refl) given.2 refl
    ([], given.0, (refl, refl), refl, refl, refl)

pub returns-in-Reset-clause-kept : goal.returns-in-Reset-clause-kept
returns-in-Reset-clause-kept g c differs place stands =
    let F = g.F.Flash in
    let given = c.in-Reset.ensures.given in
    silent_runs IsHeld F _ _ place (KeepsReplies c.args.line.now) (record { memory = None; state = powered_on place.state.registry }) g.met.F.Flash.only_now stands
    (given.3 place.state stands.0, refl) given.1 given.2 refl (Reset ∷ [], given.0, (refl, refl), refl, refl, refl)

pub returns-in-Answered-clause-kept : goal.returns-in-Answered-clause-kept
returns-in-Answered-clause-kept g c differs place stands =
    let given = c.in-Answered.ensures.given in
    let answered = given.1 place.state stands.0 in
    let commands = answered.1 in
    command_runs IsHeld g.F.Flash _ _ place c.args.line.now answered.0 answered.1 (KeepsReplies c.args.line.now) (record { memory = Some answered.0.reply; state = answered.0.state }) []
    (answered.2, ap (λ reply. Some reply) answered.3) given.0 refl (Command commands.bytes ∷ [], commands.spelled, (commands.step, (refl, refl)), refl, refl, refl)

pub returns-in-FlashFailed-clause-kept : goal.returns-in-FlashFailed-clause-kept
returns-in-FlashFailed-clause-kept g c differs place stands =
    let given = c.in-FlashFailed.ensures.given in
    let failed = given.1 place.state stands.0 in
    command_breaks IsHeld g.F.Flash _ _ place c.args.line.now failed.0 failed.1 failed.2 given.0
