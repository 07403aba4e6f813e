use Rattle.std.proofs.Common.{[], ◌∷◌, refl}
use Rattle.policy_machine.specs.Run.{Command, Reset}
use Rattle.policy_machine.specs.State.{powered_on}
use Rattle.gp_tool.proofs.Given.{command_breaks, command_runs, silent_runs, then_line, then_nothing}
use Rattle.gp_tool.specs.Replies.{Replies, reply_line}
use Rattle.gp_tool.specs.Serve.{IsHeld}
use Rattle.gp_tool.proofs.answer.answer_line.Goals as goal

pub returns-in-Nothing-clause-served : goal.returns-in-Nothing-clause-served
returns-in-Nothing-clause-served g c differs place stands =
    let F = g.F.Flash in
    let given = c.in-Nothing.ensures.given in
    then_nothing g.K.Sink.tells _ _
    (silent_runs IsHeld F _ _ place (Replies c.args.explains c.args.line.now) place g.met.F.Flash.only_now stands (rw (given.1) stands) (rw given.1 refl) given.2 refl
    ([], given.0, (refl, refl), refl, refl)) (λ told. refl)

pub returns-in-Reset-clause-served : goal.returns-in-Reset-clause-served
returns-in-Reset-clause-served g c differs place stands =
    let F = g.F.Flash in
    let given = c.in-Reset.ensures.given in
    then_nothing g.K.Sink.tells _ _
    (silent_runs IsHeld F _ _ place (Replies c.args.explains c.args.line.now) (record { memory = tt; state = powered_on place.state.registry }) g.met.F.Flash.only_now stands
    (given.3 place.state stands.0, refl) given.1 given.2 refl (Reset ∷ [], given.0, (refl, refl), refl, refl)) (λ told. refl)

pub returns-in-FlashFailed-clause-served : goal.returns-in-FlashFailed-clause-served
returns-in-FlashFailed-clause-served g c differs = (
  λ told. refl,
  λ place stands.
      (let given = c.in-FlashFailed.ensures.given in
      let failed = given.1 place.state stands.0 in
      command_breaks IsHeld g.F.Flash _ _ place c.args.line.now failed.0 failed.1 failed.2 given.0),
)

pub returns-in-Ok-clause-served : goal.returns-in-Ok-clause-served
returns-in-Ok-clause-served g c differs place stands =
    let given = c.in-Answered.ensures.given in
    let answered = given.1 place.state stands.0 in
    let line = reply_line c.args.explains answered.0 in
    let commands = answered.1 in
    then_line g.K.Sink.tells _ _ line
    (command_runs IsHeld g.F.Flash _ _ place c.args.line.now answered.0 answered.1 (Replies c.args.explains c.args.line.now) (record { memory = tt; state = answered.0.state }) (line ∷ [])
    (answered.2, refl) given.0 refl (Command commands.bytes ∷ [], commands.spelled, (commands.step, (refl, refl)), refl, refl))
    (λ told. rw (← answered.3, ← answered.4, ← c.deref.ensures.0) (c.in-Ok.ensures.ok told))

pub returns-in-Err-clause-served : goal.returns-in-Err-clause-served
returns-in-Err-clause-served g c differs place stands =
    let given = c.in-Answered.ensures.given in
    let answered = given.1 place.state stands.0 in
    let line = reply_line c.args.explains answered.0 in
    let commands = answered.1 in
    let played = command_runs IsHeld g.F.Flash _ _ place c.args.line.now answered.0 answered.1 (Replies c.args.explains c.args.line.now) (record { memory = tt; state = answered.0.state }) (line ∷ [])
    (answered.2, refl) given.0 refl (Command commands.bytes ∷ [], commands.spelled, (commands.step, (refl, refl)), refl, refl) in (
      played.0,
      line,
      played.1,
      λ told. (let part = c.in-Err.ensures.err told in (part.0, rw (← answered.3, ← answered.4, ← c.deref.ensures.0) part.1)),
    )
