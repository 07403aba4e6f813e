use Rattle.std.proofs.Common.{[], ◌∷◌}
use Rattle.gp_tool.proofs.Counting.{few_more}
use Rattle.gp_tool.proofs.Moments.{left_now, one_of_two}
use Rattle.gp_tool.proofs.give.give_line.Goals as goal

pub returns-in-Ok-clause-given : goal.returns-in-Ok-clause-given
returns-in-Ok-clause-given g c = (
  few_more c.args.done.now _ c.in-Ok.ensures.done,
  λ state stands.
      (let F = g.F.Flash in
      let step = c.in-Ok.ensures.step state stands in
      let answers = step.3 in (
        step.0,
        record {
          bytes = _;
          spelled = rw c.in-Some-Command.field-0-is at c.in-Some-Command.ensures.spelled;
          step = step.1;
          leaves = one_of_two F c.args.card.now.flash c.give_command.new.card.flash state.registry step.0.state.registry step.2;
        },
        answers.0,
        answers.1,
        answers.2,
      )),
)

pub returns-in-Err-clause-given : goal.returns-in-Err-clause-given
returns-in-Err-clause-given g c = (
  c.in-Err.ensures.same,
  λ state stands.
      (let F = g.F.Flash in
      let step = c.in-Err.ensures.step state stands in
      let leaves = one_of_two F c.args.card.now.flash c.give_command.new.card.flash state.registry step.0.state.registry step.2 in (
        step.0,
        record {
          bytes = _;
          spelled = rw c.in-Some-Command.field-0-is at c.in-Some-Command.ensures.spelled;
          step = step.1;
          leaves = leaves;
        },
        left_now F g.met.F.Flash.counts_now c.args.card.now.flash c.give_command.new.card.flash (state.registry ∷ step.0.state.registry ∷ []) leaves,
      )),
)
