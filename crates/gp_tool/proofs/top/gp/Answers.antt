use Rattle.std.proofs.Common.{sym, subst}
use Rattle.gp_tool.proofs.OneTask.{few_rounds, one_task}
use Rattle.gp_tool.specs.Around.{around}
use Rattle.gp_tool.specs.Tasks.{LacksMemory, NeedsCard, TaskCompletes, TaskEnds}
use Rattle.gp_tool.specs.Words.{AreOf}
use Rattle.gp_tool.specs.declared.task.Task.{Task}
use Rattle.gp_tool.proofs.top.gp.Goals as goal

-- words without a form are no task's
pub returns-in-None-clause-ends : goal.returns-in-None-clause-ends
returns-in-None-clause-ends g c task are = absurd (c.in-None.ensures (task, are))

pub returns-in-None-clause-memory : goal.returns-in-None-clause-memory
returns-in-None-clause-memory g c task are = absurd (c.in-None.ensures (task, are))

pub returns-in-None-clause-no_card : goal.returns-in-None-clause-no_card
returns-in-None-clause-no_card g c task are = absurd (c.in-None.ensures (task, are))

pub returns-in-None-clause-complete : goal.returns-in-None-clause-complete
returns-in-None-clause-complete g c task are = absurd (c.in-None.ensures (task, are))

-- nor the other way round
pub returns-in-Some-clause-usage : goal.returns-in-Some-clause-usage
returns-in-Some-clause-usage g c none = absurd (none (c.in-Some.task, c.in-Some.ensures))

-- the words are of one task
pub do_task-requires : goal.do_task-requires
do_task-requires g c = record { few = λ work is. few_rounds c.args.words.now work (subst (λ (t : Task). AreOf t c.args.words.now) is c.in-Some.ensures) }

pub returns-in-Some-clause-ends : goal.returns-in-Some-clause-ends
returns-in-Some-clause-ends g c task are =
    subst
    (λ (t : Task).
    TaskEnds g.S.Source g.K.Sink g.F.Flash t c.do_task.result.status c.do_task.result.done (around c.args.source.now c.args.sink.now c.args.flash)
    (around c.do_task.new.source c.do_task.new.sink c.do_task.result.flash))
    (one_task c.args.words.now c.in-Some.task task c.in-Some.ensures are) c.do_task.ensures.ends

pub returns-in-Some-clause-memory : goal.returns-in-Some-clause-memory
returns-in-Some-clause-memory g c task are none =
    subst
    (λ (t : Task).
    LacksMemory g.S.Source g.K.Sink g.F.Flash t c.do_task.result.done (around c.args.source.now c.args.sink.now c.args.flash)
    (around c.do_task.new.source c.do_task.new.sink c.do_task.result.flash))
    (one_task c.args.words.now c.in-Some.task task c.in-Some.ensures are) (c.do_task.ensures.memory none)

pub returns-in-Some-clause-no_card : goal.returns-in-Some-clause-no_card
returns-in-Some-clause-no_card g c task are needs =
    c.do_task.ensures.no_card (subst (λ (t : Task). NeedsCard t) (sym (one_task c.args.words.now c.in-Some.task task c.in-Some.ensures are)) needs)

pub returns-in-Some-clause-complete : goal.returns-in-Some-clause-complete
returns-in-Some-clause-complete g c task are =
    subst
    (λ (t : Task).
    TaskCompletes g.S.Source g.K.Sink g.F.Flash t c.do_task.result.status (around c.args.source.now c.args.sink.now c.args.flash)
    (around c.do_task.new.source c.do_task.new.sink c.do_task.result.flash))
    (one_task c.args.words.now c.in-Some.task task c.in-Some.ensures are) c.do_task.ensures.complete
