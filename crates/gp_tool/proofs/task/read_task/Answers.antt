use Rattle.gp_tool.proofs.WorkloadWords.{no_form}
use Rattle.gp_tool.proofs.task.read_task.Goals as goal

pub returns-in_err-read_workload-in-len3 : goal.returns-in_err-read_workload-in-len3
returns-in_err-read_workload-in-len3 c =
    rw c.from_residual.ensures
    (no_form c.args.words.now c.seed-item.result c.rounds-item.result c.in-len3.len_at_least c.in-len3.len_below c.seed-item.is c.rounds-item.is
    c.in_err-read_workload-in-len3.ensures)
