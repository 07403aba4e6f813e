use Rattle.script_lines.proofs.WorkloadLines as proof
use Rattle.script_lines.proofs.laws.workload_lines.Goals as goal

pub returns : goal.returns
returns c = proof.workload_lines
