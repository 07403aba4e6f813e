use Rattle.script_lines.proofs.OneLine as proof
use Rattle.script_lines.proofs.laws.one_line.Goals as goal

pub returns : goal.returns
returns c = proof.one_line
