use Rattle.script_tool.proofs.FewCommands as proof
use Rattle.script_tool.proofs.laws.few_commands.Goals as goal

pub returns : goal.returns
returns c = proof.few_commands
