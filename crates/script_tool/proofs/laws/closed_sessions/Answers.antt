use Rattle.script_tool.proofs.Closed.{closed_is_silent, refusals_end}
use Rattle.script_tool.proofs.laws.closed_sessions.Goals as goal

pub returns-clause-ended : goal.returns-clause-ended
returns-clause-ended c = refusals_end

pub returns-clause-silent : goal.returns-clause-silent
returns-clause-silent c = closed_is_silent
