use Rattle.std.proofs.Common.{◌∙◌}
use Rattle.host_tool.proofs.Wholly.{whole_text}
use Rattle.host_tool.proofs.command_line.hand_on.Goals as goal

pub returns-clause-err : goal.returns-clause-err
returns-clause-err g c told = whole_text c.flush.result _ _ c.args.line.now (c.flush.ensures.same told ∙ c.in_ok-write_all.ensures.ok told)
