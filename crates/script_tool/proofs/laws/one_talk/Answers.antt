use Rattle.script_tool.proofs.OneTalk.{one_talk}
use Rattle.script_tool.proofs.laws.one_talk.Goals as goal

pub returns : goal.returns
returns c = one_talk
