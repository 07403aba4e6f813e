use Rattle.gp_tool.proofs.OneMill.{one_mill}
use Rattle.gp_tool.proofs.laws.one_mill.Goals as goal

pub returns : goal.returns
returns g c = one_mill g.K.Sink g.F.Flash
