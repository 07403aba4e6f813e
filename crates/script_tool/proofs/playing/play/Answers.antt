use Rattle.script_tool.proofs.FitsBlocks.{said_fits}
use Rattle.script_tool.proofs.playing.play.Goals as goal

pub play_exchange-requires-clause-fits : goal.play_exchange-requires-clause-fits
play_exchange-requires-clause-fits g c = said_fits c.requires.form.0 c.args.said.now c.in-Exchange.exchange c.requires.form.1 c.in-Exchange.is
