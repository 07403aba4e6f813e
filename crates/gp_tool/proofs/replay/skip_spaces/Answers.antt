use Rattle.gp_tool.proofs.Spaces.{none_skipped, tail_skipped}
use Rattle.gp_tool.proofs.replay.skip_spaces.Goals as goal

pub loop-rest-init : goal.loop-rest-init
loop-rest-init c = none_skipped c.args.text.now

pub loop-rest-preserved : goal.loop-rest-preserved
loop-rest-preserved c = tail_skipped c.args.text.now c.loop-rest.rest.now c.loop-rest.invariant (c.begins_with.ensures.0 c.loop-rest-test.true)
