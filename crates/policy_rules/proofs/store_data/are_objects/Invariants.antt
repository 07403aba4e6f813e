use Rattle.std.proofs.Common.{◌↔◌, length}
use Rattle.policy_machine.specs.DataObjects.{AreObjects}
use Rattle.policy_rules.proofs.store_data.are_objects.Given as goal

abbrev pub invariant-loop-rest : goal.invariant-loop-rest
invariant-loop-rest l = AreObjects l.rest ↔ AreObjects l.bytes

abbrev pub decreases-loop-rest : goal.decreases-loop-rest
decreases-loop-rest l = length l.rest
