use Rattle.policy_machine.proofs.Places.{places_are_forgotten}
use Rattle.policy_machine.proofs.laws.places_are_forgotten.Goals as goal

pub returns : goal.returns
returns c = places_are_forgotten
