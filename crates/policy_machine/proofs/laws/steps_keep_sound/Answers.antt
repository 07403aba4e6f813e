use Rattle.policy_machine.proofs.KeepsSound.{starts_sound, steps_keep_sound}
use Rattle.policy_machine.proofs.laws.steps_keep_sound.Goals as goal

pub returns : goal.returns
returns c = record { start = starts_sound; step = steps_keep_sound }
