-- What is said of the load session of a channel holds of the one that is there.
use Rattle.std.proofs.Common.{sym, subst, ◌∙◌}
use Rattle.policy_machine.specs.Prelude.{Admitted, InLoad, IsLoadOn, LoadSession}
use Rattle.policy_machine.proofs.Lawful.{some_same}

-- it holds of the load session of the channel
pub of_load : (admitted : Admitted) (holds : LoadSession → Type 0) (load : LoadSession) → IsLoadOn admitted load → InLoad admitted holds → holds load
of_load admitted holds load on there = subst holds (some_same there.0 load (sym there.1.0 ∙ on.0)) there.2
