-- Effects are the same whose parts are.
use Rattle.std.proofs.Common.{◌≡◌}
use Rattle.policy_machine.specs.State.{Effect, State}

pub effect_same : (a b : Effect) → a.state ≡ b.state → a.body ≡ b.body → a.status ≡ b.status → a ≡ b
effect_same a b state body status = (λ i. record { state = state i; body = body i; status = status i })

pub state_same : (a b : State) → a.registry ≡ b.registry → a.volatile ≡ b.volatile → a ≡ b
state_same a b registry volatile = (λ i. record { registry = registry i; volatile = volatile i })
