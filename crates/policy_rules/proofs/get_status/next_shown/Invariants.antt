use Rattle.std.proofs.Common.{◌≡◌, ℕ, List, Some}
use Rattle.std.specs.Prelude.{IfSome, option_copied}
use Rattle.policy_rules.specs.Prelude.{ActsIn, Admitted, IsListedAt, aid_of}
use Rattle.policy_rules.proofs.GetStatusListed.{IsLeastBefore}
use Rattle.policy_rules.proofs.get_status.next_shown.Given as goal

abbrev pub invariant-loop-slot : goal.invariant-loop-slot
invariant-loop-slot l =
    IfSome l.least (λ named. aid_of l.tables named.0 ≡ Some named.1)
    × ((page : ℕ → List ℕ) (admitted : Admitted) → ActsIn page l.tables l.domain admitted
    → IsLeastBefore (IsListedAt page l.tables admitted l.kind l.partial (option_copied l.after)) l.kind l.slot l.least)
