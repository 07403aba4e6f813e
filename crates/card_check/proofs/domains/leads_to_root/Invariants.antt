use Rattle.card_check.proofs.RootLines.{IsOnWay}
use Rattle.card_check.proofs.domains.leads_to_root.Given as goal

abbrev pub invariant-loop : goal.invariant-loop
invariant-loop l = IsOnWay l.entries l.slot l.at l.counter
