use Rattle.std.proofs.Common.{◌≡◌, ◌≤◌, [], length, true}
use Rattle.commit_bench.proofs.commits.Given as goal

abbrev pub invariant-loop-turn : goal.invariant-loop-turn
invariant-loop-turn g l = record {
  live : l.store.live ≡ true;
  settled : l.store.settled ≡ true;
  none : l.store.staged ≡ [];
}

abbrev pub invariant-loop-number : goal.invariant-loop-number
invariant-loop-number g l = record {
  live : l.store.live ≡ true;
  settled : l.store.settled ≡ true;
  staged : length l.store.staged ≤ l.number;
}
