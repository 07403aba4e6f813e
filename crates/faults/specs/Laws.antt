-- The laws of counts, for `counts` to state.
use Rattle.std.specs.Prelude.{◌≡◌, ℕ, ◌-◌, ◌^◌, ◌<◌, ◌≤◌, ◌↔◌}
use Rattle.faults.specs.Faults.{next_count, Rose}

-- a count that stands still has risen at the last value alone
abbrev pub RoseAtRest : Type 0
RoseAtRest = (n : ℕ) → n ≤ 2 ^ 64 - 1 → Rose n n ↔ (n ≡ 2 ^ 64 - 1)

-- below the last value the next count is above
abbrev pub NextIsAbove : Type 0
NextIsAbove = (n : ℕ) → n < 2 ^ 64 - 1 → n < next_count n
