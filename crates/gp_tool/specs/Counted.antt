-- For the code inside. How commands are counted.
use Rattle.std.specs.Prelude.{◌≡◌, ℕ, ◌+◌, ◌-◌, ◌^◌, min}

-- A count ends at the greatest number that it can hold. No run comes so far.
abbrev pub bounded_count : ℕ → ℕ
bounded_count n = min n (2 ^ 32 - 1)

-- it counts so many more
abbrev pub CountsOn : ℕ → ℕ → ℕ → Type 0
CountsOn count count' more = (n : ℕ) → count ≡ bounded_count n → count' ≡ bounded_count (n + more)
