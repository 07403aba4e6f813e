use Rattle.std.proofs.Common.{◌≢◌, ◌+◌, ◌<◌, ℕ, get_or}
use Rattle.page_journal.proofs.descriptor.is_named_before.Given as goal

-- no copy so far has the same home
abbrev pub invariant-loop-earlier : goal.invariant-loop-earlier
invariant-loop-earlier l = (k : ℕ) → k < l.earlier → get_or l.bytes (k + 1) 0 ≢ get_or l.bytes (l.index + 1) 0
