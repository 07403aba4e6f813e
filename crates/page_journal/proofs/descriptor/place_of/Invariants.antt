use Rattle.std.proofs.Common.{◌≢◌, ◌+◌, ◌<◌, ℕ, get_or}
use Rattle.page_journal.proofs.descriptor.place_of.Given as goal

-- no copy so far is named for the page
abbrev pub invariant-loop-index : goal.invariant-loop-index
invariant-loop-index l = (k : ℕ) → k < l.index → get_or l.descriptor.bytes (k + 1) 0 ≢ l.page
