use Rattle.std.proofs.Common.{◌≢◌, ◌+◌, ◌<◌, ℕ, get_or}
use Rattle.page_journal.specs.Pages.{IsStorePage}
use Rattle.page_journal.proofs.descriptor.is_valid.Given as goal

abbrev pub invariant-loop-index : goal.invariant-loop-index
invariant-loop-index l = record {
  homes : (i : ℕ) → i < l.index → IsStorePage (get_or l.bytes (i + 1) 0);
  distinct : (i j : ℕ) → i < j → j < l.index → get_or l.bytes (i + 1) 0 ≢ get_or l.bytes (j + 1) 0;
}
