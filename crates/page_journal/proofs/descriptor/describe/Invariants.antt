use Rattle.std.proofs.Common.{◌≡◌, ◌+◌, ◌<◌, ℕ, Some, length, slice_get, get_or}
use Rattle.flash_core.specs.declared.page.Page.{Page}
use Rattle.page_journal.proofs.descriptor.describe.Given as goal

-- the first so many pages are named
abbrev pub invariant-loop-index : goal.invariant-loop-index
invariant-loop-index l = record {
  long : length l.bytes ≡ 256;
  count : get_or l.bytes 0 0 ≡ length l.pool;
  homes : (i : ℕ) (entry : ℕ × Page) → i < l.index → slice_get l.pool i ≡ Some entry → get_or l.bytes (i + 1) 0 ≡ entry.0;
}
