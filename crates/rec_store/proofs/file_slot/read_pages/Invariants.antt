use Rattle.std.proofs.Common.{◌≡◌, ◌<◌, ℕ, length, slice_index}
use Rattle.rec_store.specs.FileSlot.{page_in}
use Rattle.rec_store.proofs.file_slot.read_pages.Given as goal

abbrev pub invariant-loop-i : goal.invariant-loop-i
invariant-loop-i l = (length l.pages ≡ 128) × ((k : ℕ) → k < l.i → slice_index l.pages k ≡ page_in l.slot k)
