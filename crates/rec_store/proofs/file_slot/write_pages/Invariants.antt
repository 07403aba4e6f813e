use Rattle.std.proofs.Common.{◌≡◌, ◌<◌, ◌+◌, ◌-◌, ◌/◌, ◌%◌, ◌^◌, ℕ, slice_index}
use Rattle.page_journal.proofs.PageKinds.{place_among}
use Rattle.rec_store.proofs.file_slot.write_pages.Given as goal

-- the low eight bits of the first so many
abbrev pub invariant-loop-i : goal.invariant-loop-i
invariant-loop-i l = record {
  low : (k : ℕ) → k < l.i → slice_index l.slot (64 + k) ≡ place_among (slice_index l.pages k) % 256;
  below : (k : ℕ) → k < 64 → slice_index l.slot k ≡ slice_index l.fn.slot k;
}

-- the ninth bits in the first `byte` bytes of the map
abbrev pub invariant-loop-byte : goal.invariant-loop-byte
invariant-loop-byte l = record {
  high : (k : ℕ) → k < l.count → k / 8 < l.byte → slice_index l.slot (192 + k / 8) / 2 ^ (7 - k % 8) % 2 ≡ place_among (slice_index l.pages k) / 256;
  low : (k : ℕ) → k < l.count → slice_index l.slot (64 + k) ≡ place_among (slice_index l.pages k) % 256;
  below : (k : ℕ) → k < 64 → slice_index l.slot k ≡ slice_index l.fn.slot k;
}
