-- What stands in a slot stays where only bytes after it are written.
use Rattle.std.proofs.Common.{◌≡◌, ℕ, ◌+◌, ◌<◌, ◌≤◌, Bool, true, false, if◌then◌else◌, List, length, get_or, sym, ◌∙◌, arith}
use Rattle.std.proofs.lemmas.Grind.{same_number_lists, common_steps}
use Rattle.std.specs.Prelude.{slice_range}
use Rattle.rec_store.specs.Bytes.{HasBytesAt}

-- a range is what its bytes are
pub range_kept : (old new : List ℕ) (from to upto : ℕ) → length new ≡ length old → to ≤ upto → ((i : ℕ) → i < upto → get_or new i 0 ≡ get_or old i 0) → slice_range new from to ≡ slice_range old from to
range_kept old new from to upto same within kept =
    same_number_lists (slice_range new from to) (slice_range old from to) (grind (arith, common_steps)) (λ k lt. grind (arith, common_steps, kept (from + k)))

pub bytes_kept : (old new : List ℕ) (at upto : ℕ) (bytes : List ℕ) → length new ≡ length old → at + 1 + length bytes ≤ upto → ((i : ℕ) → i < upto → get_or new i 0 ≡ get_or old i 0) → HasBytesAt old at bytes → HasBytesAt new at bytes
bytes_kept old new at upto bytes same within kept was = record {
  count = kept at (omega arith) ∙ was.count;
  after = range_kept old new (at + 1) (at + 1 + length bytes) upto same within kept ∙ was.after;
}

-- a number that is at most 0 where it does not count
pub counted : (counts : Bool) (number written limit : ℕ) → written ≡ number → number ≤ (if counts then limit else 0) → number ≡ (if counts then written else 0)
counted true number written limit is most = sym is
counted false number written limit is most = omega (arith, most)
