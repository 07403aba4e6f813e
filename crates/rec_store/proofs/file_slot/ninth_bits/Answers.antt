use Rattle.std.proofs.Common.{◌≡◌, ◌+◌, ◌*◌, ◌/◌, ◌%◌, ◌<◌, ℕ, length, slice_index, sym, subst, arith}
use Rattle.rec_store.proofs.Bits.{bit_of_eight}
use Rattle.page_journal.proofs.PageKinds.{IsOnDevice, place_among}
use Rattle.rec_store.proofs.file_slot.ninth_bits.Goals as goal

pub returns : goal.returns
returns c i lt is small =
    let pages = c.args.pages.now in
    let at : (n bit : ℕ) → i ≡ n → (n < length pages → IsOnDevice (slice_index pages n) → bit ≡ place_among (slice_index pages n) / 256) → bit ≡ place_among (slice_index pages i) / 256 =
    λ n bit same of. subst (λ (k : ℕ). k < length pages → IsOnDevice (slice_index pages k) → bit ≡ place_among (slice_index pages k) / 256) (sym same) of lt small in
    bit_of_eight c.ninth.result c.ninth-2.result c.ninth-3.result c.ninth-4.result c.ninth-5.result c.ninth-6.result c.ninth-7.result c.ninth-8.result
    c.ninth.ensures.bit c.ninth-2.ensures.bit c.ninth-3.ensures.bit c.ninth-4.ensures.bit c.ninth-5.ensures.bit c.ninth-6.ensures.bit c.ninth-7.ensures.bit c.ninth-8.ensures.bit
    (i % 8) (place_among (slice_index pages i) / 256) (omega arith)
    (λ e. at (8 * c.args.byte) c.ninth.result (omega (arith, e, is)) c.ninth.ensures.of)
    (λ e. at (8 * c.args.byte + 1) c.ninth-2.result (omega (arith, e, is)) c.ninth-2.ensures.of)
    (λ e. at (8 * c.args.byte + 2) c.ninth-3.result (omega (arith, e, is)) c.ninth-3.ensures.of)
    (λ e. at (8 * c.args.byte + 3) c.ninth-4.result (omega (arith, e, is)) c.ninth-4.ensures.of)
    (λ e. at (8 * c.args.byte + 4) c.ninth-5.result (omega (arith, e, is)) c.ninth-5.ensures.of)
    (λ e. at (8 * c.args.byte + 5) c.ninth-6.result (omega (arith, e, is)) c.ninth-6.ensures.of)
    (λ e. at (8 * c.args.byte + 6) c.ninth-7.result (omega (arith, e, is)) c.ninth-7.ensures.of)
    (λ e. at (8 * c.args.byte + 7) c.ninth-8.result (omega (arith, e, is)) c.ninth-8.ensures.of)
