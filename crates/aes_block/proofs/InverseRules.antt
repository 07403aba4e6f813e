-- The words of the inverse key schedule, as the code makes them.
use Rattle.std.proofs.Common.{◌≡◌, ℕ, ◌+◌, ◌*◌, ◌/◌, ◌%◌, ◌^◌, ◌<◌, ◌≤◌, List, [], ◌∷◌, ◌++◌, length, take, map, set, bit_and, bit_or, bit_xor, slice_index, refl, sym, ap, subst, ◌∙◌, arith, inl, inr, ◌≢◌}
use Rattle.std.specs.Int.{w32, rotate_right}
use Rattle.std.proofs.lemmas.Bool.{cases_lt}
use Rattle.std.proofs.lemmas.Nat.{xor_comm, xor_lt, or_comm, or_shifted, shr_below, and_shr, and_mod, and_mask, and_le_r}
use Rattle.std.proofs.lemmas.List.{get_or-set_other, get_or-set_same, take_at}
use Rattle.aes_block.specs.Field.{xtime, times, times_terms}
use Rattle.aes_block.specs.Words.{word_bytes}
use Rattle.aes_block.specs.State.{schedule_of}
use Rattle.aes_block.specs.Cipher.{xor_bytes, row_times, four_words}
use Rattle.aes_block.specs.Inverse.{inv_mix_column, inv_mix_column_at, inv_mix_columns, inv_mix_word, IsInverseSchedule}
use Rattle.aes_block.proofs.Bytes.{same_at}
use Rattle.aes_block.proofs.Xor.{xor_middle}
use Rattle.aes_block.proofs.WordRules.{word_bytes-xor}

-- ---- the bytes of a word, turned

-- the low k bits above the others
rotated : (n : ℕ) → n < 2 ^ 32 → (k j : ℕ) → k + j ≡ 32 → (n * 2 ^ j) % 2 ^ 32 ≡ n % 2 ^ k * 2 ^ j
    → bit_or (n / 2 ^ k) ((n * 2 ^ j) % 2 ^ 32) ≡ n % 2 ^ k * 2 ^ j + n / 2 ^ k
rotated n h k j e low =
    let sum : 32 ≡ j + k = omega arith in
    let fits : n < 2 ^ (j + k) = subst (λ (i : ℕ). n < 2 ^ i) sum h in
    ap (bit_or (n / 2 ^ k)) low ∙ or_comm (n / 2 ^ k) (n % 2 ^ k * 2 ^ j)
    ∙ or_shifted (n % 2 ^ k) j (n / 2 ^ k) (shr_below n j k fits)

-- a word's bytes turned right by one, two and three places
abbrev pub by_one : List ℕ → List ℕ
by_one s = slice_index s 3 ∷ slice_index s 0 ∷ slice_index s 1 ∷ slice_index s 2 ∷ []

abbrev pub by_two : List ℕ → List ℕ
by_two s = slice_index s 2 ∷ slice_index s 3 ∷ slice_index s 0 ∷ slice_index s 1 ∷ []

abbrev pub by_three : List ℕ → List ℕ
by_three s = slice_index s 1 ∷ slice_index s 2 ∷ slice_index s 3 ∷ slice_index s 0 ∷ []

module _ (w : ℕ) (h : w < 2 ^ 32) where
  pub turned_8 : word_bytes (rotate_right w32 w 8) ≡ by_one (word_bytes w)
  unfolding word_bytes
  turned_8 =
      let n : ℕ = w % 2 ^ 8 * 2 ^ 24 + w / 2 ^ 8 in
      let e0 : n / 2 ^ 24 % 256 ≡ w % 256 = omega arith in
      let e1 : n / 2 ^ 16 % 256 ≡ w / 2 ^ 24 % 256 = omega arith in
      let e2 : n / 2 ^ 8 % 256 ≡ w / 2 ^ 16 % 256 = omega arith in
      let e3 : n % 256 ≡ w / 2 ^ 8 % 256 = omega arith in
      ap word_bytes (rotated w h 8 24 refl (omega arith)) ∙ (λ i. e0 i ∷ e1 i ∷ e2 i ∷ e3 i ∷ [])

  pub turned_16 : word_bytes (rotate_right w32 w 16) ≡ by_two (word_bytes w)
  unfolding word_bytes
  turned_16 =
      let n : ℕ = w % 2 ^ 16 * 2 ^ 16 + w / 2 ^ 16 in
      let e0 : n / 2 ^ 24 % 256 ≡ w / 2 ^ 8 % 256 = omega arith in
      let e1 : n / 2 ^ 16 % 256 ≡ w % 256 = omega arith in
      let e2 : n / 2 ^ 8 % 256 ≡ w / 2 ^ 24 % 256 = omega arith in
      let e3 : n % 256 ≡ w / 2 ^ 16 % 256 = omega arith in
      ap word_bytes (rotated w h 16 16 refl (omega arith)) ∙ (λ i. e0 i ∷ e1 i ∷ e2 i ∷ e3 i ∷ [])

  pub turned_24 : word_bytes (rotate_right w32 w 24) ≡ by_three (word_bytes w)
  unfolding word_bytes
  turned_24 =
      let n : ℕ = w % 2 ^ 24 * 2 ^ 8 + w / 2 ^ 24 in
      let e0 : n / 2 ^ 24 % 256 ≡ w / 2 ^ 16 % 256 = omega arith in
      let e1 : n / 2 ^ 16 % 256 ≡ w / 2 ^ 8 % 256 = omega arith in
      let e2 : n / 2 ^ 8 % 256 ≡ w % 256 = omega arith in
      let e3 : n % 256 ≡ w / 2 ^ 24 % 256 = omega arith in
      ap word_bytes (rotated w h 24 8 refl (omega arith)) ∙ (λ i. e0 i ∷ e1 i ∷ e2 i ∷ e3 i ∷ [])

-- ---- the bytes of a word, times x

xtime_halves : (b : ℕ) → b < 256 → bit_xor (2 * (b % 128)) (b / 128 * 0x1b) ≡ xtime b
unfolding xtime
xtime_halves b h = same_at (λ (x : ℕ). bit_xor (2 * (x % 128)) (x / 128 * 0x1b)) xtime refl b h

byte-and : (x y k : ℕ) → bit_and x y / 2 ^ k % 2 ^ 8 ≡ bit_and (x / 2 ^ k % 2 ^ 8) (y / 2 ^ k % 2 ^ 8)
byte-and x y k = ap (λ (n : ℕ). n % 2 ^ 8) (and_shr x y k) ∙ and_mod (x / 2 ^ k) (y / 2 ^ k) 8

module _ (w : ℕ) (h : w < 2 ^ 32) where
  low_at : (k : ℕ) → 0x7f7f7f7f / 2 ^ k % 2 ^ 8 ≡ 0x7f → bit_and w 0x7f7f7f7f / 2 ^ k % 2 ^ 8 ≡ w / 2 ^ k % 2 ^ 8 % 128
  low_at k e = byte-and w 0x7f7f7f7f k ∙ ap (bit_and (w / 2 ^ k % 2 ^ 8)) e ∙ and_mask (w / 2 ^ k % 2 ^ 8) 7

  top_at : (k : ℕ) → 0x01010101 / 2 ^ k % 2 ^ 8 ≡ 1 → bit_and (w / 2 ^ 7) 0x01010101 / 2 ^ k % 2 ^ 8 ≡ w / 2 ^ 7 / 2 ^ k % 2 ^ 8 % 2
  top_at k e = byte-and (w / 2 ^ 7) 0x01010101 k ∙ ap (bit_and (w / 2 ^ 7 / 2 ^ k % 2 ^ 8)) e ∙ and_mask (w / 2 ^ 7 / 2 ^ k % 2 ^ 8) 1

  pub bytes_doubled : word_bytes (bit_xor (bit_and w 0x7f7f7f7f * 2 % 2 ^ 32) (bit_and (w / 2 ^ 7) 0x01010101 * 0x1b)) ≡ map xtime (word_bytes w)
  unfolding word_bytes xor_bytes
  bytes_doubled =
      let y : ℕ = bit_and w 0x7f7f7f7f in
      let c : ℕ = bit_and (w / 2 ^ 7) 0x01010101 in
      let yl : y ≤ 0x7f7f7f7f = and_le_r w 0x7f7f7f7f in
      let cl : c ≤ 0x01010101 = and_le_r (w / 2 ^ 7) 0x01010101 in
      let y3 : y / 2 ^ 24 % 256 ≡ w / 2 ^ 24 % 256 % 128 = low_at 24 refl in
      let y2 : y / 2 ^ 16 % 256 ≡ w / 2 ^ 16 % 256 % 128 = low_at 16 refl in
      let y1 : y / 2 ^ 8 % 256 ≡ w / 2 ^ 8 % 256 % 128 = low_at 8 refl in
      let y0 : y % 256 ≡ w % 256 % 128 = and_mod w 0x7f7f7f7f 8 ∙ and_mask (w % 256) 7 in
      let c3 : c / 2 ^ 24 % 256 ≡ w / 2 ^ 7 / 2 ^ 24 % 256 % 2 = top_at 24 refl in
      let c2 : c / 2 ^ 16 % 256 ≡ w / 2 ^ 7 / 2 ^ 16 % 256 % 2 = top_at 16 refl in
      let c1 : c / 2 ^ 8 % 256 ≡ w / 2 ^ 7 / 2 ^ 8 % 256 % 2 = top_at 8 refl in
      let c0 : c % 256 ≡ w / 2 ^ 7 % 256 % 2 = and_mod (w / 2 ^ 7) 0x01010101 8 ∙ and_mask (w / 2 ^ 7 % 256) 1 in
      let a3 : y * 2 % 2 ^ 32 / 2 ^ 24 % 256 ≡ 2 * (w / 2 ^ 24 % 256 % 128) = omega arith in
      let a2 : y * 2 % 2 ^ 32 / 2 ^ 16 % 256 ≡ 2 * (w / 2 ^ 16 % 256 % 128) = omega arith in
      let a1 : y * 2 % 2 ^ 32 / 2 ^ 8 % 256 ≡ 2 * (w / 2 ^ 8 % 256 % 128) = omega arith in
      let a0 : y * 2 % 2 ^ 32 % 256 ≡ 2 * (w % 256 % 128) = omega arith in
      let b3 : c * 0x1b / 2 ^ 24 % 256 ≡ w / 2 ^ 24 % 256 / 128 * 0x1b = omega arith in
      let b2 : c * 0x1b / 2 ^ 16 % 256 ≡ w / 2 ^ 16 % 256 / 128 * 0x1b = omega arith in
      let b1 : c * 0x1b / 2 ^ 8 % 256 ≡ w / 2 ^ 8 % 256 / 128 * 0x1b = omega arith in
      let b0 : c * 0x1b % 256 ≡ w % 256 / 128 * 0x1b = omega arith in
      word_bytes-xor (y * 2 % 2 ^ 32) (c * 0x1b)
      ∙ (λ i. bit_xor (a3 i) (b3 i) ∷ bit_xor (a2 i) (b2 i) ∷ bit_xor (a1 i) (b1 i) ∷ bit_xor (a0 i) (b0 i) ∷ [])
      ∙ (λ i. xtime_halves (w / 2 ^ 24 % 256) (omega arith) i ∷ xtime_halves (w / 2 ^ 16 % 256) (omega arith) i
      ∷ xtime_halves (w / 2 ^ 8 % 256) (omega arith) i ∷ xtime_halves (w % 256) (omega arith) i ∷ [])

-- ---- a word under InvMixColumns, of its bytes times x, x squared and x cubed

times_fourteen : (b : ℕ) → b < 256 → bit_xor (bit_xor (xtime (xtime (xtime b))) (xtime (xtime b))) (xtime b) ≡ times 0x0e b
unfolding times times_terms xtime
times_fourteen b h = same_at (λ (x : ℕ). bit_xor (bit_xor (xtime (xtime (xtime x))) (xtime (xtime x))) (xtime x)) (times 0x0e) refl b h

times_eleven : (b : ℕ) → b < 256 → bit_xor (bit_xor (xtime (xtime (xtime b))) b) (xtime b) ≡ times 0x0b b
unfolding times times_terms xtime
times_eleven b h = same_at (λ (x : ℕ). bit_xor (bit_xor (xtime (xtime (xtime x))) x) (xtime x)) (times 0x0b) refl b h

times_thirteen : (b : ℕ) → b < 256 → bit_xor (bit_xor (xtime (xtime (xtime b))) b) (xtime (xtime b)) ≡ times 0x0d b
unfolding times times_terms xtime
times_thirteen b h = same_at (λ (x : ℕ). bit_xor (bit_xor (xtime (xtime (xtime x))) x) (xtime (xtime x))) (times 0x0d) refl b h

times_nine : (b : ℕ) → b < 256 → bit_xor (xtime (xtime (xtime b))) b ≡ times 0x09 b
unfolding times times_terms xtime
times_nine b h = same_at (λ (x : ℕ). bit_xor (xtime (xtime (xtime x))) x) (times 0x09) refl b h

-- the sum of four, turned by one place
four_turned : (p q r s : ℕ) → bit_xor (bit_xor p q) (bit_xor r s) ≡ bit_xor (bit_xor s p) (bit_xor q r)
four_turned p q r s =
    ap (bit_xor (bit_xor p q)) (xor_comm r s) ∙ xor_middle p q s r ∙ ap (λ (x : ℕ). bit_xor x (bit_xor q r)) (xor_comm p s)

-- the bytes of a word, each under f
abbrev each : (ℕ → ℕ) → ℕ → List ℕ
each f w = f (w / 2 ^ 24 % 256) ∷ f (w / 2 ^ 16 % 256) ∷ f (w / 2 ^ 8 % 256) ∷ f (w % 256) ∷ []

each_same : (f g : ℕ → ℕ) (w : ℕ) → ((b : ℕ) → b < 256 → f b ≡ g b) → each f w ≡ each g w
each_same f g w h =
    (λ i. h (w / 2 ^ 24 % 256) (omega arith) i ∷ h (w / 2 ^ 16 % 256) (omega arith) i ∷ h (w / 2 ^ 8 % 256) (omega arith) i ∷ h (w % 256) (omega arith) i ∷ [])

module _ (w two four eight : ℕ) (hw : w < 2 ^ 32) (h2 : two < 2 ^ 32) (h4 : four < 2 ^ 32) (h8 : eight < 2 ^ 32)
    (e2 : word_bytes two ≡ map xtime (word_bytes w)) (e4 : word_bytes four ≡ map xtime (word_bytes two)) (e8 : word_bytes eight ≡ map xtime (word_bytes four)) where
  b2 : word_bytes two ≡ each xtime w
  unfolding word_bytes
  b2 = e2

  b4 : word_bytes four ≡ each (λ (b : ℕ). xtime (xtime b)) w
  b4 = e4 ∙ ap (map xtime) b2

  b8 : word_bytes eight ≡ each (λ (b : ℕ). xtime (xtime (xtime b))) w
  b8 = e8 ∙ ap (map xtime) b4

  b9 : word_bytes (bit_xor eight w) ≡ each (λ (b : ℕ). bit_xor (xtime (xtime (xtime b))) b) w
  unfolding xor_bytes word_bytes
  b9 = word_bytes-xor eight w ∙ (λ i. xor_bytes (b8 i) (word_bytes w))

  nine : word_bytes (bit_xor eight w) ≡ each (times 0x09) w
  nine = b9 ∙ each_same _ (times 0x09) w times_nine

  eleven : word_bytes (bit_xor (bit_xor eight w) two) ≡ each (times 0x0b) w
  unfolding xor_bytes
  eleven = word_bytes-xor (bit_xor eight w) two ∙ (λ i. xor_bytes (b9 i) (b2 i)) ∙ each_same _ (times 0x0b) w times_eleven

  thirteen : word_bytes (bit_xor (bit_xor eight w) four) ≡ each (times 0x0d) w
  unfolding xor_bytes
  thirteen = word_bytes-xor (bit_xor eight w) four ∙ (λ i. xor_bytes (b9 i) (b4 i)) ∙ each_same _ (times 0x0d) w times_thirteen

  fourteen : word_bytes (bit_xor (bit_xor eight four) two) ≡ each (times 0x0e) w
  unfolding xor_bytes
  fourteen =
      word_bytes-xor (bit_xor eight four) two
      ∙ (λ i. xor_bytes ((word_bytes-xor eight four ∙ (λ j. xor_bytes (b8 j) (b4 j))) i) (b2 i)) ∙ each_same _ (times 0x0e) w times_fourteen

  pub word_unmixed : (t u v : ℕ) → t ≡ rotate_right w32 (bit_xor (bit_xor eight w) two) 24
      → u ≡ rotate_right w32 (bit_xor (bit_xor eight w) four) 16 → v ≡ rotate_right w32 (bit_xor eight w) 8
      → word_bytes (bit_xor (bit_xor (bit_xor (bit_xor eight four) two) t) (bit_xor u v)) ≡ inv_mix_word w
  unfolding xor_bytes inv_mix_word inv_mix_column row_times
  word_unmixed t u v et eu ev =
      let h9 : bit_xor eight w < 2 ^ 32 = xor_lt 32 eight w h8 hw in
      let bt : word_bytes t ≡ by_three (each (times 0x0b) w) = ap word_bytes et ∙ turned_24 _ (xor_lt 32 _ two h9 h2) ∙ ap by_three eleven in
      let bu : word_bytes u ≡ by_two (each (times 0x0d) w) = ap word_bytes eu ∙ turned_16 _ (xor_lt 32 _ four h9 h4) ∙ ap by_two thirteen in
      let bv : word_bytes v ≡ by_one (each (times 0x09) w) = ap word_bytes ev ∙ turned_8 _ h9 ∙ ap by_one nine in
      let upper = word_bytes-xor (bit_xor (bit_xor eight four) two) t ∙ (λ i. xor_bytes (fourteen i) (bt i)) in
      let lower = word_bytes-xor u v ∙ (λ i. xor_bytes (bu i) (bv i)) in
      let a = w / 2 ^ 24 % 256 in
      let b = w / 2 ^ 16 % 256 in
      let c = w / 2 ^ 8 % 256 in
      let d = w % 256 in
      word_bytes-xor (bit_xor (bit_xor (bit_xor eight four) two) t) (bit_xor u v) ∙ (λ i. xor_bytes (upper i) (lower i))
      ∙ (λ i. row_times 0x0e 0x0b 0x0d 0x09 a b c d
      ∷ four_turned (times 0x0e b) (times 0x0b c) (times 0x0d d) (times 0x09 a) i
      ∷ xor_comm (bit_xor (times 0x0e c) (times 0x0b d)) (bit_xor (times 0x0d a) (times 0x09 b)) i
      ∷ (four_turned (times 0x0e d) (times 0x0b a) (times 0x0d b) (times 0x09 c) ∙ xor_comm (bit_xor (times 0x09 c) (times 0x0e d)) (bit_xor (times 0x0b a) (times 0x0d b))) i ∷ [])

-- ---- the schedule

-- the words that the loop has come to are unmixed, and the others are those of the schedule
pub record InvertedUpTo (w v : List ℕ) (i : ℕ) : Type 0 where
  pub done : (k : ℕ) → 4 ≤ k → k < i → word_bytes (slice_index v k) ≡ inv_mix_word (slice_index w k)
  pub first : (k : ℕ) → k < 4 → slice_index v k ≡ slice_index w k
  pub rest : (k : ℕ) → i ≤ k → slice_index v k ≡ slice_index w k

pub inverted_none : (w v : List ℕ) → v ≡ w → InvertedUpTo w v 4
inverted_none w v e = record {
  done = λ k low high. absurd (omega arith);
  first = λ k h. ap (λ (l : List ℕ). slice_index l k) e;
  rest = λ k h. ap (λ (l : List ℕ). slice_index l k) e;
}

pub inverted_more : (w v : List ℕ) (i x : ℕ) → InvertedUpTo w v i → 4 ≤ i → i < length v → word_bytes x ≡ inv_mix_word (slice_index w i) → InvertedUpTo w (set v i x) (i + 1)
inverted_more w v i x so_far low lt ex = record {
  done = λ k kl kh. elim (cases_lt k i) [
    | inl below ↦ let ne : k ≢ i = omega arith in ap word_bytes (get_or-set_other v i k x 0 ne) ∙ so_far.done k kl below
    | inr ge ↦ let e : k ≡ i = omega arith in rw e (ap word_bytes (get_or-set_same v i x 0 lt) ∙ ex)
  ];
  first = λ k h. let ne : k ≢ i = omega arith in get_or-set_other v i k x 0 ne ∙ so_far.first k h;
  rest = λ k h. let ne : k ≢ i = omega arith in get_or-set_other v i k x 0 ne ∙ so_far.rest k (omega arith);
}

pub inverted_all : (w v : List ℕ) (n i : ℕ) → i ≡ 4 * n → InvertedUpTo w v i → IsInverseSchedule w v n
unfolding four_words inv_mix_columns inv_mix_column_at inv_mix_word word_bytes
inverted_all w v n i ei s =
    let first = λ (k : ℕ) (h : k < 4). ap word_bytes (s.first k h) in
    let last = λ (k : ℕ). ap word_bytes (s.rest (4 * n + k) (omega arith)) in
    let at = λ (r k : ℕ) (h : r < n) (l : 0 < r) (m : k < 4). s.done (4 * r + k) (omega arith) (omega arith) in
    record {
      first = (λ t. first 0 (omega arith) t ++ first 1 (omega arith) t ++ first 2 (omega arith) t ++ first 3 (omega arith) t);
      last = (λ t. ap word_bytes (s.rest (4 * n) (omega arith)) t ++ last 1 t ++ last 2 t ++ last 3 t);
      middle = λ r low high.
          (λ t. s.done (4 * r) (omega arith) (omega arith) t ++ at r 1 high low (omega arith) t ++ at r 2 high low (omega arith) t ++ at r 3 high low (omega arith) t);
    }

-- schedules that are the fronts of longer arrays are inverted too
pub schedule_inverted : (n r : ℕ) (w v z : List ℕ) → r ≡ n / 4 + 6 → length v ≡ 4 * r + 4 → IsInverseSchedule (take (4 * r + 4) w) v r
    → IsInverseSchedule (schedule_of n w) (schedule_of n (v ++ z)) (n / 4 + 6)
schedule_inverted n r w v z er len h =
    let front : schedule_of n (v ++ z) ≡ v = take_at v z (4 * (n / 4 + 6) + 4) (omega arith) in
    subst (λ (s : List ℕ). IsInverseSchedule (schedule_of n w) s (n / 4 + 6)) (sym front)
    (subst (λ (k : ℕ). IsInverseSchedule (take (4 * k + 4) w) v k) er h)
