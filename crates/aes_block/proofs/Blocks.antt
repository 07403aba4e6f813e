-- Lists of bytes, and blocks of sixteen, under the steps of a round.
use Rattle.std.proofs.Common.{◌≡◌, ℕ, zero, suc, ◌+◌, ◌*◌, ◌/◌, ◌-◌, ◌%◌, ◌<◌, ◌≤◌, List, [], ◌∷◌, ◌++◌, map, length, slice_index, refl, sym, ap, ◌∙◌, arith, inl, inr}
use Rattle.std.specs.List.{range_with_len}
use Rattle.std.proofs.lemmas.Bool.{cases_lt}
use Rattle.std.proofs.lemmas.List.{length-map, get_or_past}
use Rattle.std.proofs.lemmas.List.FromFn.{fill_by_all, get_or-map-range_with_len}
use Rattle.std.proofs.lemmas.Nat.{xor_lt}
use Rattle.aes_block.specs.Sbox.{sbox}
use Rattle.aes_block.specs.Words.{word_bytes}
use Rattle.aes_block.specs.Cipher.{IsBlock, xor_bytes, sub_bytes, shift_rows, row_times, mix_column, mix_column_at, mix_columns, four_words}
use Rattle.aes_block.specs.Inverse.{inv_sbox, inv_sub_bytes, inv_shift_rows, inv_mix_column, inv_mix_column_at, inv_mix_columns}
use Rattle.aes_block.proofs.Xor.{xor_twice}
use Rattle.aes_block.proofs.Bytes.{sbox-lt, times-lt}
use Rattle.aes_block.proofs.TableRules.{inv_sbox-lt, sbox-inv_sbox, inv_sbox-sbox}
use Rattle.aes_block.proofs.MixRules.{unmixed, mixed_back}

-- each number of the list is a byte
pub record AllBytes (s : List ℕ) : Type 0 where
  pub at : (i : ℕ) → slice_index s i < 256

pub AllBytes-nil : AllBytes []
AllBytes-nil = record { at = λ i. omega arith }

at-cons : (x : ℕ) (s : List ℕ) → x < 256 → AllBytes s → (i : ℕ) → slice_index (x ∷ s) i < 256
at-cons x s h r zero = h
at-cons x s h r (suc i) = r.at i

pub AllBytes-cons : {x : ℕ} {s : List ℕ} → x < 256 → AllBytes s → AllBytes (x ∷ s)
AllBytes-cons {x} {s} h r = record { at = at-cons x s h r }

pub AllBytes-tail : {x : ℕ} {s : List ℕ} → AllBytes (x ∷ s) → AllBytes s
AllBytes-tail r = record { at = λ i. r.at (suc i) }

pub AllBytes-head : {x : ℕ} {s : List ℕ} → AllBytes (x ∷ s) → x < 256
AllBytes-head r = r.at 0

pub AllBytes-append : (s t : List ℕ) → AllBytes s → AllBytes t → AllBytes (s ++ t)
AllBytes-append [] t p q = q
AllBytes-append (x ∷ s) t p q = AllBytes-cons (AllBytes-head p) (AllBytes-append s t (AllBytes-tail p) q)

pub AllBytes-block : {b : List ℕ} → IsBlock b → AllBytes b
AllBytes-block h = record { at = λ i. h.bytes i }

pub block_from : (b : List ℕ) → length b ≡ 16 → AllBytes b → IsBlock b
block_from b n r = record { sixteen = n; bytes = λ i. r.at i }

-- ---- sixteen bytes that a function gives

pub sixteen_of : (s : List ℕ) → length s ≡ 16 → s ≡ map (λ (i : ℕ). slice_index s i) (range_with_len 0 16)
sixteen_of s n = fill_by_all (λ (i : ℕ). slice_index s i) s 16 0 n (λ k h. refl)

pub block_of : (f : ℕ → ℕ) → ((i : ℕ) → f i < 256) → IsBlock (map f (range_with_len 0 16))
block_of f h = record {
  sixteen = refl;
  bytes = λ i. elim (cases_lt i 16) [
    | inl lt ↦ rw (get_or-map-range_with_len f 0 16 i i 0 lt (omega arith)) (h i)
    | inr ge ↦ rw (get_or_past (map f (range_with_len 0 16)) i 0 ge) (omega arith)
  ];
}

-- ---- sums of lists

pub length-xor_bytes : (a b : List ℕ) → length a ≤ length b → length (xor_bytes a b) ≡ length a
unfolding xor_bytes
length-xor_bytes [] b h = refl
length-xor_bytes (x ∷ a) [] h = absurd (omega arith)
length-xor_bytes (x ∷ a) (y ∷ b) h = ap suc (length-xor_bytes a b (omega arith))

pub xor_bytes_twice : (a b : List ℕ) → length a ≤ length b → xor_bytes (xor_bytes a b) b ≡ a
unfolding xor_bytes
xor_bytes_twice [] b h = refl
xor_bytes_twice (x ∷ a) [] h = absurd (omega arith)
xor_bytes_twice (x ∷ a) (y ∷ b) h = (λ i. xor_twice x y i ∷ xor_bytes_twice a b (omega arith) i)

pub AllBytes-xor_bytes : (a b : List ℕ) → AllBytes a → AllBytes b → AllBytes (xor_bytes a b)
unfolding xor_bytes
AllBytes-xor_bytes [] b p q = AllBytes-nil
AllBytes-xor_bytes (x ∷ a) [] p q = AllBytes-nil
AllBytes-xor_bytes (x ∷ a) (y ∷ b) p q =
    AllBytes-cons (xor_lt 8 x y (AllBytes-head p) (AllBytes-head q)) (AllBytes-xor_bytes a b (AllBytes-tail p) (AllBytes-tail q))

pub xor_bytes_is_block : (a b : List ℕ) → IsBlock a → IsBlock b → IsBlock (xor_bytes a b)
xor_bytes_is_block a b p q =
    let n : length (xor_bytes a b) ≡ length a = length-xor_bytes a b (omega (arith, p.sixteen, q.sixteen)) in
    block_from (xor_bytes a b) (n ∙ p.sixteen) (AllBytes-xor_bytes a b (AllBytes-block p) (AllBytes-block q))

pub xor_bytes_cancel : (a b k : List ℕ) → IsBlock a → IsBlock b → IsBlock k → xor_bytes a k ≡ xor_bytes b k → a ≡ b
xor_bytes_cancel a b k p q r e =
    sym (xor_bytes_twice a k (omega (arith, p.sixteen, r.sixteen))) ∙ ap (λ (s : List ℕ). xor_bytes s k) e
    ∙ xor_bytes_twice b k (omega (arith, q.sixteen, r.sixteen))

-- ---- words

pub word_bytes_are_bytes : (w : ℕ) → AllBytes (word_bytes w)
unfolding word_bytes
word_bytes_are_bytes w = AllBytes-cons (omega arith) (AllBytes-cons (omega arith) (AllBytes-cons (omega arith) (AllBytes-cons (omega arith) AllBytes-nil)))

length_four : (w : List ℕ) (i : ℕ) → length (four_words w i) ≡ 16
unfolding four_words word_bytes
length_four w i = refl

pub four_words_is_block : (w : List ℕ) (i : ℕ) → IsBlock (four_words w i)
unfolding four_words
four_words_is_block w i =
    let b = λ (k : ℕ). word_bytes_are_bytes (slice_index w (i + k)) in
    block_from _ (length_four w i)
    (AllBytes-append (word_bytes (slice_index w i) ++ word_bytes (slice_index w (i + 1)) ++ word_bytes (slice_index w (i + 2))) (word_bytes (slice_index w (i + 3)))
    (AllBytes-append (word_bytes (slice_index w i) ++ word_bytes (slice_index w (i + 1))) (word_bytes (slice_index w (i + 2)))
    (AllBytes-append (word_bytes (slice_index w i)) (word_bytes (slice_index w (i + 1))) (word_bytes_are_bytes (slice_index w i)) (b 1)) (b 2)) (b 3))

-- ---- the substitution

AllBytes-map : (f : ℕ → ℕ) (s : List ℕ) → ((x : ℕ) → x < 256 → f x < 256) → AllBytes s → AllBytes (map f s)
AllBytes-map f [] h r = AllBytes-nil
AllBytes-map f (x ∷ s) h r = AllBytes-cons (h x (AllBytes-head r)) (AllBytes-map f s h (AllBytes-tail r))

pub sub_bytes_are_bytes : (s : List ℕ) → AllBytes (sub_bytes s)
unfolding sub_bytes
sub_bytes_are_bytes [] = AllBytes-nil
sub_bytes_are_bytes (x ∷ s) = AllBytes-cons (sbox-lt x) (sub_bytes_are_bytes s)

pub sub_bytes_is_block : (s : List ℕ) → IsBlock s → IsBlock (sub_bytes s)
unfolding sub_bytes
sub_bytes_is_block s h = block_from (map sbox s) (length-map s sbox ∙ h.sixteen) (sub_bytes_are_bytes s)

pub inv_sub_bytes_is_block : (s : List ℕ) → IsBlock s → IsBlock (inv_sub_bytes s)
unfolding inv_sub_bytes
inv_sub_bytes_is_block s h =
    block_from (map inv_sbox s) (length-map s inv_sbox ∙ h.sixteen) (AllBytes-map inv_sbox s inv_sbox-lt (AllBytes-block h))

pub sub-inv_sub : (s : List ℕ) → AllBytes s → sub_bytes (inv_sub_bytes s) ≡ s
unfolding sub_bytes inv_sub_bytes
sub-inv_sub [] r = refl
sub-inv_sub (x ∷ s) r = (λ i. sbox-inv_sbox x (AllBytes-head r) i ∷ sub-inv_sub s (AllBytes-tail r) i)

pub inv_sub-sub : (s : List ℕ) → AllBytes s → inv_sub_bytes (sub_bytes s) ≡ s
unfolding sub_bytes inv_sub_bytes
inv_sub-sub [] r = refl
inv_sub-sub (x ∷ s) r = (λ i. inv_sbox-sbox x (AllBytes-head r) i ∷ inv_sub-sub s (AllBytes-tail r) i)

-- ---- the rows

pub shift_rows_is_block : (s : List ℕ) → AllBytes s → IsBlock (shift_rows s)
unfolding shift_rows
shift_rows_is_block s r = block_of (λ (i : ℕ). slice_index s (i % 4 + 4 * ((i / 4 + i % 4) % 4))) (λ i. r.at _)

pub inv_shift_rows_is_block : (s : List ℕ) → AllBytes s → IsBlock (inv_shift_rows s)
unfolding inv_shift_rows
inv_shift_rows_is_block s r = block_of (λ (i : ℕ). slice_index s (i % 4 + 4 * ((i / 4 + 4 - i % 4) % 4))) (λ i. r.at _)

pub shift-inv_shift : (s : List ℕ) → IsBlock s → shift_rows (inv_shift_rows s) ≡ s
unfolding shift_rows inv_shift_rows
shift-inv_shift s h = sym (sixteen_of s h.sixteen)

pub inv_shift-shift : (s : List ℕ) → IsBlock s → inv_shift_rows (shift_rows s) ≡ s
unfolding shift_rows inv_shift_rows
inv_shift-shift s h = sym (sixteen_of s h.sixteen)

-- ---- the columns

row_times-lt : (p q r s a b c d : ℕ) → a < 256 → b < 256 → c < 256 → d < 256 → row_times p q r s a b c d < 256
unfolding row_times
row_times-lt p q r s a b c d ha hb hc hd =
    xor_lt 8 _ _ (xor_lt 8 _ _ (times-lt p a ha) (times-lt q b hb)) (xor_lt 8 _ _ (times-lt r c hc) (times-lt s d hd))

module _ (a b c d : ℕ) (ha : a < 256) (hb : b < 256) (hc : c < 256) (hd : d < 256) where
  mix_column_bytes : AllBytes (mix_column a b c d)
  unfolding mix_column
  mix_column_bytes =
      let lt = λ (p q r s : ℕ). row_times-lt p q r s a b c d ha hb hc hd in
      AllBytes-cons (lt 2 3 1 1) (AllBytes-cons (lt 1 2 3 1) (AllBytes-cons (lt 1 1 2 3) (AllBytes-cons (lt 3 1 1 2) AllBytes-nil)))

  inv_mix_column_bytes : AllBytes (inv_mix_column a b c d)
  unfolding inv_mix_column
  inv_mix_column_bytes =
      let lt = λ (p q r s : ℕ). row_times-lt p q r s a b c d ha hb hc hd in
      AllBytes-cons (lt 0x0e 0x0b 0x0d 0x09) (AllBytes-cons (lt 0x09 0x0e 0x0b 0x0d) (AllBytes-cons (lt 0x0d 0x09 0x0e 0x0b) (AllBytes-cons (lt 0x0b 0x0d 0x09 0x0e) AllBytes-nil)))

length-mix_columns : (s : List ℕ) → length (mix_columns s) ≡ 16
unfolding mix_columns mix_column_at mix_column
length-mix_columns s = refl

length-inv_mix_columns : (s : List ℕ) → length (inv_mix_columns s) ≡ 16
unfolding inv_mix_columns inv_mix_column_at inv_mix_column
length-inv_mix_columns s = refl

module _ (s : List ℕ) (r : AllBytes s) where
  mix_column_at_bytes : (i : ℕ) → AllBytes (mix_column_at s i)
  unfolding mix_column_at
  mix_column_at_bytes i = mix_column_bytes _ _ _ _ (r.at i) (r.at (i + 1)) (r.at (i + 2)) (r.at (i + 3))

  inv_mix_column_at_bytes : (i : ℕ) → AllBytes (inv_mix_column_at s i)
  unfolding inv_mix_column_at
  inv_mix_column_at_bytes i = inv_mix_column_bytes _ _ _ _ (r.at i) (r.at (i + 1)) (r.at (i + 2)) (r.at (i + 3))

  pub mix_columns_is_block : IsBlock (mix_columns s)
  unfolding mix_columns
  mix_columns_is_block =
      block_from (mix_columns s) (length-mix_columns s)
      (AllBytes-append (mix_column_at s 0 ++ mix_column_at s 4 ++ mix_column_at s 8) (mix_column_at s 12)
      (AllBytes-append (mix_column_at s 0 ++ mix_column_at s 4) (mix_column_at s 8)
      (AllBytes-append (mix_column_at s 0) (mix_column_at s 4) (mix_column_at_bytes 0) (mix_column_at_bytes 4)) (mix_column_at_bytes 8)) (mix_column_at_bytes 12))

  pub inv_mix_columns_is_block : IsBlock (inv_mix_columns s)
  unfolding inv_mix_columns
  inv_mix_columns_is_block =
      block_from (inv_mix_columns s) (length-inv_mix_columns s)
      (AllBytes-append (inv_mix_column_at s 0 ++ inv_mix_column_at s 4 ++ inv_mix_column_at s 8) (inv_mix_column_at s 12)
      (AllBytes-append (inv_mix_column_at s 0 ++ inv_mix_column_at s 4) (inv_mix_column_at s 8)
      (AllBytes-append (inv_mix_column_at s 0) (inv_mix_column_at s 4) (inv_mix_column_at_bytes 0) (inv_mix_column_at_bytes 4)) (inv_mix_column_at_bytes 8)) (inv_mix_column_at_bytes 12))

pub mix-inv_mix : (s : List ℕ) → IsBlock s → mix_columns (inv_mix_columns s) ≡ s
unfolding mix_columns mix_column_at inv_mix_columns inv_mix_column_at inv_mix_column
mix-inv_mix s h =
    let r = λ (i : ℕ). h.bytes i in
    let column = λ (i : ℕ). mixed_back (slice_index s i) (slice_index s (i + 1)) (slice_index s (i + 2)) (slice_index s (i + 3)) (r i) (r (i + 1)) (r (i + 2)) (r (i + 3)) in
    (λ t. column 0 t ++ column 4 t ++ column 8 t ++ column 12 t) ∙ sym (sixteen_of s h.sixteen)

pub inv_mix-mix : (s : List ℕ) → IsBlock s → inv_mix_columns (mix_columns s) ≡ s
unfolding mix_columns mix_column_at inv_mix_columns inv_mix_column_at mix_column
inv_mix-mix s h =
    let r = λ (i : ℕ). h.bytes i in
    let column = λ (i : ℕ). unmixed (slice_index s i) (slice_index s (i + 1)) (slice_index s (i + 2)) (slice_index s (i + 3)) (r i) (r (i + 1)) (r (i + 2)) (r (i + 3)) in
    (λ t. column 0 t ++ column 4 t ++ column 8 t ++ column 12 t) ∙ sym (sixteen_of s h.sixteen)
