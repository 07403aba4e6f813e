-- Each table of the code, entry by entry.
use Rattle.std.proofs.Common.{◌≡◌, ℕ, ◌+◌, ◌<◌, List, [], ◌∷◌, map, get_or, slice_index, refl, sym, ap, ◌∙◌, ◌%◌, arith, mod-lt}
use Rattle.std.proofs.lemmas.List.FromFn.{get_or-map-range_with_len}
use Rattle.aes_block.specs.Field.{xtime, times, times_terms, power}
use Rattle.aes_block.specs.Sbox.{sbox, affine, affine_bit}
use Rattle.aes_block.specs.Words.{word_bytes}
use Rattle.aes_block.specs.Inverse.{inv_sbox}
use Rattle.aes_block.specs.declared.tables.TheConstants.{SBOX, INVERSE_SBOX}
use Rattle.aes_block.specs.declared.seal_table.TheConstants.{SEAL_TABLE}
use Rattle.aes_block.specs.declared.unseal_table.TheConstants.{UNSEAL_TABLE}
use Rattle.aes_block.proofs.Bytes.{bytes, table_at, same_at}

sbox_computed : map sbox bytes ≡ SBOX
unfolding sbox affine affine_bit power times times_terms xtime
sbox_computed = refl

pub sbox_entry : (x : ℕ) → x < 256 → slice_index SBOX x ≡ sbox x
sbox_entry x h = table_at sbox SBOX sbox_computed x h

-- the inverse table

sbox_of_inverse : map (λ (x : ℕ). slice_index SBOX (slice_index INVERSE_SBOX x)) bytes ≡ map (λ (x : ℕ). x) bytes
sbox_of_inverse = refl

inverse_of_sbox : map (λ (x : ℕ). slice_index INVERSE_SBOX (slice_index SBOX x)) bytes ≡ map (λ (x : ℕ). x) bytes
inverse_of_sbox = refl

inverse_reduced : map (λ (x : ℕ). slice_index INVERSE_SBOX x) bytes ≡ map (λ (x : ℕ). slice_index INVERSE_SBOX x % 256) bytes
inverse_reduced = refl

pub inv_sbox-lt : (x : ℕ) → x < 256 → inv_sbox x < 256
unfolding inv_sbox
inv_sbox-lt x h =
    rw (same_at (λ (y : ℕ). slice_index INVERSE_SBOX y) (λ (y : ℕ). slice_index INVERSE_SBOX y % 256) inverse_reduced x h)
    (mod-lt (slice_index INVERSE_SBOX x) (omega arith))

pub sbox-inv_sbox : (x : ℕ) → x < 256 → sbox (inv_sbox x) ≡ x
unfolding inv_sbox
sbox-inv_sbox x h =
    sym (sbox_entry (inv_sbox x) (inv_sbox-lt x h))
    ∙ same_at (λ (y : ℕ). slice_index SBOX (slice_index INVERSE_SBOX y)) (λ (y : ℕ). y) sbox_of_inverse x h

pub inv_sbox-sbox : (x : ℕ) → x < 256 → inv_sbox (sbox x) ≡ x
unfolding inv_sbox
inv_sbox-sbox x h =
    ap (λ (y : ℕ). slice_index INVERSE_SBOX y) (sym (sbox_entry x h))
    ∙ same_at (λ (y : ℕ). slice_index INVERSE_SBOX (slice_index SBOX y)) (λ (y : ℕ). y) inverse_of_sbox x h

-- ---- the tables of columns, which have 256 words a row

-- the bytes of a word that four factors make of x
abbrev pub products : ℕ → ℕ → ℕ → ℕ → ℕ → List ℕ
products p q r s x = times p x ∷ times q x ∷ times r x ∷ times s x ∷ []

-- words that were computed at each byte
entry : (word : ℕ → ℕ) (f : ℕ → List ℕ) → map (λ (x : ℕ). word_bytes (word x)) bytes ≡ map f bytes → (x : ℕ) → x < 256 → word_bytes (word x) ≡ f x
entry word f e x h =
    sym (get_or-map-range_with_len (λ (y : ℕ). word_bytes (word y)) 0 256 x x [] h (omega arith))
    ∙ ap (λ (l : List (List ℕ)). get_or l x []) e ∙ get_or-map-range_with_len f 0 256 x x [] h (omega arith)

seal_first_computed : map (λ (x : ℕ). word_bytes (slice_index SEAL_TABLE x)) bytes ≡ map (λ (x : ℕ). products 2 1 1 3 (slice_index SBOX x)) bytes
unfolding word_bytes times times_terms xtime
seal_first_computed = refl

seal_second_computed : map (λ (x : ℕ). word_bytes (slice_index SEAL_TABLE (256 + x))) bytes ≡ map (λ (x : ℕ). products 3 2 1 1 (slice_index SBOX x)) bytes
unfolding word_bytes times times_terms xtime
seal_second_computed = refl

seal_third_computed : map (λ (x : ℕ). word_bytes (slice_index SEAL_TABLE (512 + x))) bytes ≡ map (λ (x : ℕ). products 1 3 2 1 (slice_index SBOX x)) bytes
unfolding word_bytes times times_terms xtime
seal_third_computed = refl

seal_fourth_computed : map (λ (x : ℕ). word_bytes (slice_index SEAL_TABLE (768 + x))) bytes ≡ map (λ (x : ℕ). products 1 1 3 2 (slice_index SBOX x)) bytes
unfolding word_bytes times times_terms xtime
seal_fourth_computed = refl

unseal_first_computed : map (λ (x : ℕ). word_bytes (slice_index UNSEAL_TABLE x)) bytes ≡ map (λ (x : ℕ). products 0x0e 0x09 0x0d 0x0b (slice_index INVERSE_SBOX x)) bytes
unfolding word_bytes times times_terms xtime
unseal_first_computed = refl

unseal_second_computed : map (λ (x : ℕ). word_bytes (slice_index UNSEAL_TABLE (256 + x))) bytes ≡ map (λ (x : ℕ). products 0x0b 0x0e 0x09 0x0d (slice_index INVERSE_SBOX x)) bytes
unfolding word_bytes times times_terms xtime
unseal_second_computed = refl

unseal_third_computed : map (λ (x : ℕ). word_bytes (slice_index UNSEAL_TABLE (512 + x))) bytes ≡ map (λ (x : ℕ). products 0x0d 0x0b 0x0e 0x09 (slice_index INVERSE_SBOX x)) bytes
unfolding word_bytes times times_terms xtime
unseal_third_computed = refl

unseal_fourth_computed : map (λ (x : ℕ). word_bytes (slice_index UNSEAL_TABLE (768 + x))) bytes ≡ map (λ (x : ℕ). products 0x09 0x0d 0x0b 0x0e (slice_index INVERSE_SBOX x)) bytes
unfolding word_bytes times times_terms xtime
unseal_fourth_computed = refl

module _ (x : ℕ) (h : x < 256) where
  pub seal_first_entry : word_bytes (slice_index SEAL_TABLE x) ≡ products 2 1 1 3 (sbox x)
  seal_first_entry = entry (λ (y : ℕ). slice_index SEAL_TABLE y) (λ (y : ℕ). products 2 1 1 3 (slice_index SBOX y)) seal_first_computed x h ∙ ap (products 2 1 1 3) (sbox_entry x h)

  pub seal_second_entry : word_bytes (slice_index SEAL_TABLE (256 + x)) ≡ products 3 2 1 1 (sbox x)
  seal_second_entry = entry (λ (y : ℕ). slice_index SEAL_TABLE (256 + y)) (λ (y : ℕ). products 3 2 1 1 (slice_index SBOX y)) seal_second_computed x h ∙ ap (products 3 2 1 1) (sbox_entry x h)

  pub seal_third_entry : word_bytes (slice_index SEAL_TABLE (512 + x)) ≡ products 1 3 2 1 (sbox x)
  seal_third_entry = entry (λ (y : ℕ). slice_index SEAL_TABLE (512 + y)) (λ (y : ℕ). products 1 3 2 1 (slice_index SBOX y)) seal_third_computed x h ∙ ap (products 1 3 2 1) (sbox_entry x h)

  pub seal_fourth_entry : word_bytes (slice_index SEAL_TABLE (768 + x)) ≡ products 1 1 3 2 (sbox x)
  seal_fourth_entry = entry (λ (y : ℕ). slice_index SEAL_TABLE (768 + y)) (λ (y : ℕ). products 1 1 3 2 (slice_index SBOX y)) seal_fourth_computed x h ∙ ap (products 1 1 3 2) (sbox_entry x h)

  pub unseal_first_entry : word_bytes (slice_index UNSEAL_TABLE x) ≡ products 0x0e 0x09 0x0d 0x0b (inv_sbox x)
  unfolding inv_sbox
  unseal_first_entry = entry (λ (y : ℕ). slice_index UNSEAL_TABLE y) (λ (y : ℕ). products 0x0e 0x09 0x0d 0x0b (slice_index INVERSE_SBOX y)) unseal_first_computed x h

  pub unseal_second_entry : word_bytes (slice_index UNSEAL_TABLE (256 + x)) ≡ products 0x0b 0x0e 0x09 0x0d (inv_sbox x)
  unfolding inv_sbox
  unseal_second_entry = entry (λ (y : ℕ). slice_index UNSEAL_TABLE (256 + y)) (λ (y : ℕ). products 0x0b 0x0e 0x09 0x0d (slice_index INVERSE_SBOX y)) unseal_second_computed x h

  pub unseal_third_entry : word_bytes (slice_index UNSEAL_TABLE (512 + x)) ≡ products 0x0d 0x0b 0x0e 0x09 (inv_sbox x)
  unfolding inv_sbox
  unseal_third_entry = entry (λ (y : ℕ). slice_index UNSEAL_TABLE (512 + y)) (λ (y : ℕ). products 0x0d 0x0b 0x0e 0x09 (slice_index INVERSE_SBOX y)) unseal_third_computed x h

  pub unseal_fourth_entry : word_bytes (slice_index UNSEAL_TABLE (768 + x)) ≡ products 0x09 0x0d 0x0b 0x0e (inv_sbox x)
  unfolding inv_sbox
  unseal_fourth_entry = entry (λ (y : ℕ). slice_index UNSEAL_TABLE (768 + y)) (λ (y : ℕ). products 0x09 0x0d 0x0b 0x0e (slice_index INVERSE_SBOX y)) unseal_fourth_computed x h
