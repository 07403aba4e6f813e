-- The bytes of a key schedule's first words are a key: the proof that the key types give of their law.
use Rattle.std.specs.Prelude.{◌≡◌, ℕ, zero, suc, ◌+◌, ◌*◌, ◌/◌, ◌^◌, ◌<◌, List, [], ◌∷◌, ◌++◌, length, slice_index}
use Rattle.std.proofs.Common.{refl, sym, subst, ◌∙◌, lit<, arith, inl, inr}
use Rattle.std.proofs.Math.Nat.{mul-suc}
use Rattle.std.proofs.lemmas.List.{length-append}
use Rattle.std.proofs.lemmas.Nat.{mod_below}
use Rattle.aes_block.specs.Words.{word_bytes, first_bytes}
use Rattle.aes_block.specs.Cipher.{IsAesKeyLength, IsKey}

bytes-append : (s t : List ℕ) → ((i : ℕ) → slice_index s i < 2 ^ 8) → ((i : ℕ) → slice_index t i < 2 ^ 8)
    → (i : ℕ) → slice_index (s ++ t) i < 2 ^ 8
bytes-append [] t p q i = q i
bytes-append (x ∷ s) t p q zero = p zero
bytes-append (x ∷ s) t p q (suc i) = bytes-append s t (λ j. p (suc j)) q i

bytes-word : (w i : ℕ) → slice_index (word_bytes w) i < 2 ^ 8
unfolding word_bytes
bytes-word w zero = mod_below (w / 2 ^ 24) (2 ^ 8) (lit< tt)
bytes-word w (suc zero) = mod_below (w / 2 ^ 16) (2 ^ 8) (lit< tt)
bytes-word w (suc (suc zero)) = mod_below (w / 2 ^ 8) (2 ^ 8) (lit< tt)
bytes-word w (suc (suc (suc zero))) = mod_below w (2 ^ 8) (lit< tt)
bytes-word w (suc (suc (suc (suc i)))) = lit< tt

length-word : (w : ℕ) → length (word_bytes w) ≡ 4
unfolding word_bytes
length-word w = refl

length-first : (w : List ℕ) (n : ℕ) → length (first_bytes w n) ≡ 4 * n
unfolding first_bytes
length-first w zero = refl
length-first w (suc n) =
    length-append (first_bytes w n) (word_bytes (slice_index w n))
    ∙ (λ i. length-first w n i + length-word (slice_index w n) i) ∙ sym (mul-suc 4 n)

bytes-first : (w : List ℕ) (n i : ℕ) → slice_index (first_bytes w n) i < 2 ^ 8
unfolding first_bytes
bytes-first w zero i = lit< tt
bytes-first w (suc n) i = bytes-append (first_bytes w n) (word_bytes (slice_index w n)) (bytes-first w n) (bytes-word (slice_index w n)) i

pub first_bytes_are_key : (w : List ℕ) (n : ℕ) → IsKey (4 * n) (first_bytes w n)
first_bytes_are_key w n = record { len = length-first w n; bytes = λ i. bytes-first w n i }

pub words_of_size : (n : ℕ) → IsAesKeyLength n → 4 * (n / 4) ≡ n
words_of_size n h = elim h [
  | inl e ↦ omega arith
  | inr g ↦ elim g [ inl e ↦ omega arith | inr e ↦ omega arith ]
]

pub key_of_size : (w : List ℕ) (n : ℕ) → IsAesKeyLength n → IsKey n (first_bytes w (n / 4))
key_of_size w n h = subst (λ (k : ℕ). IsKey k (first_bytes w (n / 4))) (words_of_size n h) (first_bytes_are_key w (n / 4))
