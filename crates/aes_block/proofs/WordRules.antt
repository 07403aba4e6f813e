-- The bytes of a word under exclusive or.
use Rattle.std.proofs.Common.{◌≡◌, ℕ, ◌/◌, ◌%◌, ◌^◌, ◌<◌, [], ◌∷◌, bit_xor, refl, ap, ◌∙◌}
use Rattle.std.specs.Int.{w32, from_be_bytes}
use lib.Bits.{xor_assoc}
use Rattle.std.proofs.lemmas.Nat.{xor_comm, be_bytes_4, xor_mod, xor_shr}
use Rattle.aes_block.specs.Words.{word_bytes}
use Rattle.aes_block.proofs.Blocks.{AllBytes-nil, AllBytes-cons}
use Rattle.aes_block.proofs.TableRules.{products}
use Rattle.aes_block.specs.Cipher.{xor_bytes, row_times}

byte-xor : (x y k : ℕ) → bit_xor x y / 2 ^ k % 2 ^ 8 ≡ bit_xor (x / 2 ^ k % 2 ^ 8) (y / 2 ^ k % 2 ^ 8)
byte-xor x y k = ap (λ (n : ℕ). n % 2 ^ 8) (xor_shr x y k) ∙ xor_mod (x / 2 ^ k) (y / 2 ^ k) 8

pub word_bytes-xor : (x y : ℕ) → word_bytes (bit_xor x y) ≡ xor_bytes (word_bytes x) (word_bytes y)
unfolding word_bytes xor_bytes
word_bytes-xor x y = (λ i. byte-xor x y 24 i ∷ byte-xor x y 16 i ∷ byte-xor x y 8 i ∷ xor_mod x y 8 i ∷ [])

sum_turned : (k t u v w : ℕ) → bit_xor (bit_xor (bit_xor (bit_xor k t) u) v) w ≡ bit_xor (bit_xor (bit_xor t u) (bit_xor v w)) k
sum_turned k t u v w =
    xor_assoc (bit_xor (bit_xor k t) u) v w ∙ ap (λ (x : ℕ). bit_xor x (bit_xor v w)) (xor_assoc k t u)
    ∙ xor_assoc k (bit_xor t u) (bit_xor v w) ∙ xor_comm k (bit_xor (bit_xor t u) (bit_xor v w))

-- a share of each row, added to the key, is the column that the matrix of rows p s r q, turned right, makes
pub column_sum : (p q r s a b c d t u v w key n : ℕ) → n ≡ bit_xor (bit_xor (bit_xor (bit_xor key t) u) v) w
    → word_bytes t ≡ products p q r s a → word_bytes u ≡ products s p q r b → word_bytes v ≡ products r s p q c → word_bytes w ≡ products q r s p d
    → word_bytes n
    ≡ xor_bytes (row_times p s r q a b c d ∷ row_times q p s r a b c d ∷ row_times r q p s a b c d ∷ row_times s r q p a b c d ∷ []) (word_bytes key)
unfolding row_times xor_bytes
column_sum p q r s a b c d t u v w key n en et eu ev ew =
    let upper : word_bytes (bit_xor t u) ≡ xor_bytes (products p q r s a) (products s p q r b) =
    word_bytes-xor t u ∙ (λ i. xor_bytes (et i) (eu i)) in
    let lower : word_bytes (bit_xor v w) ≡ xor_bytes (products r s p q c) (products q r s p d) =
    word_bytes-xor v w ∙ (λ i. xor_bytes (ev i) (ew i)) in
    let sum = word_bytes-xor (bit_xor t u) (bit_xor v w) ∙ (λ i. xor_bytes (upper i) (lower i)) in
    ap word_bytes (en ∙ sum_turned key t u v w)
    ∙ word_bytes-xor (bit_xor (bit_xor t u) (bit_xor v w)) key ∙ (λ i. xor_bytes (sum i) (word_bytes key))

-- the bytes of a word that four bytes write
pub word_bytes-from : (p q r s n : ℕ) → p < 256 → q < 256 → r < 256 → s < 256
    → n ≡ from_be_bytes w32 (p ∷ q ∷ r ∷ s ∷ []) → word_bytes n ≡ p ∷ q ∷ r ∷ s ∷ []
unfolding word_bytes
word_bytes-from p q r s n hp hq hr hs e =
    be_bytes_4 (p ∷ q ∷ r ∷ s ∷ []) n refl (AllBytes-cons hp (AllBytes-cons hq (AllBytes-cons hr (AllBytes-cons hs AllBytes-nil)))).at e
