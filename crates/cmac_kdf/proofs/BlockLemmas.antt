-- Sums of blocks, a block's double, and the blocks of a list.
use Rattle.std.proofs.Common.{◌≡◌, ℕ, zero, suc, ◌+◌, ◌*◌, ◌/◌, ◌%◌, ◌^◌, ◌<◌, ◌≤◌, List, [], ◌∷◌, ◌++◌, length, take, drop, get_or, inl, inr, bit_xor, refl, sym, ap, ◌∙◌, arith}
use Rattle.std.proofs.lemmas.List.{length-append, length-drop, take-append-le, drop-append-le, nil_from_length, ext_get_or, take_all}
use Rattle.std.proofs.lemmas.Bool.{cases_lt, le-leb, lt-leb}
use Rattle.std.proofs.lemmas.Nat.{xor_mod, xor_shr}
use Rattle.std.specs.Int.{w128, from_be_bytes, to_be_bytes}
use lib.Bits.{xor_zero_r}
use Rattle.aes_block.specs.Cipher.{xor_bytes}
use Rattle.aes_block.proofs.CipherLemmas.{length-xor_bytes}
use Rattle.cmac_kdf.specs.Blocks.{first_blocks, blocks}
use Rattle.cmac_kdf.specs.Cmac.{shifted_left, double, field_constant}

get_or-xor_bytes : (a b : List ℕ) (k : ℕ) → k < length a → k < length b → get_or (xor_bytes a b) k 0 ≡ bit_xor (get_or a k 0) (get_or b k 0)
unfolding xor_bytes
get_or-xor_bytes [] b k h g = absurd (omega arith)
get_or-xor_bytes (x ∷ a) [] k h g = absurd (omega arith)
get_or-xor_bytes (x ∷ a) (y ∷ b) zero h g = refl
get_or-xor_bytes (x ∷ a) (y ∷ b) (suc k) h g = get_or-xor_bytes a b k (omega arith) (omega arith)

-- a list whose places are the sums of the places of two others
pub xor_from_places : (old with new : List ℕ) → length old ≡ 16 → length with ≡ 16 → length new ≡ 16
    → ((k : ℕ) → k < 16 → get_or new k 0 ≡ bit_xor (get_or old k 0) (get_or with k 0)) → new ≡ xor_bytes old with
xor_from_places old with new lo lw ln each =
    ext_get_or 0 new (xor_bytes old with) (ln ∙ sym lo ∙ sym (length-xor_bytes old with (omega arith)))
    (λ k h. each k (omega arith) ∙ sym (get_or-xor_bytes old with k (omega arith) (omega arith)))

byte-xor : (x y k : ℕ) → bit_xor x y / 2 ^ k % 2 ^ 8 ≡ bit_xor (x / 2 ^ k % 2 ^ 8) (y / 2 ^ k % 2 ^ 8)
byte-xor x y k = ap (λ (n : ℕ). n % 2 ^ 8) (xor_shr x y k) ∙ xor_mod (x / 2 ^ k) (y / 2 ^ k) 8

-- the bytes of a sum of numbers
bytes-xor : (x y : ℕ) → to_be_bytes w128 (bit_xor x y) ≡ xor_bytes (to_be_bytes w128 x) (to_be_bytes w128 y)
unfolding xor_bytes
bytes-xor x y =
    let b = byte-xor x y in
    (λ i. b 120 i ∷ b 112 i ∷ b 104 i ∷ b 96 i ∷ b 88 i ∷ b 80 i ∷ b 72 i ∷ b 64 i ∷ b 56 i ∷ b 48 i ∷ b 40 i ∷ b 32 i ∷ b 24 i ∷ b 16 i ∷ b 8 i ∷ xor_mod x y 8 i ∷ [])

-- a block's double, of the number that the block writes and of its first bit
pub double_of : (x : List ℕ) (n : ℕ) → get_or x 0 0 < 256 → n ≡ from_be_bytes w128 x
    → to_be_bytes w128 (bit_xor (n * 2 % 2 ^ 128) (get_or x 0 0 / 128 * 0x87)) ≡ double x
unfolding double shifted_left
double_of x n lt en =
    let twice : n * 2 ≡ 2 * n = omega arith in
    let shifted : n * 2 % 2 ^ 128 ≡ 2 * from_be_bytes w128 x % 2 ^ 128 = ap (λ (k : ℕ). k % 2 ^ 128) (twice ∙ ap (λ (k : ℕ). 2 * k) en) in
    elim (cases_lt (get_or x 0 0) 128) [
      | inl low ↦
          let none : get_or x 0 0 / 128 * 0x87 ≡ 0 = omega arith in
          rw (lt-leb 128 (get_or x 0 0) low)
          (ap (λ (k : ℕ). to_be_bytes w128 (bit_xor (n * 2 % 2 ^ 128) k)) none
          ∙ ap (to_be_bytes w128) (xor_zero_r (n * 2 % 2 ^ 128) ∙ shifted))
      | inr high ↦
          let one : get_or x 0 0 / 128 * 0x87 ≡ 0x87 = omega arith in
          rw (le-leb 128 (get_or x 0 0) high)
          (ap (λ (k : ℕ). to_be_bytes w128 (bit_xor (n * 2 % 2 ^ 128) k)) one
          ∙ bytes-xor (n * 2 % 2 ^ 128) 0x87
          ∙ ap (λ (k : ℕ). xor_bytes (to_be_bytes w128 k) field_constant) shifted)
    ]

-- ---- the blocks of a list

-- the blocks of two lists, the first of which is q whole blocks
pub first_blocks-append : (q r t : ℕ) (a b : List ℕ) → length a ≡ 16 * q → t ≡ q + r → first_blocks t (a ++ b) ≡ first_blocks q a ++ first_blocks r b
first_blocks-append zero r t a b la et =
    let e : t ≡ r = omega arith in
    let n : a ≡ [] = nil_from_length a (omega arith) in
    rw (e, n) refl
first_blocks-append (suc q) r zero a b la et = absurd (omega arith)
first_blocks-append (suc q) r (suc t) a b la et =
    let fits : 16 ≤ length a = omega arith in
    let front : take 16 (a ++ b) ≡ take 16 a = take-append-le 16 a b fits in
    let back : drop 16 (a ++ b) ≡ drop 16 a ++ b = drop-append-le 16 a b fits in
    let rest : first_blocks t (drop 16 a ++ b) ≡ first_blocks q (drop 16 a) ++ first_blocks r b =
    first_blocks-append q r t (drop 16 a) b (omega (arith, length-drop 16 a)) (omega arith) in
    (λ i. front i ∷ first_blocks t (back i)) ∙ ap (λ (s : List (List ℕ)). take 16 a ∷ s) rest

pub blocks-append : (a b : List ℕ) → length a % 16 ≡ 0 → blocks (a ++ b) ≡ blocks a ++ blocks b
blocks-append a b whole =
    first_blocks-append (length a / 16) (length b / 16) (length (a ++ b) / 16) a b (omega arith) (omega (arith, length-append a b))

pub blocks_of_one : (b : List ℕ) → length b ≡ 16 → blocks b ≡ b ∷ []
blocks_of_one b lb =
    let one : length b / 16 ≡ 1 = omega arith in
    rw (one) (ap (λ (s : List ℕ). s ∷ []) (take_all 16 b (omega arith)))
