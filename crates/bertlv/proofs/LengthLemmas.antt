-- What a length and its field say of each other.
use Rattle.std.proofs.Common.{◌≡◌, ℕ, ◌+◌, ◌-◌, ◌*◌, ◌<◌, ◌≤◌, List, [], ◌∷◌, ◌++◌, arith, get_or, take, drop, length, inr}
use Rattle.std.proofs.lemmas.Grind.{common_steps}
use Rattle.bertlv.specs.Length.{LengthBytes}
use Rattle.bertlv.specs.Refusal.{AfterLength, BadLength}

-- a byte below 80 is a whole field
pub after_short : (bytes : List ℕ) (n : ℕ) → 1 ≤ length bytes → n ≡ get_or bytes 0 0 →
    get_or bytes 0 0 < 0x80 →
    (field : List ℕ) × AfterLength n field (take (length bytes - 1) (drop 1 bytes)) bytes
after_short [] n some is low = absurd (omega arith)
after_short (b ∷ more) n some is low = (b ∷ [], ((is, low), grind (arith, common_steps)))

-- 81 and a byte from 80 up are a whole field
pub after_81 : (bytes : List ℕ) (n : ℕ) → 2 ≤ length bytes → get_or bytes 0 0 ≡ 0x81 →
    n ≡ get_or bytes 1 0 → 0x80 ≤ get_or bytes 1 0 → get_or bytes 1 0 < 256 →
    (field : List ℕ) × AfterLength n field (take (length bytes - 2) (drop 2 bytes)) bytes
after_81 [] n two first is high fits = absurd (omega arith)
after_81 (a ∷ []) n two first is high fits = absurd (omega arith)
after_81 (a ∷ b ∷ more) n two first is high fits =
    (a ∷ b ∷ [], ((first, is, high, fits), grind (arith, common_steps)))

-- 82 and two bytes with a number from 0100 up are a whole field
pub after_82 : (bytes : List ℕ) (n : ℕ) → 3 ≤ length bytes → get_or bytes 0 0 ≡ 0x82 →
    n ≡ get_or bytes 1 0 * 256 + get_or bytes 2 0 → 0 < get_or bytes 1 0 → get_or bytes 1 0 < 256 →
    get_or bytes 2 0 < 256 →
    (field : List ℕ) × AfterLength n field (take (length bytes - 3) (drop 3 bytes)) bytes
after_82 [] n three first is high fits fits' = absurd (omega arith)
after_82 (a ∷ []) n three first is high fits fits' = absurd (omega arith)
after_82 (a ∷ b ∷ []) n three first is high fits fits' = absurd (omega arith)
after_82 (a ∷ b ∷ c ∷ more) n three first is high fits fits' =
    (a ∷ b ∷ c ∷ [], ((first, omega arith, omega arith, fits, fits'), grind (arith, common_steps)))

-- 82 and two bytes with a number below 0100 are no field
pub bad_82 : (bytes : List ℕ) → 3 ≤ length bytes → get_or bytes 0 0 ≡ 0x82 → get_or bytes 1 0 < 1 →
    get_or bytes 2 0 < 256 → BadLength bytes
bad_82 [] three first low fits = absurd (omega arith)
bad_82 (a ∷ []) three first low fits = absurd (omega arith)
bad_82 (a ∷ b ∷ []) three first low fits = absurd (omega arith)
bad_82 (a ∷ b ∷ c ∷ more) three first low fits = inr (inr (first, omega arith))

-- no length field begins another, and each has one number
pub length_front : (m n : ℕ) (a b x y : List ℕ) → LengthBytes m a → LengthBytes n b →
    a ++ x ≡ b ++ y → (m ≡ n) × (a ≡ b) × (x ≡ y)
length_front m n [] b x y h k e = absurd h
length_front m n (p ∷ a) [] x y h k e = absurd k
length_front m n (p ∷ []) (q ∷ []) x y h k e = (cc, cc, cc)
length_front m n (p ∷ []) (q ∷ s ∷ []) x y h k e = absurd (grind arith)
length_front m n (p ∷ []) (q ∷ s ∷ v ∷ []) x y h k e = absurd (grind arith)
length_front m n (p ∷ []) (q ∷ s ∷ v ∷ z ∷ b) x y h k e = absurd k
length_front m n (p ∷ r ∷ []) (q ∷ []) x y h k e = absurd (grind arith)
length_front m n (p ∷ r ∷ []) (q ∷ s ∷ []) x y h k e = (cc, cc, cc)
length_front m n (p ∷ r ∷ []) (q ∷ s ∷ v ∷ []) x y h k e = absurd (grind arith)
length_front m n (p ∷ r ∷ []) (q ∷ s ∷ v ∷ z ∷ b) x y h k e = absurd k
length_front m n (p ∷ r ∷ w ∷ []) (q ∷ []) x y h k e = absurd (grind arith)
length_front m n (p ∷ r ∷ w ∷ []) (q ∷ s ∷ []) x y h k e = absurd (grind arith)
length_front m n (p ∷ r ∷ w ∷ []) (q ∷ s ∷ v ∷ []) x y h k e = (cc, cc, cc)
length_front m n (p ∷ r ∷ w ∷ []) (q ∷ s ∷ v ∷ z ∷ b) x y h k e = absurd k
length_front m n (p ∷ r ∷ w ∷ z ∷ a) b x y h k e = absurd h

-- each number has one field
pub one_length_field : (n : ℕ) (a b : List ℕ) → LengthBytes n a → LengthBytes n b → a ≡ b
one_length_field n [] b h k = absurd h
one_length_field n (p ∷ a) [] h k = absurd k
one_length_field n (p ∷ []) (q ∷ []) h k = cc
one_length_field n (p ∷ []) (q ∷ s ∷ []) h k = absurd (omega arith)
one_length_field n (p ∷ []) (q ∷ s ∷ v ∷ []) h k = absurd (omega arith)
one_length_field n (p ∷ []) (q ∷ s ∷ v ∷ z ∷ b) h k = absurd k
one_length_field n (p ∷ r ∷ []) (q ∷ []) h k = absurd (omega arith)
one_length_field n (p ∷ r ∷ []) (q ∷ s ∷ []) h k = cc
one_length_field n (p ∷ r ∷ []) (q ∷ s ∷ v ∷ []) h k = absurd (omega arith)
one_length_field n (p ∷ r ∷ []) (q ∷ s ∷ v ∷ z ∷ b) h k = absurd k
one_length_field n (p ∷ r ∷ w ∷ []) (q ∷ []) h k = absurd (omega arith)
one_length_field n (p ∷ r ∷ w ∷ []) (q ∷ s ∷ []) h k = absurd (omega arith)
one_length_field n (p ∷ r ∷ w ∷ []) (q ∷ s ∷ v ∷ []) h k =
    let high : r ≡ s = omega arith in
    let low : w ≡ v = omega arith in
    cc
one_length_field n (p ∷ r ∷ w ∷ []) (q ∷ s ∷ v ∷ z ∷ b) h k = absurd k
one_length_field n (p ∷ r ∷ w ∷ z ∷ a) b h k = absurd h
