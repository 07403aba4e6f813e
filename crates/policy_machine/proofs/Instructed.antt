-- Instruction bytes and the lists that have them.
use Rattle.std.proofs.Common.{◌≡◌, ℕ, Bool, true, false, List, [], ◌∷◌, ◌++◌, refl, subst, inl, inr, arith}
use Rattle.std.specs.List.{list_all, list_any}
use Rattle.std.specs.Prelude.{Contains, ◌&&◌, ◌||◌, ◌==◌}
use Rattle.std.proofs.lemmas.Bool.{eq-eqb, eqb-true}
use Rattle.card_types.proofs.Members.{contains_cases, contains_first, contains_later}

-- a byte is among these where one of them is the same
pub among : (bytes : List ℕ) (byte : ℕ) → list_any (λ one. one == byte) bytes ≡ true → Contains bytes byte
among [] byte some = cc
among (first ∷ bytes) byte some = by (first == byte) refl (among bytes byte) some
  where
    by : (test : Bool) → (first == byte) ≡ test → (list_any (λ one. one == byte) bytes ≡ true → Contains bytes byte)
        → (test || list_any (λ one. one == byte) bytes) ≡ true → Contains (first ∷ bytes) byte
    by true is later some = subst (Contains (first ∷ bytes)) (eqb-true first byte is) (contains_first first bytes)
    by false is later some = contains_later first bytes byte (later some)

pub found_among : (bytes : List ℕ) (byte : ℕ) → Contains bytes byte → list_any (λ one. one == byte) bytes ≡ true
found_among [] byte (k, within, is) = absurd (omega arith)
found_among (first ∷ bytes) byte there = elim (contains_cases first bytes byte there) [
  | inl same ↦ rw (eq-eqb first byte same) refl
  | inr later ↦ by (first == byte) (found_among bytes byte later)
]
  where
    by : (test : Bool) → list_any (λ one. one == byte) bytes ≡ true → (test || list_any (λ one. one == byte) bytes) ≡ true
    by true rest = refl
    by false rest = rest

-- what a test says of each byte of a list
pub each_byte : (test : ℕ → Bool) (bytes : List ℕ) → list_all test bytes ≡ true → (byte : ℕ) → Contains bytes byte → test byte ≡ true
each_byte test [] all byte (k, within, is) = absurd (omega arith)
each_byte test (first ∷ bytes) all byte there = by (test first) refl all (λ rest later. each_byte test bytes rest byte later)
  where
    by : (is : Bool) → test first ≡ is → (is && list_all test bytes) ≡ true → (list_all test bytes ≡ true → Contains bytes byte → test byte ≡ true)
        → test byte ≡ true
    by true is rest behind = elim (contains_cases first bytes byte there) [
      | inl same ↦ subst (λ (n : ℕ). test n ≡ true) same is
      | inr later ↦ behind rest later
    ]
    by false is rest behind = cc

-- what is not in the front is after it
pub any_after : (front rest : List ℕ) (byte : ℕ) → list_any (λ one. one == byte) front ≡ false
    → list_any (λ one. one == byte) (front ++ rest) ≡ list_any (λ one. one == byte) rest
any_after [] rest byte none = refl
any_after (first ∷ front) rest byte none = by (first == byte) none (any_after front rest byte)
  where
    by : (test : Bool) → (test || list_any (λ one. one == byte) front) ≡ false
        → (list_any (λ one. one == byte) front ≡ false → list_any (λ one. one == byte) (front ++ rest) ≡ list_any (λ one. one == byte) rest)
        → (test || list_any (λ one. one == byte) (front ++ rest)) ≡ list_any (λ one. one == byte) rest
    by true none behind = cc
    by false none behind = behind none
