-- Lists that are written into a buffer one after the other.
use Rattle.std.proofs.Common.{◌≡◌, ℕ, ◌+◌, ◌<◌, ◌≤◌, List, [], ◌++◌, length, take, drop, ap, ◌∙◌, arith, inl, inr}
use Rattle.std.proofs.lemmas.Bool.{cases_lt}
use Rattle.std.proofs.lemmas.List.{length-append, length-drop, length-take, take_at, drop_all, append-nil, get_or-take, get_or_past}
use Rattle.std.proofs.lemmas.Slice.{take-put_mid}
use Rattle.cmac_kdf.specs.Blocks.{IsBytes}
use borrow.Rule.Slice.PartMut.{put_mid}

-- the second fills the buffer after the first
pub written_after : (h z c : List ℕ) (n k : ℕ) → length h ≡ n → length z ≤ k → put_mid n k (h ++ z) c ≡ h ++ c
written_after h z c n k lh lz =
    let none : drop k (drop n (h ++ z)) ≡ [] = drop_all k (drop n (h ++ z)) (omega (arith, length-drop n (h ++ z), length-append h z)) in
    (λ i. take_at h z n lh i ++ (c ++ none i)) ∙ ap (λ (s : List ℕ). h ++ s) (append-nil c)

-- the front of the buffer is both
pub front_after : (h z c : List ℕ) (n k m : ℕ) → length h ≡ n → m ≡ n + length c → take m (put_mid n k (h ++ z) c) ≡ h ++ c
front_after h z c n k m lh em =
    take-put_mid n k (h ++ z) c m (omega arith) (omega (arith, length-append h z)) ∙ ap (λ (s : List ℕ). s ++ c) (take_at h z n lh)

pub IsBytes-take : (n : ℕ) (s : List ℕ) → IsBytes s → IsBytes (take n s)
IsBytes-take n s b = record {
  at = λ i. elim (cases_lt i n) [
    | inl lt ↦ rw (get_or-take n s i 0 lt) (b.at i)
    | inr ge ↦ rw (get_or_past (take n s) i 0 (omega (arith, length-take n s))) (omega arith)
  ];
}

pub positive : (n : ℕ) → (n ≡ 0 → ⊥) → 0 < n
positive n h = omega arith
