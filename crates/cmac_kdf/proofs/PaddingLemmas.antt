-- Padded bytes: their length, how a buffer comes to hold them, and that no others are padded to the same.
use Rattle.std.proofs.Common.{◌≡◌, ℕ, suc, ◌+◌, ◌-◌, ◌%◌, ◌<◌, ◌≤◌, List, [], ◌∷◌, ◌++◌, length, take, drop, get_or, replicate, set, ◌≢◌, refl, sym, ap, ◌∙◌, arith, inl, inr}
use Rattle.std.proofs.lemmas.Bool.{cases_lt}
use Rattle.std.proofs.lemmas.List.{length-append, length-drop, length-take-le, length-replicate, get_or-replicate, get_or_past, get_or_append_left, get_or-append_right, take_more_set, append_assoc, ext_get_or, get_or-take, get_or-drop, get_or-set_same, get_or-set_other, take_at, take-set, length-set, drop-set-lt}
use Rattle.std.proofs.lemmas.Slice.{take-put_mid, drop-put_mid}
use borrow.Rule.Slice.PartMut.{put_mid}
use Rattle.cmac_kdf.specs.Blocks.{IsBytes, padded, padded_length}

pub length-padded : (p : List ℕ) → length (padded p) ≡ padded_length (length p)
unfolding padded
length-padded p =
    omega (arith, length-append p (0x80 ∷ replicate (15 - length p % 16) 0), length-replicate {A = ℕ} (15 - length p % 16) 0)

-- the byte after the padded ones
pub padded_mark : (p : List ℕ) → get_or (padded p) (length p) 0 ≡ 0x80
unfolding padded
padded_mark p =
    let none : length p - length p ≡ 0 = omega arith in
    get_or-append_right p (0x80 ∷ replicate (15 - length p % 16) 0) (length p) (length p) 0 refl (omega arith)
    ∙ ap (λ (k : ℕ). get_or (0x80 ∷ replicate (15 - length p % 16) 0) k 0) none

get_or-zeros : (n k : ℕ) → get_or {A = ℕ} (replicate n 0) k 0 ≡ 0
get_or-zeros n k = elim (cases_lt k n) [
  | inl lt ↦ get_or-replicate {A = ℕ} n k 0 0 lt
  | inr ge ↦ get_or_past (replicate n 0) k 0 (omega (arith, length-replicate {A = ℕ} n 0))
]

after_mark : (n j k : ℕ) → j ≡ suc k → get_or {A = ℕ} (0x80 ∷ replicate n 0) j 0 ≡ 0
after_mark n j k e = ap (λ (i : ℕ). get_or {A = ℕ} (0x80 ∷ replicate n 0) i 0) e ∙ get_or-zeros n k

-- every byte after that one
pub padded_zeros : (p : List ℕ) (k : ℕ) → length p < k → get_or (padded p) k 0 ≡ 0
unfolding padded
padded_zeros p k h =
    let n : ℕ = 15 - length p % 16 in
    let place : k - length p ≡ suc (k - length p - 1) = omega arith in
    get_or-append_right p (0x80 ∷ replicate n 0) (length p) k 0 refl (omega arith) ∙ after_mark n (k - length p) (k - length p - 1) place

pub padded_front : (p : List ℕ) (k : ℕ) → k < length p → get_or (padded p) k 0 ≡ get_or p k 0
unfolding padded
padded_front p k h = get_or_append_left p (0x80 ∷ replicate (15 - length p % 16) 0) 0 k h

pub IsBytes-padded : (p : List ℕ) → IsBytes p → IsBytes (padded p)
IsBytes-padded p b = record {
  at = λ i. elim (cases_lt i (length p)) [
    | inl lt ↦ rw (padded_front p i lt) (b.at i)
    | inr ge ↦ elim (cases_lt (length p) i) [
      | inl gt ↦ rw (padded_zeros p i gt) (omega arith)
      | inr le ↦ let e : i ≡ length p = omega arith in rw (e, padded_mark p) (omega arith)
    ]
  ];
}

-- no two lists are padded to the same
pub padded_cancel : (p q : List ℕ) → padded p ≡ padded q → p ≡ q
unfolding padded
padded_cancel p q e =
    let at = λ (k : ℕ). ap (λ (s : List ℕ). get_or s k 0) e in
    let same : length p ≡ length q = elim (cases_lt (length p) (length q)) [
      | inl lt ↦ absurd (omega (arith, at (length q), padded_mark q, padded_zeros p (length q) lt))
      | inr ge ↦ elim (cases_lt (length q) (length p)) [
        | inl lt ↦ absurd (omega (arith, at (length p), padded_mark p, padded_zeros q (length p) lt))
        | inr le ↦ omega arith
      ]
    ] in
    sym (take_at p (0x80 ∷ replicate (15 - length p % 16) 0) (length p) refl) ∙ ap (λ (s : List ℕ). take (length p) s) e
    ∙ take_at q (0x80 ∷ replicate (15 - length q % 16) 0) (length p) (sym same)

-- ---- a buffer that is padded in place

pub padded_in_place : (s zeros : List ℕ) (n end k : ℕ) → padded_length n ≤ length s → end ≡ padded_length n → k ≡ end - (n + 1) → zeros ≡ replicate (length (take k (drop (n + 1) (set s n 0x80)))) 0
    → take end (put_mid (n + 1) k (set s n 0x80) zeros) ≡ padded (take n s)
unfolding padded
padded_in_place s zeros n end k room ee ek ez =
    let ls : length (set s n 0x80) ≡ length s = length-set s n 0x80 in
    let part : length (take k (drop (n + 1) (set s n 0x80))) ≡ k = length-take-le k _ (omega (arith, length-drop (n + 1) (set s n 0x80))) in
    let lz : length zeros ≡ k = ap length ez ∙ length-replicate {A = ℕ} _ 0 ∙ part in
    let lt : length (take n s) ≡ n = length-take-le n s (omega arith) in
    let count : length (take k (drop (n + 1) (set s n 0x80))) ≡ 15 - length (take n s) % 16 = omega arith in
    take-put_mid (n + 1) k (set s n 0x80) zeros end (omega arith) (omega arith)
    ∙ (λ i. take_more_set s n 0x80 (omega arith) i ++ ez i)
    ∙ append_assoc (take n s) (0x80 ∷ []) (replicate (length (take k (drop (n + 1) (set s n 0x80)))) 0)
    ∙ ap (λ (j : ℕ). take n s ++ 0x80 ∷ replicate j 0) count

pub past_padding : (s zeros : List ℕ) (n end k : ℕ) → padded_length n ≤ length s → end ≡ padded_length n → k ≡ end - (n + 1) → zeros ≡ replicate (length (take k (drop (n + 1) (set s n 0x80)))) 0
    → drop end (put_mid (n + 1) k (set s n 0x80) zeros) ≡ drop end s
past_padding s zeros n end k room ee ek ez =
    let ls : length (set s n 0x80) ≡ length s = length-set s n 0x80 in
    let part : length (take k (drop (n + 1) (set s n 0x80))) ≡ k = length-take-le k _ (omega (arith, length-drop (n + 1) (set s n 0x80))) in
    let lz : length zeros ≡ k = ap length ez ∙ length-replicate {A = ℕ} _ 0 ∙ part in
    drop-put_mid (n + 1) k (set s n 0x80) zeros end (omega arith) (omega arith) lz
    ∙ drop-set-lt end s n 0x80 (omega arith)

-- ---- padding that is stripped

-- whole blocks that end in 80 at place n and fewer than sixteen 00 are the padding of what stands before
pub stripped : (s : List ℕ) (n : ℕ) → length s % 16 ≡ 0 → n < length s → length s ≤ n + 16 → get_or s n 0 ≡ 0x80
    → ((k : ℕ) → n < k → get_or s k 0 ≡ 0) → padded (take n s) ≡ s
stripped s n whole lt near mark zeros =
    let ln : length (take n s) ≡ n = length-take-le n s (omega arith) in
    let lp : length (padded (take n s)) ≡ length s = omega (arith, length-padded (take n s)) in
    ext_get_or 0 (padded (take n s)) s lp (λ k h. elim (cases_lt k n) [
      | inl below ↦ padded_front (take n s) k (omega arith) ∙ get_or-take n s k 0 below
      | inr ge ↦ elim (cases_lt n k) [
        | inl above ↦ padded_zeros (take n s) k (omega arith) ∙ sym (zeros k above)
        | inr le ↦
            let e : k ≡ n = omega arith in
            ap (λ (j : ℕ). get_or (padded (take n s)) j 0) (e ∙ sym ln) ∙ padded_mark (take n s) ∙ sym mark ∙ ap (λ (j : ℕ). get_or s j 0) (sym e)
      ]
    ])

-- in padded bytes the byte 80 has fewer than sixteen bytes after it
pub mark_near : (p s : List ℕ) → padded p ≡ s → (length p < length s) × (length s ≤ length p + 16)
mark_near p s e = let l : length s ≡ padded_length (length p) = sym (ap length e) ∙ length-padded p in (omega arith, omega arith)

pub mark_in : (p s : List ℕ) → padded p ≡ s → get_or s (length p) 0 ≡ 0x80
mark_in p s e = ap (λ (t : List ℕ). get_or t (length p) 0) (sym e) ∙ padded_mark p

pub zeros_in : (p s : List ℕ) → padded p ≡ s → (k : ℕ) → length p < k → get_or s k 0 ≡ 0
zeros_in p s e k h = ap (λ (t : List ℕ). get_or t k 0) (sym e) ∙ padded_zeros p k h

-- where the bytes after n are 00 and byte n is neither 00 nor 80, the bytes are no padded ones
pub not_padded_at : (s p : List ℕ) (n x : ℕ) → x ≡ get_or s n 0 → (x ≡ 0 → ⊥) → (x ≡ 0x80 → ⊥) → ((k : ℕ) → n < k → get_or s k 0 ≡ 0) → padded p ≡ s → ⊥
not_padded_at s p n x ex nz nm zeros e = elim (cases_lt (length p) n) [
  | inl below ↦ nz (ex ∙ zeros_in p s e n below)
  | inr ge ↦ elim (cases_lt n (length p)) [
    | inl above ↦ absurd (omega (arith, zeros (length p) above, mark_in p s e))
    | inr le ↦ let same : n ≡ length p = omega arith in nm (ex ∙ ap (λ (j : ℕ). get_or s j 0) same ∙ mark_in p s e)
  ]
]

-- where the last sixteen bytes are 00, the bytes are no padded ones
pub not_padded_zeros : (s p : List ℕ) → ((k : ℕ) → length s ≤ k + 16 → get_or s k 0 ≡ 0) → padded p ≡ s → ⊥
not_padded_zeros s p zeros e = absurd (omega (arith, zeros (length p) (mark_near p s e).1, mark_in p s e))

-- the length of the blocks that a front of them is padded to
pub stripped_length : (s : List ℕ) (n : ℕ) → n < length s → padded (take n s) ≡ s → padded_length n ≡ length s
stripped_length s n lt e =
    omega (arith, length-padded (take n s), ap length e, length-take-le n s)

-- fewer than sixteen bytes over a block of zeros, and 80 after them
pub block_padded : (x p : List ℕ) → x ≡ p → length p < 16 → set (x ++ drop (length p) (replicate 16 0)) (length p) 0x80 ≡ padded p
block_padded x p ex few =
    let n : ℕ = length p in
    let t : List ℕ = drop n (replicate 16 0) in
    let lt : length t ≡ 16 - n = length-drop n (replicate {A = ℕ} 16 0) in
    let lx : length x ≡ n = ap length ex in
    let ls : length (set (x ++ t) n 0x80) ≡ 16 = length-set (x ++ t) n 0x80 ∙ omega (arith, length-append x t) in
    let front : take n (set (x ++ t) n 0x80) ≡ p = take-set (x ++ t) n 0x80 ∙ take_at x t n lx ∙ ex in
    sym (stripped (set (x ++ t) n 0x80) n (omega arith) (omega arith) (omega arith)
    (get_or-set_same (x ++ t) n 0x80 0 (omega (arith, length-append x t)))
    (λ k h.
    let ne : k ≢ n = omega arith in
    get_or-set_other (x ++ t) n k 0x80 0 ne ∙ get_or-append_right x t n k 0 lx (omega arith)
    ∙ get_or-drop n (replicate 16 0) (k - n) 0 ∙ get_or-zeros 16 (n + (k - n))))
    ∙ ap padded front
