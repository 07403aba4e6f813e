-- Parts of a list between two places.
use Rattle.std.proofs.Common.{◌≡◌, ℕ, ◌+◌, ◌-◌, ◌≤◌, List, ◌++◌, length, take, drop, slice_range, sym, ap, ◌∙◌, arith, length-drop}
use Rattle.std.proofs.lemmas.List.{drop-drop, drop-take, length-take}
use Rattle.std.proofs.Math.Seq.{take-add}

-- without its first n elements the part begins n places later
pub drop-slice_range : (xs : List ℕ) (a b n : ℕ) → a + n ≤ b → drop n (slice_range xs a b) ≡ slice_range xs (a + n) b
drop-slice_range xs a b n within =
    let rest : b - a ≡ n + (b - (a + n)) = omega arith in
    ap (λ k. drop n (take k (drop a xs))) rest ∙ drop-take n (b - (a + n)) (drop a xs)
    ∙ ap (λ tail. take (b - (a + n)) tail) (drop-drop n a xs)

-- the part up to mid is that of the first mid elements
slice_range-front : (xs : List ℕ) (a mid : ℕ) → a ≤ mid → slice_range xs a mid ≡ drop a (take mid xs)
slice_range-front xs a mid low =
    let all : mid ≡ a + (mid - a) = omega arith in
    sym (ap (λ k. drop a (take k xs)) all ∙ drop-take a (mid - a) xs)

-- Where a list begins as another up to mid, its part up to mid + n is the other's part up to mid, and then n more.
pub slice_range-grown : (xs ys : List ℕ) (a mid n : ℕ) → a ≤ mid → take mid ys ≡ take mid xs
    → slice_range ys a (mid + n) ≡ slice_range xs a mid ++ take n (drop mid ys)
slice_range-grown xs ys a mid n low same =
    let span : mid + n - a ≡ (mid - a) + n = omega arith in
    let seam : a + (mid - a) ≡ mid = omega arith in
    let front : slice_range ys a mid ≡ slice_range xs a mid
    = slice_range-front ys a mid low ∙ ap (drop a) same ∙ sym (slice_range-front xs a mid low) in
    ap (λ k. take k (drop a ys)) span ∙ take-add (mid - a) n (drop a ys)
    ∙ ap (λ part. part ++ take n (drop (mid - a) (drop a ys))) front
    ∙ ap (λ tail. slice_range xs a mid ++ take n tail) (drop-drop (mid - a) a ys ∙ ap (λ k. drop k ys) seam)

-- Where a list begins as another up to mid, so does its part up to mid.
pub slice_range-same : (xs ys : List ℕ) (a mid : ℕ) → a ≤ mid → take mid ys ≡ take mid xs → slice_range ys a mid ≡ slice_range xs a mid
slice_range-same xs ys a mid low same =
    slice_range-front ys a mid low ∙ ap (drop a) same ∙ sym (slice_range-front xs a mid low)

pub length-slice_range : (xs : List ℕ) (a b : ℕ) → b ≤ length xs → length (slice_range xs a b) ≡ b - a
length-slice_range xs a b within = rw (length-take (b - a) (drop a xs), length-drop a xs) (omega arith)

pub ruleset ranges = (drop-slice_range, slice_range-grown, slice_range-same, length-slice_range)
