-- Lists that are the same, though they are put together from parts in two ways.
use Rattle.std.proofs.Common.{◌≡◌, ◌≤◌, ◌<◌, ◌-◌, ℕ, zero, suc, List, [], ◌∷◌, ◌++◌, length, take, drop, ap, refl, sym, ◌∙◌, arith}
use Rattle.std.specs.Prelude.{slice_get}
use Rattle.std.proofs.Math.Seq.{take-append_seam, drop-append_seam}
use Rattle.tokens_receipts.specs.Receipt.{with_length}

-- fronts of one length
pub same_fronts : {A : Type 0} (a b x y : List A) → length a ≡ length b → a ++ x ≡ b ++ y → (a ≡ b) × (x ≡ y)
same_fronts a b x y len is = (
  sym (take-append_seam a x) ∙ ap (take (length a)) is ∙ ap (λ (n : ℕ). take n (b ++ y)) len ∙ take-append_seam b y,
  sym (drop-append_seam a x) ∙ ap (drop (length a)) is ∙ ap (λ (n : ℕ). drop n (b ++ y)) len ∙ drop-append_seam b y,
)

-- fields after their length
pub same_fields : (a b x y : List ℕ) → with_length a ++ x ≡ with_length b ++ y → (a ≡ b) × (x ≡ y)
same_fields a b x y is =
    let len : length a ≡ length b = cc in
    let rest : a ++ x ≡ b ++ y = cc in
    same_fronts a b x y len rest

-- the element after a front
pub get_after : {A : Type 0} (xs ys : List A) (n : ℕ) → length xs ≡ n → slice_get (xs ++ ys) n ≡ slice_get ys 0
get_after [] ys n is = ap (slice_get ys) (sym is)
get_after (x ∷ xs) ys n is = ap (slice_get (x ∷ xs ++ ys)) (sym is) ∙ get_after xs ys (length xs) refl

-- an element of a front, and one after it
pub get_front : {A : Type 0} (xs ys : List A) (n : ℕ) → n < length xs → slice_get (xs ++ ys) n ≡ slice_get xs n
get_front [] ys n within = absurd (omega arith)
get_front (x ∷ xs) ys zero within = refl
get_front (x ∷ xs) ys (suc n) within = get_front xs ys n (omega arith)

pub get_back : {A : Type 0} (xs ys : List A) (n : ℕ) → length xs ≤ n → slice_get (xs ++ ys) n ≡ slice_get ys (n - length xs)
get_back [] ys n beyond = ap (slice_get ys) (omega arith)
get_back (x ∷ xs) ys zero beyond = absurd (omega arith)
get_back (x ∷ xs) ys (suc n) beyond = get_back xs ys n (omega arith) ∙ ap (slice_get ys) (omega arith)
