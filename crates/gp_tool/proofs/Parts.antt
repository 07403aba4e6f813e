-- Text that is written part by part.
use Rattle.std.proofs.Common.{◌≡◌, ℕ, ◌+◌, ◌≤◌, List, ◌++◌, length, min, take, Result, Ok, Err, ap, sym, ◌∙◌, arith, append_assoc}
use Rattle.std.proofs.Math.Seq.{take-append-add}
use Rattle.std.proofs.lemmas.List.{take-append-le, take_min}
use Rattle.gp_tool.specs.Listing.{Writes}

-- what begins a text begins each longer one
pub part_of_longer : (text more : List ℕ) (n : ℕ) → (m : ℕ) × (take n text ≡ take m (text ++ more))
part_of_longer text more n =
    let within : min n (length text) ≤ length text = omega arith in
    (min n (length text), sym (take-append-le (min n (length text)) text more within ∙ take_min n text))

-- a text, and a part of what stands after it
pub part_after : (text more : List ℕ) (n : ℕ) → text ++ take n more ≡ take (length text + n) (text ++ more)
part_after text more n = sym (take-append-add text more n)

-- the part of a text that was written after another text
pub part_written : (old front text more mid new : List ℕ) → mid ≡ old ++ front → (n : ℕ) × (new ≡ mid ++ take n text)
    → (n : ℕ) × (new ≡ old ++ take n (front ++ (text ++ more)))
part_written old front text more mid new before part =
    let longer = part_of_longer text more part.0 in (
      length front + longer.0,
      part.1 ∙ ap (λ m. m ++ take part.0 text) before ∙ append_assoc old front (take part.0 text)
          ∙ ap (λ t. old ++ (front ++ t)) longer.1 ∙ ap (λ t. old ++ t) (part_after front (text ++ more) longer.0),
    )

-- a part of the first of two texts is one of both
pub part_of_both : (old front back new : List ℕ) → (n : ℕ) × (new ≡ old ++ take n front) → (n : ℕ) × (new ≡ old ++ take n (front ++ back))
part_of_both old front back new part =
    let longer = part_of_longer front back part.0 in
    (longer.0, part.1 ∙ ap (λ text. old ++ text) longer.1)

-- of two texts the first was written, and a part of the second
pub part_of_second : (old front back mid new : List ℕ) → mid ≡ old ++ front → (n : ℕ) × (new ≡ mid ++ take n back) → (n : ℕ) × (new ≡ old ++ take n (front ++ back))
part_of_second old front back mid new before part = (
  length front + part.0,
  part.1 ∙ ap (λ m. m ++ take part.0 back) before ∙ append_assoc old front (take part.0 back) ∙ ap (λ text. old ++ text) (part_after front back part.0),
)

-- two texts were written, or where the second call was refused, the first and a part of the second
pub then_writes : {T E : Type 0} (tells : Type 0) (old front back mid new : List ℕ) (result : Result T E) → (tells → mid ≡ old ++ front)
    → Writes tells mid new back result → Writes tells old new (front ++ back) result
then_writes tells old front back mid new (Ok done) before writes =
    λ told. writes told ∙ ap (λ m. m ++ back) (before told) ∙ append_assoc old front back
then_writes tells old front back mid new (Err refused) before writes = λ told. part_of_second old front back mid new (before told) (writes told)
