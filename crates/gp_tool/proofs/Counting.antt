-- Counts of commands.
use Rattle.std.proofs.Common.{◌≡◌, ℕ, ◌+◌, ◌^◌, ◌<◌, List, ◌++◌, length, ap, sym, ◌∙◌, arith, length-append}
use Rattle.gp_tool.specs.Counted.{CountsOn, bounded_count}

-- none more
pub few_none : (count count' : ℕ) → count' ≡ count → CountsOn count count' 0
few_none count count' same n is = omega (arith, same, is)

-- one more
pub few_more : (count count' : ℕ) → count' ≡ bounded_count (count + 1) → CountsOn count count' 1
few_more count count' more n is = omega (arith, more, is)

-- some, and some more
pub count_further : {A : Type 0} (count mid count' : ℕ) (some more : List A) → CountsOn count mid (length some) → CountsOn mid count' (length more)
    → CountsOn count count' (length (some ++ more))
count_further count mid count' some more first then n is =
    let further = then (n + length some) (first n is) in
    let all = length-append some more in
    let sum : (n + length some) + length more ≡ n + length (some ++ more) = omega (arith, all) in
    further ∙ ap bounded_count sum

-- a count from the first command on
pub count_more : {A : Type 0} (count count' : ℕ) (some more : List A) → count ≡ bounded_count (length some) → CountsOn count count' (length more)
    → count' ≡ bounded_count (length (some ++ more))
count_more count count' some more is then = then (length some) is ∙ ap bounded_count (sym (length-append some more))

-- a count that has not come to its end is exact
pub exactly : (count n : ℕ) → count ≡ bounded_count n → n < 2 ^ 32 → count ≡ n
exactly count n is small = omega (arith, is, small)
