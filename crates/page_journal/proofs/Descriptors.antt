-- Where a descriptor says that a page stands.
use Rattle.std.proofs.Common.{◌≡◌, ◌≢◌, ◌⊎◌, inl, inr, ℕ, zero, suc, ◌+◌, ◌<◌, ◌≤◌, List, get_or, refl, sym, ap, ◌∙◌, arith}
use Rattle.std.proofs.lemmas.Bool.{cases_eq}
use Rattle.std.proofs.lemmas.Bool.Decides.{nat_tests}
use Rattle.page_journal.specs.Journal.{place_from}
use Rattle.page_journal.proofs.PageKinds.{copy_page}

taken : (bytes : List ℕ) (copy left page : ℕ) → get_or bytes (copy + 1) 0 ≡ page → place_from bytes copy (suc left) page ≡ copy_page copy
taken bytes copy left page is = grind (arith, nat_tests)

passed : (bytes : List ℕ) (copy left page : ℕ) → get_or bytes (copy + 1) 0 ≢ page → place_from bytes copy (suc left) page ≡ place_from bytes (copy + 1) left page
passed bytes copy left page ne = grind (arith, nat_tests)

-- in the first copy that is named for it
pub place_found : (bytes : List ℕ) (copy left at page : ℕ) → copy ≤ at → at < copy + left → get_or bytes (at + 1) 0 ≡ page → ((k : ℕ) → copy ≤ k → k < at → get_or bytes (k + 1) 0 ≢ page)
    → place_from bytes copy left page ≡ copy_page at
place_found bytes copy zero at page le lt is none = absurd (omega arith)
place_found bytes copy (suc left) at page le lt is none = by_place (cases_eq copy at) (λ le lt none. place_found bytes (copy + 1) left at page le lt is none)
  where
    by_place : (copy ≡ at) ⊎ (copy ≢ at) → (copy + 1 ≤ at → at < (copy + 1) + left → ((k : ℕ) → copy + 1 ≤ k → k < at → get_or bytes (k + 1) 0 ≢ page) → place_from bytes (copy + 1) left page ≡ copy_page at) → place_from bytes copy (suc left) page ≡ copy_page at
    by_place (inl here) rest = taken bytes copy left page (ap (λ k. get_or bytes (k + 1) 0) here ∙ is) ∙ ap copy_page here
    by_place (inr other) rest = passed bytes copy left page (none copy (omega arith) (omega (arith, le, other))) ∙ rest (omega (arith, le, other)) (omega (arith, lt)) (λ k a b. none k (omega (arith, a)) b)

-- at home where none is
pub place_home : (bytes : List ℕ) (copy left page : ℕ) → ((k : ℕ) → copy ≤ k → k < copy + left → get_or bytes (k + 1) 0 ≢ page) → place_from bytes copy left page ≡ page
place_home bytes copy zero page none = refl
place_home bytes copy (suc left) page none = passed bytes copy left page (none copy (omega arith) (omega arith)) ∙ place_home bytes (copy + 1) left page (λ k a b. none k (omega (arith, a)) (omega (arith, b)))

-- where it is: in the first copy that is named for it, or at home
pub where_is : (bytes : List ℕ) (copy left page : ℕ)
    → ((at : ℕ) × (copy ≤ at) × (at < copy + left) × (get_or bytes (at + 1) 0 ≡ page) × (place_from bytes copy left page ≡ copy_page at)) ⊎ (((k : ℕ) → copy ≤ k → k < copy + left → get_or bytes (k + 1) 0 ≢ page) × (place_from bytes copy left page ≡ page))
where_is bytes copy zero page = inr ((λ k a b. absurd (omega (arith, a, b))), refl)
where_is bytes copy (suc left) page = by_head (cases_eq (get_or bytes (copy + 1) 0) page) (where_is bytes (copy + 1) left page)
  where
    all : get_or bytes (copy + 1) 0 ≢ page → ((k : ℕ) → copy + 1 ≤ k → k < (copy + 1) + left → get_or bytes (k + 1) 0 ≢ page) → (k : ℕ) → copy ≤ k → k < copy + suc left → (k ≡ copy) ⊎ (k ≢ copy) → get_or bytes (k + 1) 0 ≢ page
    all ne none k a b (inl same) is = ne (ap (λ n. get_or bytes (n + 1) 0) (sym same) ∙ is)
    all ne none k a b (inr other) is = none k (omega (arith, a, other)) (omega (arith, b)) is

    by_head : (get_or bytes (copy + 1) 0 ≡ page) ⊎ (get_or bytes (copy + 1) 0 ≢ page)
        → ((at : ℕ) × (copy + 1 ≤ at) × (at < (copy + 1) + left) × (get_or bytes (at + 1) 0 ≡ page) × (place_from bytes (copy + 1) left page ≡ copy_page at)) ⊎ (((k : ℕ) → copy + 1 ≤ k → k < (copy + 1) + left → get_or bytes (k + 1) 0 ≢ page) × (place_from bytes (copy + 1) left page ≡ page))
        → ((at : ℕ) × (copy ≤ at) × (at < copy + suc left) × (get_or bytes (at + 1) 0 ≡ page) × (place_from bytes copy (suc left) page ≡ copy_page at)) ⊎ (((k : ℕ) → copy ≤ k → k < copy + suc left → get_or bytes (k + 1) 0 ≢ page) × (place_from bytes copy (suc left) page ≡ page))
    by_head (inl is) tail = inl (copy, omega arith, omega arith, is, taken bytes copy left page is)
    by_head (inr ne) (inl f) = inl (f.0, omega (arith, f.1), omega (arith, f.2), f.3, passed bytes copy left page ne ∙ f.4)
    by_head (inr ne) (inr m) = inr ((λ k a b. all ne m.0 k a b (cases_eq k copy)), passed bytes copy left page ne ∙ m.1)
