-- One page more is copied.
use Rattle.std.proofs.Common.{◌≡◌, ◌≢◌, ◌⊎◌, inl, inr, ℕ, ◌+◌, ◌<◌, List, Option, Some, slice_get, get_or, refl, sym, ap, ◌∙◌, subst, arith}
use Rattle.std.proofs.lemmas.Bool.{cases_eq}
use Rattle.flash_core.specs.declared.page.Page.{Page}
use Rattle.flash_core.specs.Device.{SameBut}
use Rattle.frame_pool.specs.Staged.{staged_at, AreDistinct}
use Rattle.frame_pool.proofs.Places.{found_staged}
use Rattle.page_journal.specs.Journal.{IsValid}
use Rattle.page_journal.specs.Phases.{CopiesOf, HomesOf, CopiesHome, IsInDescriptor, IsStaged}
use Rattle.page_journal.proofs.PageKinds.{copy_page}

abbrev Pages : Type 0
Pages = List (ℕ × Page)

same_entry : (x y : ℕ × Page) (o : Option (ℕ × Page)) → o ≡ Some x → o ≡ Some y → x ≡ y
same_entry x y o a b = let e : Some x ≡ Some y = sym a ∙ b in cc e

pub copies_more : (index n : ℕ) (pages : Pages) (x : Page) (old new : List Page) → CopiesOf index pages old → slice_get pages index ≡ Some (n, x) → SameBut (copy_page index) old new → slice_get new (copy_page index) ≡ Some x → CopiesOf (index + 1) pages new
copies_more index n pages x old new copies is torn written i entry lt there = by_place i entry lt there (cases_eq i index)
  where
    by_place : (i : ℕ) (entry : ℕ × Page) → i < index + 1 → slice_get pages i ≡ Some entry → (i ≡ index) ⊎ (i ≢ index) → slice_get new (copy_page i) ≡ Some entry.1
    by_place i entry lt there (inl same) =
        let e : entry ≡ (n, x) = same_entry entry (n, x) (slice_get pages index) (subst (λ k. slice_get pages k ≡ Some entry) same there) is in
        ap (λ k. slice_get new (copy_page k)) same ∙ written ∙ ap (λ (o : ℕ × Page). Some o.1) (sym e)
    by_place i entry lt there (inr other) = torn.others (copy_page i) (λ same. other (omega arith)) ∙ copies i entry (omega (arith, lt, other)) there

pub homes_more : (index n : ℕ) (pages : Pages) (x : Page) (old new : List Page) → AreDistinct pages → HomesOf index pages old → slice_get pages index ≡ Some (n, x) → SameBut n old new → slice_get new n ≡ Some x → HomesOf (index + 1) pages new
homes_more index n pages x old new distinct homes is torn written i entry lt there = by_place i entry lt there (cases_eq i index)
  where
    by_place : (i : ℕ) (entry : ℕ × Page) → i < index + 1 → slice_get pages i ≡ Some entry → (i ≡ index) ⊎ (i ≢ index) → slice_get new entry.0 ≡ Some entry.1
    by_place i entry lt there (inl same) =
        let e : entry ≡ (n, x) = same_entry entry (n, x) (slice_get pages index) (subst (λ k. slice_get pages k ≡ Some entry) same there) is in
        subst (λ (o : ℕ × Page). slice_get new o.0 ≡ Some o.1) (sym e) written
    by_place i entry lt there (inr other) = torn.others entry.0 (λ same. other (distinct i index entry (n, x) there is same)) ∙ homes i entry (omega (arith, lt, other)) there

-- an entry of distinct pages is staged under its number
pub entry_staged : (pages : Pages) (i : ℕ) (entry : ℕ × Page) → AreDistinct pages → slice_get pages i ≡ Some entry → staged_at pages entry.0 ≡ Some entry.1
entry_staged pages i entry distinct is = found_staged pages i entry.0 entry.1 is (λ k s lt there same. let e : k ≡ i = distinct k i s entry there is same in omega (arith, lt, e))

pub is_staged : (pages : Pages) (i n : ℕ) (x : Page) → AreDistinct pages → slice_get pages i ≡ Some (n, x) → (p : ℕ) → p ≡ n → IsStaged pages p
is_staged pages i n x distinct is p same = rw (ap (staged_at pages) same ∙ entry_staged pages i (n, x) distinct is) refl

pub named_more : (index : ℕ) (bytes : List ℕ) (x : Page) (start old new : List Page) → IsValid bytes → index < get_or bytes 0 0 → CopiesHome index bytes start old → slice_get start (copy_page index) ≡ Some x
    → SameBut (get_or bytes (index + 1) 0) old new → slice_get new (get_or bytes (index + 1) 0) ≡ Some x → CopiesHome (index + 1) bytes start new
named_more index bytes x start old new valid within homes is torn written i lt = by_place i lt (cases_eq i index)
  where
    by_place : (i : ℕ) → i < index + 1 → (i ≡ index) ⊎ (i ≢ index) → slice_get new (get_or bytes (i + 1) 0) ≡ slice_get start (copy_page i)
    by_place i lt (inl same) = ap (λ k. slice_get new (get_or bytes (k + 1) 0)) same ∙ written ∙ sym is ∙ ap (λ k. slice_get start (copy_page k)) (sym same)
    by_place i lt (inr other) = torn.others _ (valid.distinct i index (omega (arith, lt, other)) within) ∙ homes i (omega (arith, lt, other))

-- a copy is no home
pub copy_unnamed : (bytes : List ℕ) (i : ℕ) → IsValid bytes → IsInDescriptor bytes (copy_page i) → ⊥
copy_unnamed bytes i valid named = omega (arith, valid.homes named.0 named.1, named.2)
