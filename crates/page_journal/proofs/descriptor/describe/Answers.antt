use Rattle.std.proofs.Common.{◌≡◌, ◌≢◌, ◌⊎◌, inl, inr, ℕ, ◌+◌, ◌<◌, List, length, Some, slice_get, get_or, set, ap, ◌∙◌, sym, arith, get_or-set_other, get_or-set_same, length-set}
use Rattle.std.proofs.lemmas.Bool.{cases_eq}
use Rattle.std.proofs.lemmas.Option.{slice_get_within}
use Rattle.flash_core.specs.declared.page.Page.{Page}
use Rattle.page_journal.proofs.descriptor.describe.Goals as goal

home_more : (bytes : List ℕ) (index home : ℕ) (pages : List (ℕ × Page)) (x : Page) → index + 1 < length bytes → slice_get pages index ≡ Some (home, x)
    → ((i : ℕ) (entry : ℕ × Page) → i < index → slice_get pages i ≡ Some entry → get_or bytes (i + 1) 0 ≡ entry.0)
    → (i : ℕ) (entry : ℕ × Page) → i < index + 1 → slice_get pages i ≡ Some entry → get_or (set bytes (index + 1) home) (i + 1) 0 ≡ entry.0
home_more bytes index home pages x long is homes i entry lt there = by_place (cases_eq i index)
  where
    by_place : (i ≡ index) ⊎ (i ≢ index) → get_or (set bytes (index + 1) home) (i + 1) 0 ≡ entry.0
    by_place (inl same) =
        let e : Some (home, x) ≡ Some entry = sym is ∙ (ap (slice_get pages) (sym same) ∙ there) in
        let pair : (home, x) ≡ entry = cc e in
        ap (λ k. get_or (set bytes (index + 1) home) (k + 1) 0) same ∙ get_or-set_same bytes (index + 1) home 0 long ∙ ap (λ (o : ℕ × Page). o.0) pair
    by_place (inr other) = get_or-set_other bytes (index + 1) (i + 1) home 0 (λ same. other (omega (arith, same))) ∙ homes i entry (omega (arith, lt, other)) there

pub loop-index-preserved : goal.loop-index-preserved
loop-index-preserved c =
    let bytes = c.loop-index.bytes in
    let index = c.loop-index.index in
    let i = c.loop-index.invariant in
    record {
      long = length-set bytes (index + 1) c.at-home.result.0 ∙ i.long;
      count = get_or-set_other bytes (index + 1) 0 c.at-home.result.0 0 (λ same. omega (arith, same)) ∙ i.count;
      homes = home_more bytes index c.at-home.result.0 c.args.pool.now _ (omega (arith, i.long, c.loop-index-test.true, c.len-index-end.ensures.room)) c.at-home.ensures i.homes;
    }

pub returns : goal.returns
returns c = record {
  count = c.loop-index.invariant.count;
  homes = λ i entry is. c.loop-index.invariant.homes i entry (omega (arith, slice_get_within c.args.pool.now i entry is, c.loop-index-test.false, c.len-index-end.ensures.length)) is;
}
