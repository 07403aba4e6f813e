use Rattle.std.specs.Prelude.{All}
use Rattle.std.proofs.Common.{◌≡◌, ◌≢◌, ⊎_elim, ◌+◌, ◌-◌, ◌/◌, ◌%◌, ◌^◌, ◌<◌, ◌≤◌, ℕ, List, length, get_or, slice_index, slice_set, take, subst, ap, ◌∙◌, below_more, arith}
use Rattle.std.proofs.lemmas.Bool.{cases_eq}
use Rattle.std.proofs.lemmas.Grind.{common_steps}
use Rattle.std.proofs.lemmas.List.Elements.{All-get_or}
use Rattle.page_journal.specs.Pages.{IsLoadPage}
use Rattle.page_journal.proofs.PageKinds.{place_among}
use Rattle.rec_store.proofs.file_slot.write_pages.Goals as goal

ranged : (pages : List ℕ) (count i : ℕ) → i < count → count ≤ length pages → All IsLoadPage (take count pages) → IsLoadPage (get_or pages i 0)
ranged pages count i lt few all =
    let first : get_or (take count pages) i 0 ≡ get_or pages i 0 = grind (arith, common_steps) in
    subst IsLoadPage first (All-get_or IsLoadPage (take count pages) i 0 (grind (arith, common_steps)) all)

pub loop-i-preserved : goal.loop-i-preserved
loop-i-preserved c =
    let was = c.loop-i.invariant in
    record {
      low = below_more _ _ (λ k lt. grind (arith, common_steps, was.low k)) (grind (arith, common_steps));
      below = λ k lt. grind (arith, common_steps, was.below k);
    }

pub loop-byte-preserved : goal.loop-byte-preserved
loop-byte-preserved c =
    let was = c.loop-byte.invariant in
    record {
      high = λ k lt in_map.
          let set = slice_set c.loop-byte.slot (192 + c.loop-byte.byte) c.ninth_bits.result in
          let first : slice_index (take c.args.count c.args.pages.now) k ≡ slice_index c.args.pages.now k = grind (arith, common_steps) in
          let same : k / 8 ≡ c.loop-byte.byte → slice_index set (192 + k / 8) ≡ c.ninth_bits.result = λ at. grind (arith, common_steps) in
          let other : k / 8 ≢ c.loop-byte.byte → slice_index set (192 + k / 8) ≡ slice_index c.loop-byte.slot (192 + k / 8) = λ at. grind (arith, common_steps) in
          ⊎_elim
          (λ (at : k / 8 ≡ c.loop-byte.byte). ap (λ (n : ℕ). n / 2 ^ (7 - k % 8) % 2) (same at) ∙ c.ninth_bits.ensures k (grind (arith, common_steps)) at (omega (arith, first, (ranged c.args.pages.now c.args.count k lt (omega arith) c.requires.range).1)) ∙ ap (λ (n : ℕ). place_among n / 256) first)
          (λ (at : k / 8 ≢ c.loop-byte.byte). ap (λ (n : ℕ). n / 2 ^ (7 - k % 8) % 2) (other at) ∙ was.high k lt (omega (arith, in_map, at)))
          (cases_eq (k / 8) c.loop-byte.byte);
      low = λ k lt. grind (arith, common_steps, was.low k);
      below = λ k lt. grind (arith, common_steps, was.below k);
    }

pub returns-clause-pages : goal.returns-clause-pages
returns-clause-pages c i lt =
    let was = c.loop-byte.invariant in
    let high = was.high i lt (omega (arith, lt)) in
    let low = was.low i lt in
    let range = ranged c.args.pages.now c.args.count i lt (omega arith) c.requires.range in
    omega arith
