use Rattle.std.proofs.Common.{◌≡◌, ◌<◌, ◌+◌, ◌/◌, ℕ, ◌∙◌, ap, get_or, length, length-set, subst, take, arith}
use Rattle.std.proofs.lemmas.Grind.{common_steps}
use Rattle.rec_store.proofs.Kept.{bytes_kept}
use Rattle.std.specs.Prelude.{All}
use Rattle.rec_store.specs.Bytes.{HasBytesAt}
use Rattle.page_journal.specs.Pages.{IsLoadPage}
use Rattle.rec_store.proofs.file_slot.LoadFileSlot.write_used.Goals as goal

pub write_pages-requires-clause-range : goal.write_pages-requires-clause-range
write_pages-requires-clause-range c =
    let file = c.args.self.now in
    let is : (file.len + 255) / 256 ≡ c.div_ceil.result = omega (arith, c.div_ceil.ensures, c.from.ensures) in
    subst (λ (n : ℕ). All IsLoadPage (take n file.pages)) is c.requires.roomy.pages

pub returns : goal.returns
returns c =
    let end = c.write_pages.new.slot in
    let aid = c.put_bytes.ensures in
    let size = c.put_u16.ensures in
    let n2 : length end ≡ length c.put_u16.new.slot = c.write_pages.auto.slot in
    let n1 : length c.put_u16.new.slot ≡ length c.put_bytes.new.slot = c.put_u16.auto.slot ∙ length-set _ _ _ in
    -- what each write leaves is kept by those after it
    let from_size : (i : ℕ) → i < 64 → get_or end i 0 ≡ get_or c.put_u16.new.slot i 0 = c.write_pages.ensures.below in
    let from_aid : (i : ℕ) → i < 18 → get_or end i 0 ≡ get_or c.put_bytes.new.slot i 0 = λ i lt. from_size i (omega (arith, lt)) ∙ size.below i (omega (arith, lt)) ∙ grind (arith, common_steps) in
    let written = size.put in
    let high = from_size 19 (omega arith) in
    let low = from_size 20 (omega arith) in
    record {
      mark = from_aid 0 (omega arith) ∙ aid.below 0 (omega arith) ∙ grind (arith, common_steps);
      aid = (c.as_bytes.ensures.length, subst (HasBytesAt end 1) c.as_bytes.ensures.bytes (bytes_kept c.put_bytes.new.slot end 1 18 c.as_bytes.result.now (n2 ∙ n1) (omega (arith, c.as_bytes.ensures.length.1, ap length c.as_bytes.ensures.bytes)) from_aid aid.put));
      domain = from_size 18 (omega arith) ∙ size.below 18 (omega arith) ∙ grind (arith, common_steps);
      size = omega arith;
      limit = c.requires.roomy.size;
      pages = λ i lt. c.write_pages.ensures.pages i (omega (arith, lt, c.div_ceil.ensures));
    }
