use Rattle.std.proofs.Common.{◌≡◌, ◌+◌, ◌*◌, slice_index, slice_set, below_more, arith}
use Rattle.std.proofs.lemmas.Grind.{common_steps}
use Rattle.rec_store.specs.FileSlot.{page_in}
use Rattle.page_journal.proofs.PageKinds.{load_page_at}
use Rattle.rec_store.proofs.file_slot.read_pages.Goals as goal

pub loop-i-preserved : goal.loop-i-preserved
loop-i-preserved c =
    let pages = slice_set c.loop-i.pages c.loop-i.i (load_page_at (256 * c.from.result) + c.from-in-loop-i.result) in (
      grind (arith, common_steps),
      below_more (λ k. slice_index pages k ≡ page_in c.args.slot.now k) c.loop-i.i (λ k lt. grind (arith, common_steps, c.loop-i.invariant.1 k)) (grind (arith, common_steps)),
    )
