use Rattle.std.proofs.Common.{◌++◌, ap, sym, ◌∙◌, arith}
use Rattle.std.proofs.lemmas.Grind.{common_steps}
use Rattle.flash_core.specs.Memory.{medium}
use Rattle.case_cards.proofs.Splices.{next_page}
use Rattle.case_cards.proofs.image.Image.of.Goals as goal

pub loop-page-preserved : goal.loop-page-preserved
loop-page-preserved c =
    let was = c.loop-page.invariant in
    let page = c.page.result.now in
    let items = c.in_ok-extend_from_slice.ensures.items in
    record {
      read = items ∙ ap (λ l. l ++ page.bytes) was.read ∙ sym (next_page (medium c.args.flash.now).seen c.loop-page.page page c.page.ensures);
      len = grind (arith, common_steps, was.len, items, c.page.type_inv);
    }
