use Rattle.std.proofs.Common.{◌≡◌, List, length, replicate, false, ap, ◌∙◌, sym, arith, Vec, vec_len, Global}
use Rattle.std.proofs.lemmas.List.{length-replicate}
use Rattle.flash_core.specs.declared.page.Page.{Page}
use Rattle.flash_core.proofs.Steps.{at_first}
use Rattle.flash_core.specs.Memory.{uniform_page}
use Rattle.flash_core.proofs.memory.MemFlash.new.Goals as goal
use Rattle.flash_core.specs.declared.page.TheConstants.{PAGES}

long : (pages : List Page) → pages ≡ replicate PAGES (uniform_page 0) → length pages ≡ PAGES
long pages is = ap length is ∙ length-replicate PAGES (uniform_page 0)

count : (v : Vec Page Global) → length v.items ≡ PAGES → vec_len v ≡ PAGES
count v is = omega (arith, v.ok.0, is)

pub invariant_of-result : goal.invariant_of-result
invariant_of-result c =
    let first = c.in_ok-zero_pages.ensures in
    let seen = c.in_ok-zero_pages-2.ensures in
    let kept = c.in_ok-zero_pages-3.ensures in
    let written = c.in_ok-from_elem.ensures.items_if_clones_equal (λ y same. same) in (
      long _ first,
      count c.in_ok-zero_pages-2.field-0 (long _ seen),
      count c.in_ok-zero_pages-3.field-0 (long _ kept),
      c.in_ok-from_elem.ensures.len,
      at_first _ _ _ _ _ (replicate PAGES (uniform_page 0)) first seen kept (written ∙ ap (λ n. replicate n false) (sym (length-replicate PAGES (uniform_page 0)))) c.in_ok-with_capacity.ensures.items,
      omega (arith, c.in_ok-with_capacity.ensures.len),
      omega (arith, c.in_ok-with_capacity.ensures.exact),
    )
