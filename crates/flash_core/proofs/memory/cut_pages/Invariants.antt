use Rattle.std.proofs.Common.{◌≡◌, ◌<◌, ◌≤◌, ℕ, Bool, Some, slice_get}
use Rattle.flash_core.specs.declared.page.Page.{Page}
use Rattle.flash_core.specs.Memory.{cut_page}
use Rattle.flash_core.proofs.memory.cut_pages.Given as goal

-- the pages so far are cut, and the others are as they were
abbrev pub invariant-loop-page : goal.invariant-loop-page
invariant-loop-page l = record {
  done : (page : ℕ) (seen kept : Page) (written : Bool) → page < l.page → slice_get l.fn.seen page ≡ Some seen → slice_get l.kept page ≡ Some kept → slice_get l.written page ≡ Some written
      → slice_get l.seen page ≡ Some (cut_page l.seed page seen kept written);
  rest : (page : ℕ) → l.page ≤ page → slice_get l.seen page ≡ slice_get l.fn.seen page;
}
