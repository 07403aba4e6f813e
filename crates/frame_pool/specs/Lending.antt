-- For the code inside. How a pool ends that lent one of its pages.
use Rattle.std.specs.Prelude.{ℕ, List}
use Rattle.std.specs.Borrow.{Lends, MutBor, Fml}
use Rattle.flash_core.specs.declared.page.Page.{Page}
use Rattle.flash_core.specs.contracts.page.Page.{the_row as page_row}
use Rattle.frame_pool.specs.Staged.{with_page, with_bytes_at}
use Rattle.frame_pool.specs.contracts.pool.FramePool.{the_row}

-- the pool ends with the last bytes of the reference as its page with this number
abbrev pub LendsPage : MutBor (List (ℕ × Page)) → ℕ → MutBor Page → Fml
LendsPage pool number page = Lends the_row page_row pool page (with_page pool.now number)

-- the pool ends with the last bytes of the reference at this place
abbrev pub LendsAt : MutBor (List (ℕ × Page)) → ℕ → MutBor Page → Fml
LendsAt pool at page = Lends the_row page_row pool page (with_bytes_at pool.now at)
