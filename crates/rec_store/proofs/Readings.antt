-- Runs of reads, one after the other.
use Rattle.std.proofs.Common.{ℕ, ◌≤◌, List, refl, ◌∙◌, arith}
use Rattle.flash_core.specs.declared.flash.Flash.{Ghosts as Flash}
use Rattle.flash_core.specs.declared.page.Page.{Page}
use Rattle.page_journal.specs.Moments.{Always, LeavesOnly}
use Rattle.page_journal.specs.Store.{Store}
use Rattle.rec_store.proofs.Leaving.{joined, unmoved}
use Rattle.rec_store.specs.Reading.{IsRead}

module _ {F : Type 0} (device : Flash F) where
  abbrev Reads : Store F → Store F → Type 0
  Reads old new = IsRead device old new

  pub none_read : (only : (f : F) (c : List Page) → device.tells → device.left_since f (device.moment f) c → device.may_leave f c) → (store : Store F) → Reads store store
  none_read only store = record {
    staged = refl;
    settled = refl;
    live = refl;
    seen = λ told. refl;
    loss = λ told c left. left;
    moments = λ told. unmoved device (device.may_leave store.flash) store.flash (device.may_leave store.flash) (λ c. only store.flash c told) (λ c possible. possible);
    later = omega arith;
  }

  pub reads_on : (old mid new : Store F) → Reads old mid → Reads mid new → Reads old new
  reads_on old mid new first second = record {
    staged = second.staged ∙ first.staged;
    settled = second.settled ∙ first.settled;
    live = second.live ∙ first.live;
    seen = λ told. second.seen told ∙ first.seen told;
    loss = λ told c left. first.loss told c (second.loss told c left);
    moments = λ told. joined device old.flash mid.flash new.flash (device.may_leave old.flash) (device.may_leave mid.flash) (first.moments told) (second.moments told) (first.loss told);
    later = omega (arith, first.later, second.later);
  }

  -- this moment is one of those
  pub now_left : (old new : F) (P : List Page → Type 0) → LeavesOnly device old new P → device.tells → ((f : F) (t : ℕ) (c : List Page) → device.tells → t ≤ device.moment f → device.may_leave f c → device.left_since f t c) → Always (device.may_leave new) P
  now_left old new P was told counts c possible = was.each c (counts new (device.moment old) c told was.later possible)
