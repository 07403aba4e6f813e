-- What power lost between two moments may leave.
use Rattle.std.proofs.Common.{inl, inr, ⊎_elim, List, ◌∙◌, arith}
use Rattle.flash_core.specs.Device.{NoneNew}
use Rattle.flash_core.specs.declared.flash.Flash.{Ghosts as Flash}
use Rattle.flash_core.specs.declared.page.Page.{Page}
use Rattle.page_journal.specs.Moments.{Always, LeavesOnly}
use Rattle.rec_store.specs.Contents.{IsUnwritten}

module _ {F : Type 0} (device : Flash F) where
  -- where no call was made, it leaves what it leaves now
  pub unmoved : (may_leave : List Page → Type 0) (flash : F) (P : List Page → Type 0) → ((c : List Page) → device.left_since flash (device.moment flash) c → may_leave c) → Always may_leave P
      → LeavesOnly device flash flash P
  unmoved may_leave flash P only always = record {
    later = omega arith;
    each = λ c left. always c (only c left);
    before = λ t c le left. inl left;
  }

  -- what power lost may leave since the first, with what it may leave since the second
  pub joined : (old mid new : F) (P Q : List Page → Type 0) → LeavesOnly device old mid P → LeavesOnly device mid new Q → ((c : List Page) → Q c → P c) → LeavesOnly device old new P
  joined old mid new P Q first second within = record {
    later = omega (arith, first.later, second.later);
    each = λ c left. ⊎_elim (first.each c) (within c) (second.before (device.moment old) c first.later left);
    before = λ t c le left. ⊎_elim (first.before t c le) (λ q. inr (within c q)) (second.before t c (omega (arith, le, first.later)) left);
  }

  -- less is said
  pub weaker : (old new : F) (P Q : List Page → Type 0) → LeavesOnly device old new P → ((c : List Page) → P c → Q c) → LeavesOnly device old new Q
  weaker old new P Q was step = record {
    later = was.later;
    each = λ c left. step c (was.each c left);
    before = λ t c le left. ⊎_elim (λ earlier. inl earlier) (λ p. inr (step c p)) (was.before t c le left);
  }

  -- nothing was written before, and nothing since
  pub unwritten_on : (old mid new : F) → IsUnwritten device old mid → NoneNew (device.may_leave old) (device.may_leave mid) → IsUnwritten device mid new → IsUnwritten device old new
  unwritten_on old mid new first none second = record {
    pages = second.pages ∙ first.pages;
    moments = joined old mid new (device.may_leave old) (device.may_leave mid) first.moments second.moments none;
  }
