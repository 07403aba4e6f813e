-- For the code inside. A run of reads of a store: nothing is written, and what is staged stays.
use Rattle.std.specs.Prelude.{◌≡◌, ◌≤◌}
use Rattle.flash_core.specs.declared.flash.Flash.{Ghosts as Flash}
use Rattle.flash_core.specs.Device.{NoneNew}
use Rattle.page_journal.specs.Moments.{LeavesOnly}
use Rattle.page_journal.specs.Store.{Store}

pub record IsRead {F : Type 0} (device : Flash F) (old new : Store F) : Type 0 where
  pub staged : new.staged ≡ old.staged
  pub settled : new.settled ≡ old.settled
  pub live : new.live ≡ old.live
  pub seen : device.tells → device.pages new.flash ≡ device.pages old.flash
  pub loss : device.tells → NoneNew (device.may_leave old.flash) (device.may_leave new.flash)
  pub moments : device.tells → LeavesOnly device old.flash new.flash (device.may_leave old.flash)
  pub later : device.faults old.flash ≤ device.faults new.flash
