-- For the code inside. What reads of load pages do to records: nothing changes, and power lost at any moment leaves the registry.
use Rattle.std.specs.Prelude.{◌≡◌, ◌≤◌}
use Rattle.card_types.specs.Registry.{Registry}
use Rattle.flash_core.specs.declared.flash.Flash.{Ghosts as Flash}
use Rattle.page_journal.specs.Moments.{LeavesOnly}
use Rattle.rec_store.specs.Contents.{Contents}
use Rattle.rec_store.specs.Reopens.{KeepsRegistry, Reopens}

pub record IsLoadRead {F : Type 0} (device : Flash F) (old new : Contents F) : Type 0 where
  pub tables : new.tables ≡ old.tables
  pub staged : new.staged ≡ old.staged
  pub live : new.live ≡ old.live
  pub seen : device.tells → device.pages new.flash ≡ device.pages old.flash
  pub moments : device.tells → (registry : Registry) → KeepsRegistry device old.flash registry
      → LeavesOnly device old.flash new.flash (λ outcome. Reopens outcome registry)
  pub keeps : device.tells → (registry : Registry) → KeepsRegistry device old.flash registry → KeepsRegistry device new.flash registry
  pub later : device.faults old.flash ≤ device.faults new.flash
