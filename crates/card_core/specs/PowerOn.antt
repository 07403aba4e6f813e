-- Why a card is not powered on.
use Rattle.std.specs.Prelude.{◌≡◌}
use Rattle.faults.specs.Faults.{Rose}
use Rattle.flash_core.specs.declared.flash.Flash.{Ghosts as Flash}
use Rattle.rec_store.specs.Contents.{IsNoCard}
use Rattle.rec_store.specs.declared.open.OpenCause.{OpenCause}
use Rattle.rec_store.specs.declared.open.OpenCause.TheVariants as mounted
use Rattle.card_core.specs.declared.power.PowerCause.{PowerCause}
use Rattle.card_core.specs.declared.power.PowerCause.TheVariants.{Memory, FlashFailed, NotACard}

-- memory was wanted before any call on the device, it failed, or its pages are no card's
abbrev pub PowerFails : {F : Type 0} → Flash F → F → PowerCause → F → Type 0
PowerFails device old (Memory refused) new = new ≡ old
PowerFails device old FlashFailed new = Rose (device.faults old) (device.faults new)
PowerFails device old NotACard new = device.tells → IsNoCard device old new

-- the cause of a device that is not mounted, as that of a card
abbrev pub power_cause : OpenCause → PowerCause
power_cause (mounted.Memory refused) = Memory refused
power_cause mounted.FlashFailed = FlashFailed
power_cause mounted.NotACard = NotACard
