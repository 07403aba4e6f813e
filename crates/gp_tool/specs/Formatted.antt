-- How the verb `format` ends, and what it leaves.
use Rattle.std.specs.Prelude.{◌≡◌, ◌<◌, ℕ, slice_get}
use Rattle.card_types.specs.Factory.{factory_registry}
use Rattle.faults.specs.Faults.{next_count}
use Rattle.flash_core.specs.declared.flash.Flash.{Ghosts as Flash}
use Rattle.io_edge.specs.Streams.{SinkState}
use Rattle.page_journal.specs.declared.pages.TheConstants.{GATE}
use Rattle.rec_store.specs.Reopens.{KeepsRegistry}
use Rattle.line_runs.specs.declared.exit.Ending.{Ending}
use Rattle.line_runs.specs.declared.exit.Ending.TheVariants.{Finished, Failed, WriteFault}

-- power lost leaves the card as it leaves the factory
abbrev pub IsFactoryCard : {F : Type 0} → Flash F → F → Type 0
IsFactoryCard device flash = device.tells → KeepsRegistry device flash factory_registry

-- the pages past the gate are what they were: those of the journal past its gate, and the load pages
abbrev pub KeepsPastGate : {F : Type 0} → Flash F → F → F → Type 0
KeepsPastGate device old new = device.tells → (page : ℕ) → GATE < page → slice_get (device.pages new) page ≡ slice_get (device.pages old) page

-- nothing is written, and the device is the factory card unless it failed
abbrev pub FormatEnds : {F : Type 0} → Flash F → Type 0 → Ending → F → SinkState → SinkState → Type 0
FormatEnds device writes Finished flash old new = IsFactoryCard device flash × (writes → new.written ≡ old.written)
FormatEnds device writes Failed flash old new = writes → new.written ≡ old.written
FormatEnds device writes WriteFault flash old new = IsFactoryCard device flash × (writes → new.written ≡ old.written) × (new.flushes ≡ next_count old.flushes)
FormatEnds device writes ending flash old new = ⊥
