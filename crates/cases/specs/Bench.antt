-- For the code inside. What the lines of a case have made of its device and of what its card is given.
use Rattle.std.specs.Prelude.{◌≡◌, ℕ, ◌*◌, ◌-◌, ◌^◌, List, [], None, replicate, take}
use Rattle.flash_core.specs.Memory.{medium}
use Rattle.flash_core.specs.declared.page.TheConstants.{PAGES}
use Rattle.case_cards.specs.Image.{bytes_of_pages}
use Rattle.case_cards.specs.Layout.{Laid, Lays, nothing_in}
use Rattle.cases.specs.declared.bench.Bench.{Bench}
use Rattle.cases.specs.declared.bench.Power.{Power}
use Rattle.cases.specs.declared.bench.Power.TheVariants as power

-- nothing was done: the device has zeros, and nothing fails
pub record IsNew (bench : Bench) : Type 0 where
  pub power : bench.power ≡ power.Blank
  pub kept : bench.kept ≡ None
  pub once : bench.faults.once ≡ 2 ^ 64 - 1
  pub fuse : bench.faults.fuse ≡ 2 ^ 64 - 1
  pub input : bench.input.items ≡ []
  pub script : bench.script.items ≡ []
  pub changes : bench.changes.items ≡ []
  pub called : bench.called ≡ None

-- the pages of a device, and what was laid out in them; of a device with a card that is on, any pages
abbrev pub IsLaidOut : Power → Laid → Type 0
IsLaidOut power.Blank laid = laid ≡ nothing_in (replicate (PAGES * 256) 0)
IsLaidOut (power.Laid layout) laid = laid ≡ layout
IsLaidOut (power.Off flash) laid = laid ≡ nothing_in (bytes_of_pages (take PAGES (medium flash).seen))
IsLaidOut (power.On player) laid = laid ≡ nothing_in laid.image

-- a thing is laid out in the pages of the device
pub record LaysIn (kind line : List ℕ) (old new : Power) : Type 0 where
  pub before : Laid
  pub after : Laid
  pub pages : IsLaidOut old before
  pub lays : Lays kind line before after
  pub laid : new ≡ power.Laid after
