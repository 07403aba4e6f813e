-- For the code inside. What frames hold.
use Rattle.std.specs.Prelude.{◌≡◌, ℕ, ◌+◌, List, Some, map, slice_get}
use Rattle.flash_core.specs.declared.page.Page.{Page}
use Rattle.frame_pool.specs.declared.pool.Frame.{Frame}

-- the number and the bytes of each
abbrev pub entries : List Frame → List (ℕ × Page)
entries frames = map (λ f. (f.number, f.page)) frames

-- each frame is linked to the next one
abbrev pub AreLinked : List Frame → Type 0
AreLinked frames = (i : ℕ) (frame : Frame) → slice_get frames i ≡ Some frame → frame.next ≡ i + 1
