-- What is shown of a card, how a verb that shows it ends, and what it leaves.
use Rattle.std.specs.Prelude.{◌≡◌, ℕ, List, ◌++◌, None, Option, take}
use Rattle.std.specs.List.{flat_map}
use Rattle.access_matrix.specs.Rights.{AreNextRights, AreRights}
use Rattle.access_matrix.specs.Text.{line_of}
use Rattle.access_matrix.specs.declared.deed.Right.{Right}
use Rattle.card_types.specs.Registry.{Registry}
use Rattle.flash_core.specs.declared.flash.Flash.{Ghosts as Flash}
use Rattle.io_edge.specs.Streams.{SinkState}
use Rattle.page_journal.specs.Moments.{Always, LeavesOnly}
use Rattle.rec_store.specs.Reopens.{Reopens}
use Rattle.gp_tool.specs.Flush.{WritesText}
use Rattle.gp_tool.specs.Show.{registry_text}
use Rattle.line_runs.specs.declared.exit.Ending.{Ending}
use Rattle.line_runs.specs.declared.exit.Ending.TheVariants.{Finished, Failed}
use Rattle.gp_tool.specs.declared.view.View.{View}
use Rattle.gp_tool.specs.declared.view.View.TheVariants as view

-- the text is all that there is to show: the registry, or the lines of all rights in their order
abbrev pub IsWholeView : View → Registry → List ℕ → Type 0
IsWholeView view.Registry registry text = text ≡ registry_text registry
IsWholeView view.Rights registry text =
    (rights : List Right) × (end : Option Right) × AreNextRights registry None rights end × AreRights registry rights × (text ≡ flat_map (line_of registry) rights)

-- the text is all of that, or where it is longer than what is written, its front: the lines of rights one after the other from the first on
abbrev pub IsFront : View → Registry → List ℕ → Type 0
IsFront view.Registry registry text = text ≡ registry_text registry
IsFront view.Rights registry text =
    (rights : List Right) × (end : Option Right) × AreNextRights registry None rights end × (text ≡ flat_map (line_of registry) rights)

-- all was written, or a prefix of it
abbrev pub WritesWhole : View → Type 0 → Registry → SinkState → SinkState → Type 0
WritesWhole view told registry old new = (text : List ℕ) × IsWholeView view registry text × (told → new.written ≡ old.written ++ text)

abbrev pub WritesFront : View → Type 0 → Registry → SinkState → SinkState → Type 0
WritesFront view told registry old new =
    (text : List ℕ) × IsFront view registry text × (told → (count : ℕ) × (new.written ≡ old.written ++ take count text))

-- All was written, or a prefix of it where the device or the sink failed; `told` is a fact where both tell their content.
abbrev pub ShowEnds : View → Type 0 → Registry → Ending → SinkState → SinkState → Type 0
ShowEnds view told registry Finished old new = WritesWhole view told registry old new
ShowEnds view told registry Failed old new = WritesFront view told registry old new
ShowEnds view told registry ending old new = (text : List ℕ) × IsFront view registry text × WritesText told text ending old new

-- the device reopens as the registry, now and after power lost at any moment
pub record HasShown {F : Type 0} (device : Flash F) (old new : F) (registry : Registry) : Type 0 where
  pub now : device.tells → Reopens (device.pages new) registry
  pub left : device.tells → Always (device.may_leave new) (λ outcome. Reopens outcome registry)
  pub moments : device.tells → Always (device.may_leave old) (λ outcome. Reopens outcome registry) → LeavesOnly device old new (λ outcome. Reopens outcome registry)
