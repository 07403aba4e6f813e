-- What comes of each task: how it ends, what is left where memory is wanting, and when all is done. `source`, `sink` and
-- `device` are what contracts see of a source, a sink and a device.
use Rattle.std.specs.Prelude.{◌≡◌, ◌≢◌, ◌⊎◌, ℕ, []}
use Rattle.cap_pack.specs.Input.{joining, within_cap_limit}
use Rattle.faults.specs.Faults.{Rose}
use Rattle.flash_core.specs.declared.flash.Flash.{Ghosts as Flash}
use Rattle.io_edge.specs.declared.sink.Sink.{Ghosts as Sink}
use Rattle.io_edge.specs.declared.source.Source.{Ghosts as Source}
use Rattle.line_runs.specs.Ends.{IsTakableInput}
use Rattle.line_runs.specs.Outside.{IfFaultless, Outside, outside}
use Rattle.receipt_desk.specs.Audit.{desk_taker, new_audit}
use Rattle.gp_tool.specs.Around.{Around, around}
use Rattle.gp_tool.specs.Cap.{CapEnds}
use Rattle.gp_tool.specs.Desk.{DeskEnds}
use Rattle.gp_tool.specs.Device.{HoldsCard}
use Rattle.gp_tool.specs.Formatted.{IsFactoryCard}
use Rattle.gp_tool.specs.Verbs.{Completes, EndsFormat, EndsMill, EndsRun, EndsShow}
use Rattle.gp_tool.specs.declared.task.Task.{Task}
use Rattle.gp_tool.specs.declared.task.Task.TheVariants.{Format, Mill, Serve, Show, Desk, Cap}

-- the task powers on the card that the device holds
abbrev pub NeedsCard : Task → Type 0
NeedsCard (Serve verb) = Unit {0}
NeedsCard (Show view) = Unit {0}
NeedsCard task = ⊥

module _ {S K F : Type 0} (source : Source S) (sink : Sink K) (device : Flash F) where
  -- what is around a card where nothing is read
  abbrev pub unread : Around S K F → Around (Unit {0}) K F
  unread at = around tt at.sink at.flash

  -- what is around lines that no card takes part in
  abbrev pub streams : Around S K F → Outside
  streams at = outside (source.state at.source) (sink.state at.sink)

  -- no call was made on the device, and no command was processed
  abbrev pub IsIdle : ℕ → Around S K F → Around S K F → Type 0
  IsIdle count old new = (new.flash ≡ old.flash) × (count ≡ 0)

  -- How a task ends, by its status and how many commands the card has answered. `run`, `why`, `replay` and `play` read the
  -- source; `desk` and `cap` too, and they have no card; the others read nothing. 7 is want of memory.
  abbrev pub TaskEnds : Task → ℕ → ℕ → Around S K F → Around S K F → Type 0
  TaskEnds (Serve verb) status count old new = status ≢ 7 → EndsRun verb source sink device status count old new
  TaskEnds Format status count old new = (new.source ≡ old.source) × EndsFormat sink device status count (unread old) (unread new)
  TaskEnds (Show view) status count old new = status ≢ 7 → (new.source ≡ old.source) × EndsShow view sink device status count (unread old) (unread new)
  TaskEnds (Mill work) status count old new = status ≢ 7 → (new.source ≡ old.source) × EndsMill work sink device status count (unread old) (unread new)
  TaskEnds Desk status count old new = IsIdle count old new × DeskEnds source.tells sink.tells status (streams old) (streams new)
  TaskEnds Cap status count old new = status ≢ 7 → IsIdle count old new × CapEnds source.tells sink.tells status (streams old) (streams new)

  -- the device where memory is wanting: the one given, and by `mill` the factory card
  abbrev pub LeavesDevice : Task → F → F → Type 0
  LeavesDevice (Mill work) old new = IsFactoryCard device new
  LeavesDevice task old new = new ≡ old

  -- Where memory for the card, or for a CAP file, is wanting, nothing is read or written, and no command is processed.
  abbrev pub LacksMemory : Task → ℕ → Around S K F → Around S K F → Type 0
  LacksMemory task count old new = (new.source ≡ old.source) × (new.sink ≡ old.sink) × (count ≡ 0) × LeavesDevice task old.flash new.flash

  -- a fact where the device tells its pages, and neither it nor the sink has failed on the way
  abbrev pub IfWritten : Around S K F → Around S K F → Type 0 → Type 0
  IfWritten old new fact =
      device.tells → (Rose (sink.state old.sink).faults (sink.state new.sink).faults → ⊥) → (Rose (device.faults old.flash) (device.faults new.flash) → ⊥) → fact

  -- Where a task's input is good, it has its card and nothing fails, all is done: 0, by `replay` and `play` also 8, by `desk`
  -- 10 and by `cap` 11. Or memory was wanting.
  abbrev pub TaskCompletes : Task → ℕ → Around S K F → Around S K F → Type 0
  TaskCompletes (Serve verb) status old new = Completes verb source sink device status old new
  TaskCompletes Format status old new = IfWritten old new (status ≡ 0)
  TaskCompletes (Show view) status old new = HoldsCard device old.flash → IfWritten old new ((status ≡ 0) ⊎ (status ≡ 7))
  TaskCompletes (Mill work) status old new = IfWritten old new ((status ≡ 0) ⊎ (status ≡ 7))
  TaskCompletes Desk status old new =
      source.tells → IsTakableInput desk_taker new_audit (source.state old.source).left → IfFaultless (streams old) (streams new) ((status ≡ 0) ⊎ (status ≡ 10))
  TaskCompletes Cap status old new =
      source.tells → IsTakableInput joining (within_cap_limit []) (source.state old.source).left
      → IfFaultless (streams old) (streams new) ((status ≡ 0) ⊎ (status ≡ 11) ⊎ (status ≡ 7))
