-- How each verb ends. `source`, `sink` and `device` are what contracts see of a source, a sink and a device.
use Rattle.std.specs.Prelude.{◌≡◌, ◌⊎◌, ℕ, ◌<◌, List, length}
use Rattle.std.specs.Str.Lines.{lines}
use Rattle.card_types.specs.Factory.{factory_registry}
use Rattle.card_types.specs.Registry.{Registry}
use Rattle.faults.specs.Faults.{Rose}
use Rattle.flash_core.specs.declared.flash.Flash.{Ghosts as Flash}
use Rattle.io_edge.specs.declared.line.TheConstants.{INPUT_LIMIT}
use Rattle.io_edge.specs.declared.sink.Sink.{Ghosts as Sink}
use Rattle.io_edge.specs.declared.source.Source.{Ghosts as Source}
use Rattle.policy_machine.specs.State.{State, powered_on}
use Rattle.rec_store.specs.Reopens.{Reopens}
use Rattle.line_runs.specs.Exit.{exit_status}
use Rattle.gp_tool.specs.Around.{Around, around}
use Rattle.gp_tool.specs.Device.{HasFailed, HasRun, HoldsCard, IsNotPowered}
use Rattle.gp_tool.specs.Ends.{EndCause, Ends, Flushes}
use Rattle.line_runs.specs.Outside.{outside}
use Rattle.gp_tool.specs.Formatted.{FormatEnds, IsFactoryCard, KeepsPastGate}
use Rattle.gp_tool.specs.LinesApart.{RunsApart}
use Rattle.gp_tool.specs.Mill.{IsNotMilled, MillEnds}
use Rattle.gp_tool.specs.RunsLines.{AreServable, start}
use Rattle.gp_tool.specs.Shown.{HasShown, ShowEnds}
use Rattle.line_runs.specs.declared.exit.Ending.{Ending}
use Rattle.gp_tool.specs.declared.workload.Workload.{Workload}
use Rattle.gp_tool.specs.declared.verb.Verb.{Verb}
use Rattle.gp_tool.specs.declared.verb.Verb.TheVariants.{Replay, Play}
use Rattle.gp_tool.specs.declared.view.View.{View}

-- The status is that of an ending, with its cause and its flush. `reads` counts the faults of a source; where nothing is read it is 0.
pub record HasEnded {S K F : Type 0} (sink : Sink K) (device : Flash F) (ending : Ending) (status : ℕ) (reads reads' : ℕ) (old new : Around S K F) : Type 0 where
  pub status_is : status ≡ exit_status ending
  pub cause : EndCause ending (around reads (sink.state old.sink).faults (device.faults old.flash)) (around reads' (sink.state new.sink).faults (device.faults new.flash))
  pub flushes : Flushes sink.tells ending (sink.state old.sink) (sink.state new.sink)

-- How a run from a first state ends that has processed so many commands. `Stands` holds of the state after it, unless the
-- device failed.
abbrev pub RunEnds : {S K F : Type 0} → Verb → Source S → Sink K → Flash F → (State → Type 0) → State → Ending → ℕ → Around S K F → Around S K F → Type 0
RunEnds verb source sink device Stands first ending count old new =
    Ends verb source.tells sink.tells (λ outcomes last. HasRun device old.flash new.flash first count outcomes last × Stands last) (HasFailed device old.flash new.flash first count) first ending
    (outside (source.state old.source) (sink.state old.sink)) (outside (source.state new.source) (sink.state new.sink))

-- A card was served from a first state, up to an ending. What came of the lines that it was given is a run of the policy machine, which
-- keeps the trees of the security domains that each of its commands spares.
pub record ServesCard {S K F : Type 0} (verb : Verb) (source : Source S) (sink : Sink K) (device : Flash F) (Stands : State → Type 0) (first : State) (status count : ℕ) (old new : Around S K F) : Type 0 where
  pub ending : Ending
  pub ended : HasEnded sink device ending status (source.state old.source).faults (source.state new.source).faults old new
  pub ends : RunEnds verb source sink device Stands first ending count old new
  pub apart : RunsApart first ends.course.effect.outcomes ends.course.last.state

-- The card was powered on with a registry, and served.
pub record RunsCard {S K F : Type 0} (verb : Verb) (source : Source S) (sink : Sink K) (device : Flash F) (status count : ℕ) (old new : Around S K F) : Type 0 where
  pub registry : Registry
  pub reopens : device.tells → Reopens (device.pages old.flash) registry
  pub serves : ServesCard verb source sink device (λ last. Unit {0}) (powered_on registry) status count old new

-- It was, or it was not powered on, and nothing is read or written.
abbrev pub EndsRun : {S K F : Type 0} → Verb → Source S → Sink K → Flash F → ℕ → ℕ → Around S K F → Around S K F → Type 0
EndsRun verb source sink device status count old new =
    (IsNotPowered device status count old.flash new.flash × (new.source ≡ old.source) × (new.sink ≡ old.sink)) ⊎ RunsCard verb source sink device status count old new

-- nothing has failed
pub record NoFault {S K F : Type 0} (source : Source S) (sink : Sink K) (device : Flash F) (old new : Around S K F) : Type 0 where
  pub reads : Rose (source.state old.source).faults (source.state new.source).faults → ⊥
  pub writes : Rose (sink.state old.sink).faults (sink.state new.sink).faults → ⊥
  pub flash : Rose (device.faults old.flash) (device.faults new.flash) → ⊥

-- from whatever state each line of an input has a form and is not too long, and the input is short enough
abbrev pub IsGoodInput : Verb → List ℕ → Type 0
IsGoodInput verb input = ((first : State) → AreServable verb 1 (lines input) (start verb first)) × (length input < INPUT_LIMIT)

-- the statuses of a verb where all is done
abbrev pub IsDoneStatus : Verb → ℕ → Type 0
IsDoneStatus Replay status = (status ≡ 0) ⊎ (status ≡ 8)
IsDoneStatus Play status = (status ≡ 0) ⊎ (status ≡ 8)
IsDoneStatus verb status = status ≡ 0

-- What is done where nothing can stop a run, but for want of memory.
abbrev pub Completes : {S K F : Type 0} → Verb → Source S → Sink K → Flash F → ℕ → Around S K F → Around S K F → Type 0
Completes verb source sink device status old new =
    source.tells → device.tells → HoldsCard device old.flash → IsGoodInput verb (source.state old.source).left → NoFault source sink device old new → IsDoneStatus verb status ⊎ (status ≡ 7)

-- No command is processed, and the device is the card as it leaves the factory unless it failed. Also then no page past the
-- gate has changed.
pub record EndsFormat {K F : Type 0} (sink : Sink K) (device : Flash F) (status count : ℕ) (old new : Around (Unit {0}) K F) : Type 0 where
  pub none : count ≡ 0
  pub ending : Ending
  pub ended : HasEnded sink device ending status 0 0 old new
  pub past_gate : KeepsPastGate device old.flash new.flash
  pub ends : FormatEnds device sink.tells ending new.flash (sink.state old.sink) (sink.state new.sink)

-- The card was powered on with a registry, which was shown, and the device keeps it.
pub record ShowsCard {K F : Type 0} (view : View) (sink : Sink K) (device : Flash F) (status : ℕ) (old new : Around (Unit {0}) K F) : Type 0 where
  pub registry : Registry
  pub reopens : device.tells → Reopens (device.pages old.flash) registry
  pub ending : Ending
  pub ended : HasEnded sink device ending status 0 0 old new
  pub ends : ShowEnds view (device.tells × sink.tells) registry ending (sink.state old.sink) (sink.state new.sink)
  pub shown : HasShown device old.flash new.flash registry

-- It was, or it was not powered on, and nothing is written. No command is processed.
abbrev pub EndsShow : {K F : Type 0} → View → Sink K → Flash F → ℕ → ℕ → Around (Unit {0}) K F → Around (Unit {0}) K F → Type 0
EndsShow view sink device status count old new =
    (count ≡ 0) × ((IsNotPowered device status count old.flash new.flash × (new.sink ≡ old.sink)) ⊎ ShowsCard view sink device status old new)

-- The device was made the factory card, which was powered on, and a workload was played on it, up to an ending.
pub record MillsCard {K F : Type 0} (work : Workload) (sink : Sink K) (device : Flash F) (status count : ℕ) (old new : Around (Unit {0}) K F) : Type 0 where
  pub made : F
  pub factory : IsFactoryCard device made
  pub registry : Registry
  pub same : device.tells → registry ≡ factory_registry
  pub ending : Ending
  pub ended : HasEnded sink device ending status 0 0 old new
  pub ends : MillEnds device sink.tells work made (powered_on registry) ending new.flash count (sink.state old.sink) (sink.state new.sink)

-- It was; or the card could not be made, as by `format`; or it was not powered on, and the sink is what it was.
abbrev pub EndsMill : {K F : Type 0} → Workload → Sink K → Flash F → ℕ → ℕ → Around (Unit {0}) K F → Around (Unit {0}) K F → Type 0
EndsMill work sink device status count old new =
    MillsCard work sink device status count old new
    ⊎ ((status ≡ 3) × EndsFormat sink device status count old new)
    ⊎ (IsNotMilled device status count old.flash new.flash × (new.sink ≡ old.sink))
