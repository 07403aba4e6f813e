-- The laws of runs over lines.
use Rattle.std.specs.Prelude.{◌≡◌, ◌++◌, ℕ, List}
use Rattle.card_types.specs.Registry.{Registry}
use Rattle.flash_core.specs.declared.flash.Flash.{Ghosts as Flash}
use Rattle.io_edge.specs.declared.sink.Sink.{Ghosts as Sink}
use Rattle.policy_machine.specs.State.{State}
use Rattle.rec_store.specs.Reopens.{KeepsRegistry}
use Rattle.gp_tool.specs.Around.{Around}
use Rattle.gp_tool.specs.Effects.{LineEffect, LinePlace}
use Rattle.gp_tool.specs.Ends.{Ends}
use Rattle.line_runs.specs.Outside.{Outside}
use Rattle.gp_tool.specs.RunsLines.{Memory, RunsLines, start}
use Rattle.gp_tool.specs.Verbs.{MillsCard}
use Rattle.line_runs.specs.declared.exit.Ending.{Ending}
use Rattle.line_runs.specs.declared.exit.Ending.TheVariants.{Failed, ReadFault, WriteFault}
use Rattle.gp_tool.specs.declared.verb.Verb.{Verb}
use Rattle.gp_tool.specs.declared.workload.Workload.{Workload}

-- what the same lines from one state have in common
abbrev pub OfLines : (LineEffect → State → LineEffect → State → Type 0) → Type 0
OfLines holds =
    (verb : Verb) (first : State) (lines : List (List ℕ)) (effect other : LineEffect) (last another : LinePlace (Memory verb))
    → RunsLines verb 1 lines (start verb first) effect last → RunsLines verb 1 lines (start verb first) other another → holds effect last.state other another.state

-- The same lines from one state write one text.
abbrev pub OneText : Type 0
OneText = OfLines (λ effect last other another. effect.texts ≡ other.texts)

-- The same lines from one state lead to one state.
abbrev pub OneLast : Type 0
OneLast = OfLines (λ effect last other another. last ≡ another)

-- nothing was refused by source, sink or device
abbrev pub IsFaultless : Ending → Type 0
IsFaultless Failed = ⊥
IsFaultless ReadFault = ⊥
IsFaultless WriteFault = ⊥
IsFaultless ending = Unit {0}

-- what holds at the ending of a run over bytes that are told, whatever is said of the device
abbrev pub EndsTold : Verb → State → Ending → Outside → Outside → Type 0
EndsTold verb first ending old new = Ends verb (Unit {0}) (Unit {0}) (λ outcomes last. Unit {0}) (λ outcomes last next. Unit {0}) first ending old new

-- what two runs from one state over the same bytes, without faults, have in common
abbrev pub OfRuns : (Ending → Outside → Ending → Outside → Type 0) → Type 0
OfRuns holds =
    (verb : Verb) (first : State) (ending another : Ending) (old new other : Outside) → IsFaultless ending → IsFaultless another
    → EndsTold verb first ending old new → EndsTold verb first another old other → holds ending new another other

-- Two runs without faults from one state over the same bytes end alike.
abbrev pub OneEnding : Type 0
OneEnding = OfRuns (λ ending new another other. ending ≡ another)

-- Two runs without faults from one state over the same bytes have written the same.
abbrev pub OneWritten : Type 0
OneWritten = OfRuns (λ ending new another other. new.sink.written ≡ other.sink.written)

-- A call has written a text, and left a registry.
pub record HasLeft {K F : Type 0} (sink : Sink K) (device : Flash F) (text : List ℕ) (registry : Registry) (old new : Around (Unit {0}) K F) : Type 0 where
  pub written : (sink.state new.sink).written ≡ (sink.state old.sink).written ++ text
  pub keeps : KeepsRegistry device new.flash registry

-- wherever one workload was played to its end, it wrote one text and left one registry, by as many commands
abbrev pub OneMill : {K F : Type 0} → Sink K → Flash F → Type 0
OneMill {K} {F} sink device =
    (work : Workload) (count counted : ℕ) (old new before after : Around (Unit {0}) K F) → sink.tells → device.tells
    → MillsCard work sink device 0 count old new → MillsCard work sink device 0 counted before after
    → (text : List ℕ) × (registry : Registry) × HasLeft sink device text registry old new × HasLeft sink device text registry before after × (count ≡ counted)
