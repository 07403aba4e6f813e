-- How the playing of a script ends, and what has been read and written then. This profile's own.
use Rattle.std.specs.Prelude.{◌≡◌, ◌⊎◌, ℕ, ◌+◌, ◌<◌, ◌≤◌, Bool, true, false, List, [], ◌∷◌, ◌++◌, length}
use Rattle.std.specs.List.{AllByRecursion}
use Rattle.std.specs.Str.Lines.{lines}
use Rattle.faults.specs.Faults.{Rose, next_count}
use Rattle.io_edge.specs.Lines.{IsNextLine, Reading}
use Rattle.io_edge.specs.Streams.{SinkState, SourceState}
use Rattle.io_edge.specs.declared.line.TheConstants.{INPUT_LIMIT, LINE_LIMIT}
use Rattle.io_edge.specs.declared.sink.Sink.{Ghosts as Sink}
use Rattle.io_edge.specs.declared.source.Source.{Ghosts as Source}
use Rattle.line_runs.specs.Outside.{CutsText, Outside, Wrote, bad_line, outside}
use Rattle.line_runs.specs.Taken.{AreAllTaken, ComeFirst, HoldsNoLine, IsBadLine, IsShortCut, TakesNoMore, room_ahead}
use Rattle.script_tool.specs.Host.{Host, first_host}
use Rattle.script_tool.specs.HostLines.{HostAsks, HostPlays, HostPlaysAll}
use Rattle.script_tool.specs.Talk.{Event}
use Rattle.script_tool.specs.Workload.{SaysSome}
use Rattle.line_runs.specs.Exit.{exit_status}
use Rattle.host_tool.specs.Conveyed.{CutShort, Exchanged, InVain, Sides}
use Rattle.host_tool.specs.Exchange.{command_line, sent_by}
use Rattle.host_tool.specs.Fault.{fault_text}
use Rattle.host_tool.specs.Link.{sides, unread}
use Rattle.line_runs.specs.declared.exit.Ending.{Ending}
use Rattle.line_runs.specs.declared.exit.Ending.TheVariants.{Finished, Differs, BadLine, Failed, ReadFault, WriteFault, InputTooLong}
use Rattle.host_tool.specs.declared.fault.LinkFault.{LinkFault}

-- the four streams
pub record Streams : Type 0 where
  pub script : SourceState
  pub replies : SourceState
  pub commands : SinkState
  pub transcript : SinkState

abbrev pub flow : SourceState → SourceState → SinkState → SinkState → Streams
flow script replies commands transcript = record { script = script; replies = replies; commands = commands; transcript = transcript }

-- which of them tell their bytes: a fact where one does, and `⊥` where it doesn't
pub record Tells : Type 1 where
  pub script : Type 0
  pub replies : Type 0
  pub commands : Type 0
  pub transcript : Type 0

abbrev pub tells_of : Type 0 → Type 0 → Type 0 → Type 0 → Tells
tells_of script replies commands transcript = record { script = script; replies = replies; commands = commands; transcript = transcript }

-- the sources and sinks themselves
pub record Ports (C S K T : Type 0) : Type 0 where
  pub script : C
  pub replies : S
  pub commands : K
  pub transcript : T

abbrev pub ports : {C S K T : Type 0} → C → S → K → T → Ports C S K T
ports script replies commands transcript = record { script = script; replies = replies; commands = commands; transcript = transcript }

-- `So` holds of what these sources and sinks tell, and of their streams before and after
abbrev pub ForStreams : {C S K T : Type 0} → Source C → Source S → Sink K → Sink T → (Tells → Streams → Streams → Type 0) → Ports C S K T → Ports C S K T → Type 0
ForStreams script replies commands transcript So old new =
    So (tells_of script.tells replies.tells commands.tells transcript.tells)
    (flow (script.state old.script) (replies.state old.replies) (commands.state old.commands) (transcript.state old.transcript))
    (flow (script.state new.script) (replies.state new.replies) (commands.state new.commands) (transcript.state new.transcript))

-- the script and the transcript
abbrev pub script_side : Streams → Outside
script_side s = outside s.script s.transcript

-- the link at first
abbrev pub before : Streams → Sides
before s = sides s.replies unread s.commands

abbrev pub after_reading : Streams → Reading → Sides
after_reading s reading = sides s.replies reading s.commands

-- The course up to the end: the lines that were played, each of a form and not too long, the events that went over the link, what was
-- printed, the host after them, and what stands ahead of the next line.
pub record HostCourse (reads : Type 0) (input left : List ℕ) : Type 0 where
  pub given : List (List ℕ)
  pub events : List Event
  pub texts : List (List ℕ)
  pub differs : Bool
  pub host : Host
  pub ahead : List ℕ
  pub fits : AllByRecursion (λ line. length line ≤ LINE_LIMIT) given
  pub plays : HostPlaysAll given first_host events texts differs host
  pub reached : reads → ComeFirst INPUT_LIMIT input given ahead
  pub taken : reads → TakesNoMore (length input) ahead left

-- the next line of the script
pub record Next (reads : Type 0) (input ahead line : List ℕ) : Type 0 where
  pub next : reads → (after : List ℕ) × IsNextLine (room_ahead input ahead) ahead line after
  pub fits : length line ≤ LINE_LIMIT

module _ (tells : Tells) (old new : Streams) (course : HostCourse tells.script old.script.left new.script.left) where
  -- the events of the course went over the link, and no others
  abbrev pub HasExchanged : Type 0
  HasExchanged = (reading : Reading) × Exchanged tells.replies tells.commands (before old) (after_reading new reading) course.events

  -- the texts were written, and this after them
  abbrev pub WroteWith : List (List ℕ) → Type 0
  WroteWith more = Wrote tells.transcript (course.texts ++ more) (script_side old) (script_side new)

  -- The next line sends a command after some events, and no reply came to it.
  pub record HasAsked : Type 0 where
    pub line : List ℕ
    pub next : Next tells.script old.script.left course.ahead line
    pub begun : List Event
    pub command : List ℕ
    pub asks : HostAsks line course.host begun command
    pub reading : Reading
    pub fault : LinkFault
    pub vain : InVain tells.replies tells.commands (before old) (after_reading new reading) (course.events ++ begun) command fault

  -- what the next line sends: some events and a command, or events alone
  abbrev pub SendsLine : List ℕ → List ℕ → Type 0
  SendsLine line bytes =
      ((begun : List Event) × (command : List ℕ) × HostAsks line course.host begun command × (bytes ≡ sent_by (course.events ++ begun) ++ command_line command))
      ⊎ ((begun : List Event) × (text : List ℕ) × (differs : Bool) × (host : Host) × HostPlays line course.host begun text differs host × (bytes ≡ sent_by (course.events ++ begun)))

  -- A write or a flush of what the next line sends was refused.
  pub record HasCutCommands : Type 0 where
    pub line : List ℕ
    pub next : Next tells.script old.script.left course.ahead line
    pub bytes : List ℕ
    pub sends : SendsLine line bytes
    pub reading : Reading
    pub cut : CutShort tells.commands (before old) (after_reading new reading) bytes

  -- the next line is malformed, or too long
  abbrev pub IsBad : Type 0
  IsBad = tells.script → IsBadLine SaysSome (room_ahead old.script.left course.ahead) course.ahead

  -- What holds at each ending but a refused write.
  abbrev pub HasEnded : Ending → Type 0
  HasEnded Finished = (course.differs ≡ false) × (tells.script → AreAllTaken old.script.left course.given course.ahead) × HasExchanged × WroteWith []
  HasEnded Differs = (course.differs ≡ true) × (tells.script → AreAllTaken old.script.left course.given course.ahead) × HasExchanged × WroteWith []
  HasEnded BadLine = IsBad × HasExchanged × WroteWith (bad_line (length course.given + 1) ∷ [])
  HasEnded Failed = (asked : HasAsked) × WroteWith (fault_text asked.fault ∷ [])
  HasEnded ReadFault = (tells.script → HoldsNoLine course.ahead new.script.left) × HasExchanged × WroteWith []
  HasEnded InputTooLong = (tells.script → IsShortCut (room_ahead old.script.left course.ahead) course.ahead) × HasExchanged × WroteWith []
  HasEnded WriteFault = ⊥

  -- a text of the transcript was refused: that of the last line, that of a bad one, or that of one without an answer
  abbrev pub HasCutText : Type 0
  HasCutText =
      (HasExchanged × (earlier : List (List ℕ)) × (text : List ℕ) × (course.texts ≡ earlier ++ text ∷ []) × CutsText tells.transcript earlier text (script_side old) (script_side new))
      ⊎ (IsBad × HasExchanged × CutsText tells.transcript course.texts (bad_line (length course.given + 1)) (script_side old) (script_side new))
      ⊎ ((asked : HasAsked) × CutsText tells.transcript course.texts (fault_text asked.fault) (script_side old) (script_side new))

  -- What holds at each ending. At a refused write a command or a text was cut, or all was written and the flush of the transcript was refused.
  abbrev pub HostEndsAt : Ending → Type 0
  HostEndsAt WriteFault =
      (HasCutCommands × WroteWith []) ⊎ HasCutText
      ⊎ ((other : Ending) × HasEnded other × (new.transcript.flushes ≡ next_count old.transcript.flushes))
  HostEndsAt ending = HasEnded ending × (new.transcript.flushes ≡ next_count old.transcript.flushes) × (tells.transcript → new.transcript.handed_on ≡ new.transcript.written)

-- whose count of faults has risen
abbrev pub HostCause : Ending → Streams → Streams → Type 0
HostCause WriteFault old new = Rose old.commands.faults new.commands.faults ⊎ Rose old.transcript.faults new.transcript.faults
HostCause ReadFault old new =
    Rose old.script.faults new.script.faults × (new.replies.faults ≡ old.replies.faults) × (new.commands.faults ≡ old.commands.faults)
    × (new.transcript.faults ≡ old.transcript.faults)
HostCause Failed old new =
    (new.script.faults ≡ old.script.faults) × (new.commands.faults ≡ old.commands.faults) × (new.transcript.faults ≡ old.transcript.faults)
HostCause ending old new =
    (new.script.faults ≡ old.script.faults) × (new.replies.faults ≡ old.replies.faults) × (new.commands.faults ≡ old.commands.faults)
    × (new.transcript.faults ≡ old.transcript.faults)

-- A script was played up to an ending, which the status tells.
pub record HostEnds (tells : Tells) (status : ℕ) (old new : Streams) : Type 0 where
  pub ending : Ending
  pub status_is : status ≡ exit_status ending
  pub cause : HostCause ending old new
  pub course : HostCourse tells.script old.script.left new.script.left
  pub ends : HostEndsAt tells old new course ending

-- each line says something and is not too long, and the script is short enough
abbrev pub IsGoodScript : List ℕ → Type 0
IsGoodScript input = AllByRecursion (λ line. SaysSome line × (length line ≤ LINE_LIMIT)) (lines input) × (length input < INPUT_LIMIT)

-- nothing was refused by any of the streams
pub record NoneRefused (old new : Streams) : Type 0 where
  pub script : Rose old.script.faults new.script.faults → ⊥
  pub replies : Rose old.replies.faults new.replies.faults → ⊥
  pub commands : Rose old.commands.faults new.commands.faults → ⊥
  pub transcript : Rose old.transcript.faults new.transcript.faults → ⊥

-- Where each line has a form and nothing is refused, the script is played to its end, or a reply was no reply, or none came.
abbrev pub IsOver : Tells → ℕ → Streams → Streams → Type 0
IsOver tells status old new =
    tells.script → IsGoodScript old.script.left → NoneRefused old new → (status ≡ 0) ⊎ (status ≡ 8) ⊎ (status ≡ 3)
