-- What a link over a pair of streams has conveyed. In what follows `hears` and `tells` are facts where the replies and the commands
-- tell their bytes, and `⊥` where they don't. This profile's own.
use Rattle.std.specs.Prelude.{◌≡◌, ◌≢◌, ℕ, ◌+◌, List, [], ◌++◌, length, Option, None, Some}
use Rattle.faults.specs.Faults.{Rose}
use Rattle.io_edge.specs.Lines.{Reading, ahead, room}
use Rattle.io_edge.specs.Streams.{SinkState, SourceState}
use Rattle.line_runs.specs.Taken.{ComeFirst, HoldsNoLine, IsBadLine, IsShortCut}
use Rattle.script_tool.specs.Talk.{Event}
use Rattle.host_tool.specs.Exchange.{IsReply, SpellReplies, command_line, sent_by}
use Rattle.host_tool.specs.declared.fault.LinkFault.{LinkFault}
use Rattle.host_tool.specs.declared.fault.LinkFault.TheVariants.{WriteFault, BadReply, Ended, ReadFault, TooMany}

-- the two streams, and how far the replies were read
pub record Sides : Type 0 where
  pub replies : SourceState
  pub reading : Reading
  pub commands : SinkState

-- the replies that stand ahead
abbrev pub replies_ahead : Sides → List ℕ
replies_ahead sides = ahead sides.reading sides.replies.left

-- The events went over the streams: each was written and handed on, and the next line of the replies is that to each command.
pub record Exchanged (hears tells : Type 0) (old new : Sides) (events : List Event) : Type 0 where
  pub written : tells → new.commands.written ≡ old.commands.written ++ sent_by events
  pub handed_on : tells → events ≢ [] → new.commands.handed_on ≡ new.commands.written
  pub lines : List (List ℕ)
  pub spelled : SpellReplies lines events
  pub taken : hears → ComeFirst (room old.reading) (replies_ahead old) lines (replies_ahead new)
  pub number : new.reading.number ≡ old.reading.number + length lines
  pub passed : hears → new.reading.passed + length (replies_ahead new) ≡ old.reading.passed + length (replies_ahead old)
  pub unread : new.replies.faults ≡ old.replies.faults
  pub unwritten : new.commands.faults ≡ old.commands.faults

-- the bytes begin with these
abbrev pub StartsWith : List ℕ → List ℕ → Type 0
StartsWith bytes part = (rest : List ℕ) × (bytes ≡ part ++ rest)

-- Of all these bytes the first were written, and then a write or a flush was refused.
pub record CutShort (tells : Type 0) (old new : Sides) (all : List ℕ) : Type 0 where
  pub written : tells → (part : List ℕ) × StartsWith all part × (new.commands.written ≡ old.commands.written ++ part)
  pub unread : new.replies.faults ≡ old.replies.faults
  pub rose : Rose old.commands.faults new.commands.faults

-- why no reply is the next one, which would have this number
abbrev pub IsWhyUnanswered : (hears : Type 0) → ℕ → ℕ → List ℕ → List ℕ → LinkFault → Type 0
IsWhyUnanswered hears number room ahead left WriteFault = ⊥
IsWhyUnanswered hears number room ahead left (BadReply n) = (n ≡ number) × (hears → IsBadLine IsReply room ahead)
IsWhyUnanswered hears number room ahead left Ended = hears → ahead ≡ []
IsWhyUnanswered hears number room ahead left ReadFault = hears → HoldsNoLine ahead left
IsWhyUnanswered hears number room ahead left TooMany = hears → IsShortCut room ahead

-- the count of faults of the replies rises where a read was refused
abbrev pub IsHeard : LinkFault → ℕ → ℕ → Type 0
IsHeard ReadFault old new = Rose old new
IsHeard fault old new = new ≡ old

-- The events went over the streams, a command was written and handed on after them, and no reply came to it.
pub record InVain (hears tells : Type 0) (old new : Sides) (events : List Event) (command : List ℕ) (fault : LinkFault) : Type 0 where
  pub mid : Sides
  pub before : Exchanged hears tells old mid events
  pub written : tells → new.commands.written ≡ mid.commands.written ++ command_line command
  pub handed_on : tells → new.commands.handed_on ≡ new.commands.written
  pub why : IsWhyUnanswered hears (mid.reading.number + 1) (room mid.reading) (replies_ahead mid) new.replies.left fault
  pub heard : IsHeard fault mid.replies.faults new.replies.faults
  pub unwritten : new.commands.faults ≡ mid.commands.faults

-- by whether a write was refused on the way
abbrev pub Conveyed : (hears tells : Type 0) → Sides → Sides → Option LinkFault → List Event → Type 0
Conveyed hears tells old new None events = Exchanged hears tells old new events
Conveyed hears tells old new (Some WriteFault) events = CutShort tells old new (sent_by events)
Conveyed hears tells old new (Some fault) events = ⊥

-- why the command after the events got no answer
abbrev pub Unanswered : (hears tells : Type 0) → Sides → Sides → Option LinkFault → List Event → List ℕ → Type 0
Unanswered hears tells old new None events command = ⊥
Unanswered hears tells old new (Some WriteFault) events command = CutShort tells old new (sent_by events ++ command_line command)
Unanswered hears tells old new (Some fault) events command = InVain hears tells old new events command fault
