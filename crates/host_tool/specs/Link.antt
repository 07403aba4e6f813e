-- What contracts see of a link over a pair of streams.
use Rattle.std.specs.Prelude.{ℕ, Bool, Option, [], None}
use Rattle.io_edge.specs.Lines.{Reading}
use Rattle.io_edge.specs.Streams.{SinkState, SourceState}
use Rattle.io_edge.specs.declared.sink.Sink.{Ghosts as Sink}
use Rattle.io_edge.specs.declared.source.Source.{Ghosts as Source}
use Rattle.host_tool.specs.Conveyed.{Sides}
use Rattle.host_tool.specs.declared.fault.LinkFault.{LinkFault}

-- the streams, how far the replies were read, whether a command or a reset has failed and why, whether no command has, and how many have
pub record Linked (S K : Type 0) : Type 0 where
  pub replies : S
  pub reading : Reading
  pub commands : K
  pub why : Option LinkFault
  pub up : Bool
  pub faults : ℕ

abbrev pub sides : SourceState → Reading → SinkState → Sides
sides replies reading commands = record { replies = replies; reading = reading; commands = commands }

abbrev pub sides_of : {S K : Type 0} → Source S → Sink K → Linked S K → Sides
sides_of source sink link = sides (source.state link.replies) link.reading (sink.state link.commands)

-- nothing was read yet
abbrev pub unread : Reading
unread = record { number = 0; passed = 0; held = []; stop = None }
