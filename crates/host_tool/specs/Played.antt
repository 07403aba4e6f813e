-- For the code inside. Lines that a host has played one after the other.
use Rattle.std.specs.Prelude.{◌≡◌, ℕ, ◌||◌, Bool, List}
use Rattle.io_edge.specs.declared.sink.Sink.{Ghosts as Sink}
use Rattle.io_edge.specs.declared.source.Source.{Ghosts as Source}
use Rattle.script_tool.specs.Host.{Host}
use Rattle.script_tool.specs.HostLines.{HostPlaysAll}
use Rattle.script_tool.specs.Talk.{Event}
use Rattle.host_tool.specs.Takes.{Hosting, Joins, HostStands}

pub record HostHasPlayed {S K : Type 0} (source : Source S) (sink : Sink K) (host : Host) (first last : Hosting S K) (given texts : List (List ℕ)) : Type 0 where
  pub events : List Event
  pub differs : Bool
  pub after : Host
  pub plays : HostPlaysAll given host events texts differs after
  pub stands : HostStands last after
  pub differs_is : last.differs ≡ (first.differs || differs)
  pub joins : Joins source sink first.link last.link events
