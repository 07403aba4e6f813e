-- For the code inside. A host that takes the lines of a script, one after the other.
use Rattle.std.specs.Prelude.{◌≡◌, ◌⊎◌, ℕ, ◌||◌, Bool, true, List, ◌++◌, None, Some}
use Rattle.io_edge.specs.declared.sink.Sink.{Ghosts as Sink}
use Rattle.io_edge.specs.declared.source.Source.{Ghosts as Source}
use Rattle.line_runs.specs.Taker.{Taker}
use Rattle.script_tool.specs.Host.{Host}
use Rattle.script_tool.specs.HostLines.{HostAsks, HostPlays}
use Rattle.script_tool.specs.Kept.{RepresentsHost}
use Rattle.script_tool.specs.Talk.{Event}
use Rattle.script_tool.specs.Workload.{SaysSome}
use Rattle.script_tool.specs.declared.host_state.HostState.{HostState}
use Rattle.host_tool.specs.Conveyed.{Conveyed, Unanswered}
use Rattle.host_tool.specs.Fault.{fault_text}
use Rattle.host_tool.specs.Link.{Linked, sides_of}
use Rattle.host_tool.specs.declared.fault.LinkFault.{LinkFault}

-- what is kept of the host, the link, whether a status differed, and how many lines have failed
pub record Hosting (S K : Type 0) : Type 0 where
  pub kept : HostState
  pub link : Linked S K
  pub differs : Bool
  pub faults : ℕ

-- it is this host, and its link has not failed
pub record HostStands {S K : Type 0} (at : Hosting S K) (host : Host) : Type 0 where
  pub kept : RepresentsHost at.kept host
  pub up : at.link.up ≡ true
  pub sound : at.link.why ≡ None

module _ {S K : Type 0} (source : Source S) (sink : Sink K) where
  -- the events have joined those that the link conveyed since an earlier time, and the same before a command that got no answer
  abbrev pub Joins : Linked S K → Linked S K → List Event → Type 0
  Joins old new events =
      (start : Linked S K) (before : List Event) → Conveyed source.tells sink.tells (sides_of source sink start) (sides_of source sink old) old.why before
      → Conveyed source.tells sink.tells (sides_of source sink start) (sides_of source sink new) new.why (before ++ events)

  abbrev pub JoinsRefused : Linked S K → Linked S K → List Event → List ℕ → Type 0
  JoinsRefused old new events command =
      (start : Linked S K) (before : List Event) → Conveyed source.tells sink.tells (sides_of source sink start) (sides_of source sink old) old.why before
      → Unanswered source.tells sink.tells (sides_of source sink start) (sides_of source sink new) new.why (before ++ events) command

  -- The line was played to its end.
  pub record TakesFrom (host : Host) (at next : Hosting S K) (line text : List ℕ) : Type 0 where
    pub events : List Event
    pub differs : Bool
    pub after : Host
    pub plays : HostPlays line host events text differs after
    pub stands : HostStands next after
    pub differs_is : next.differs ≡ (at.differs || differs)
    pub joins : Joins at.link next.link events

  -- The line sends a command that got no answer, or its reset was not written.
  pub record FailsFrom (host : Host) (at left : Hosting S K) (line text : List ℕ) : Type 0 where
    pub fault : LinkFault
    pub why : left.link.why ≡ Some fault
    pub text_is : text ≡ fault_text fault
    pub events : List Event
    pub comes : ((command : List ℕ) × HostAsks line host events command × JoinsRefused at.link left.link events command)
        ⊎ ((said : List ℕ) × (differs : Bool) × (after : Host) × HostPlays line host events said differs after × Joins at.link left.link events)

  abbrev pub host_taker : Taker (Hosting S K)
  host_taker = record {
    has_form = λ at line. SaysSome line;
    takes = λ at line next text. (host : Host) → HostStands at host → TakesFrom host at next line text;
    fails = λ at line left text. (host : Host) → HostStands at host → FailsFrom host at left line text;
    faults = λ at. at.faults;
  }
