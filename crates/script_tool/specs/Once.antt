-- A line has one end.
use Rattle.std.specs.Prelude.{◌≡◌, List}
use Rattle.policy_machine.specs.State.{State}
use Rattle.script_tool.specs.Host.{Host}
use Rattle.script_tool.specs.Link.{LeadOn}
use Rattle.script_tool.specs.Printed.{Printed}
use Rattle.script_tool.specs.Talk.{Ends, Event, Goes, Talk}

-- From one state of the card a talk comes to its end by one list of events, prints one thing, and leaves one host and one state.
abbrev pub OneTalk : Type 0
OneTalk =
    (talk : Talk) (state last another : State) (events others : List Event) (printed other : Printed) (after host : Host)
    → Goes talk events (Ends printed after) → LeadOn state events last → Goes talk others (Ends other host) → LeadOn state others another
    → (events ≡ others) × (printed ≡ other) × (after ≡ host) × (last ≡ another)
