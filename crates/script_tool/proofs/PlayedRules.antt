-- A host that plays one thing after the other.
use Rattle.std.proofs.Common.{ℕ, List, [], ◌++◌, Result, Ok, Err}
use Rattle.script_tool.proofs.LinkRules.{breaks_on, conveys_nothing, conveys_on}
use Rattle.script_tool.proofs.TalkRules.{goes_nothing, goes_on}
use Rattle.script_tool.specs.Host.{Host}
use Rattle.script_tool.specs.Kept.{RepresentsHost, printed_of}
use Rattle.script_tool.specs.Played.{Continues, ContinuesWith, IsBroken, IsPlayed, Leads}
use Rattle.script_tool.specs.Printed.{Printed, Reply, Said}
use Rattle.script_tool.specs.Talk.{Ends, Sends, Talk}
use Rattle.script_tool.specs.declared.host_state.HostState.{HostState}
use Rattle.script_tool.specs.declared.link.CardLink.{Ghosts as CardLink}
use Rattle.script_tool.specs.declared.link.LinkFailed.{LinkFailed}
use Rattle.script_tool.specs.declared.printout.Printout.{Printout}

pub leads_nowhere : {L : Type 0} (link : CardLink L) (now : L) (talk : Talk) → Leads link now now talk talk
leads_nowhere link now talk = record { events = []; goes = goes_nothing talk; conveyed = conveys_nothing link now }

-- a talk that is at its end
pub ends_here : {L : Type 0} (link : CardLink L) (now : L) (printed : Printed) (host : Host) (kept : HostState) → RepresentsHost kept host
    → IsPlayed link now now (Ends printed host) printed kept
ends_here link now printed host kept represents = record { host = host; leads = leads_nowhere link now (Ends printed host); stands = represents }

pub leads_on : {L : Type 0} (link : CardLink L) (a b c : L) (talk mid left : Talk) → Leads link a b talk mid → Leads link b c mid left → Leads link a c talk left
leads_on link a b c talk mid left x y = record {
  events = x.events ++ y.events;
  goes = goes_on talk x.events y.events mid left x.goes y.goes;
  conveyed = conveys_on link a b c x.events y.events x.conveyed y.conveyed;
}

pub broken_on : {L : Type 0} (link : CardLink L) (a b c : L) (talk mid : Talk) → Leads link a b talk mid → IsBroken link b c mid → IsBroken link a c talk
broken_on link a b c talk mid x y = record {
  events = x.events ++ y.events;
  command = y.command;
  rest = y.rest;
  goes = goes_on talk x.events y.events mid (Sends y.command y.rest) x.goes y.goes;
  breaks = breaks_on link a b c x.events y.events y.command x.conveyed y.breaks;
}

pub played_on : {L : Type 0} (link : CardLink L) (a b c : L) (talk mid : Talk) (printed : Printed) (kept : HostState) → Leads link a b talk mid
    → IsPlayed link b c mid printed kept → IsPlayed link a c talk printed kept
played_on link a b c talk mid printed kept x y = record {
  host = y.host;
  leads = leads_on link a b c talk mid (Ends printed y.host) x y.leads;
  stands = y.stands;
}

continues_with_on : {L : Type 0} (link : CardLink L) (a b c : L) (talk mid : Talk) (rest : Host → List ℕ → ℕ → Talk) (kept : HostState) (printed : Printed)
    → Leads link a b talk mid → ContinuesWith link b c mid rest kept printed → ContinuesWith link a c talk rest kept printed
continues_with_on link a b c talk mid rest kept (Reply body status) x y = (y.0, leads_on link a b c talk mid (rest y.0 body status) x y.1, y.2)
continues_with_on link a b c talk mid rest kept (Said word) x y = played_on link a b c talk mid (Said word) kept x y
continues_with_on link a b c talk mid rest kept _ x y = y

pub continues_on : {L : Type 0} (link : CardLink L) (a b c : L) (talk mid : Talk) (rest : Host → List ℕ → ℕ → Talk) (kept : HostState)
    (result : Result Printout LinkFailed) → Leads link a b talk mid → Continues link b c mid rest kept result → Continues link a c talk rest kept result
continues_on link a b c talk mid rest kept (Ok printout) x y = continues_with_on link a b c talk mid rest kept (printed_of printout) x y
continues_on link a b c talk mid rest kept (Err failed) x y = broken_on link a b c talk mid x y
