-- How a host plays over a link.
use Rattle.std.specs.Prelude.{◌≡◌, ◌≤◌, ◌<◌, ℕ, List, length, Result, Ok, Err}
use Rattle.script_tool.specs.Host.{Host}
use Rattle.scp03_host.specs.Unwrapped.{status_in}
use Rattle.script_tool.specs.InPlain.{body_in}
use Rattle.script_tool.specs.Kept.{RepresentsHost, printed_of}
use Rattle.script_tool.specs.Link.{Breaks, Conveys}
use Rattle.script_tool.specs.Printed.{Printed, Reply, Said}
use Rattle.script_tool.specs.Talk.{Ends, Event, Goes, Sends, Talk}
use Rattle.script_tool.specs.declared.host_state.HostState.{HostState}
use Rattle.script_tool.specs.declared.link.CardLink.{Ghosts as CardLink}
use Rattle.script_tool.specs.declared.link.LinkFailed.{LinkFailed}
use Rattle.script_tool.specs.declared.printout.Printout.{Printout}
use Rattle.script_tool.specs.declared.word.Word.TheVariants.{Short}

-- it goes on with a talk
pub record Leads {L : Type 0} (link : CardLink L) (old new : L) (talk left : Talk) : Type 0 where
  pub events : List Event
  pub goes : Goes talk events left
  pub conveyed : Conveys link old new events

-- the talk came to its end: this is printed, and the host is the one that is kept
pub record IsPlayed {L : Type 0} (link : CardLink L) (old new : L) (talk : Talk) (printed : Printed) (kept : HostState) : Type 0 where
  pub host : Host
  pub leads : Leads link old new talk (Ends printed host)
  pub stands : RepresentsHost kept host

-- the link failed in a command of the talk
pub record IsBroken {L : Type 0} (link : CardLink L) (old new : L) (talk : Talk) : Type 0 where
  pub events : List Event
  pub command : List ℕ
  pub rest : List ℕ → Talk
  pub goes : Goes talk events (Sends command rest)
  pub breaks : Breaks link old new events command

-- one or the other, as it is answered
abbrev pub Plays : {L : Type 0} → CardLink L → L → L → Talk → HostState → Result Printout LinkFailed → Type 0
Plays link old new talk kept (Ok printout) = IsPlayed link old new talk (printed_of printout) kept
Plays link old new talk kept (Err failed) = IsBroken link old new talk

-- The talk goes on by `rest` with a reply that was read, or ended with a word.
abbrev pub ContinuesWith : {L : Type 0} → CardLink L → L → L → Talk → (Host → List ℕ → ℕ → Talk) → HostState → Printed → Type 0
ContinuesWith link old new talk rest kept (Reply body status) =
    (host : Host) × Leads link old new talk (rest host body status) × RepresentsHost kept host
ContinuesWith link old new talk rest kept (Said word) = IsPlayed link old new talk (Said word) kept
ContinuesWith link old new talk rest kept _ = ⊥

abbrev pub Continues : {L : Type 0} → CardLink L → L → L → Talk → (Host → List ℕ → ℕ → Talk) → HostState → Result Printout LinkFailed → Type 0
Continues link old new talk rest kept (Ok printout) = ContinuesWith link old new talk rest kept (printed_of printout)
Continues link old new talk rest kept (Err failed) = IsBroken link old new talk

-- a reply is read in plain
abbrev pub IsReadInPlain : List ℕ → Printed → Type 0
IsReadInPlain reply (Reply body status) = (2 ≤ length reply) × (body ≡ body_in reply) × (status ≡ status_in reply)
IsReadInPlain reply (Said Short) = length reply < 2
IsReadInPlain reply _ = ⊥
