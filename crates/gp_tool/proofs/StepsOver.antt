-- What a host plays over a link is what comes of a card at its end.
use Rattle.std.proofs.Common.{◌≡◌, ℕ, true, false, List, [], ◌∷◌, ◌++◌, length, refl, sym, ap, subst, arith, length-append}
use Rattle.std.specs.Prelude.{map, Result, Ok, Err, OnOk}
use Rattle.flash_core.specs.declared.flash.Flash.{Ghosts as Flash}
use Rattle.policy_machine.specs.Run.{Command, Input, Reset, Run}
use Rattle.policy_machine.specs.State.{State}
use Rattle.script_tool.specs.Host.{Host}
use Rattle.script_tool.specs.Link.{given_in}
use Rattle.script_tool.specs.Play.{playing}
use Rattle.script_tool.specs.Played.{IsBroken, Leads}
use Rattle.script_tool.specs.Step.{StepPlays}
use Rattle.script_tool.specs.Talk.{Talk}
use Rattle.script_tool.specs.declared.host_state.HostState.{HostState}
use Rattle.script_lines.specs.declared.line.ScriptLine.{ScriptLine}
use Rattle.script_tool.specs.declared.link.CardLink.{Ghosts as CardLink}
use Rattle.script_tool.specs.declared.played.Played as the_played
use Rattle.script_tool.specs.declared.played.StepStop.{StepStop}
use Rattle.script_tool.specs.declared.played.StepStop.TheVariants.{Form, LinkFailed}
use Rattle.gp_tool.proofs.CardEnds.{has_come, has_stopped}
use Rattle.gp_tool.proofs.Scripts.{answers_events}
use Rattle.gp_tool.specs.CardEnd.{Comes, Counting}
use Rattle.gp_tool.specs.StepsCard.{PlaysCard, StepsCard, StopsCard}

-- the last input and those before it
bytes_in : Input → List ℕ
bytes_in (Command bytes) = bytes
bytes_in Reset = []

snoc_once : (some more : List Input) (x y : Input) → some ++ x ∷ [] ≡ more ++ y ∷ [] → (some ≡ more) × (x ≡ y)
snoc_once [] [] x y same = (refl, cc same)
snoc_once [] (b ∷ more) x y same =
    let len = ap length same in
    let long = length-append more (y ∷ []) in
    absurd (omega (arith, len, long))
snoc_once (a ∷ some) [] x y same =
    let len = ap length same in
    let long = length-append some (x ∷ []) in
    absurd (omega (arith, len, long))
snoc_once (a ∷ some) (b ∷ more) x y same =
    let parts : (a ≡ b) × (some ++ x ∷ [] ≡ more ++ y ∷ []) = (cc same, cc same) in
    let rest = snoc_once some more x y parts.1 in
    (λ i. parts.0 i ∷ rest.0 i, rest.1)

module _ {F L : Type 0} (device : Flash F) (link : CardLink L) (old new : L) (from to : Counting F) (state : State)
    (stands : link.stands old state) (none : link.came old old state [])
    (given : (inputs : List Input) → link.came old new state inputs → Comes device from to state inputs to.card.live) where
  -- it went on
  plays_card : (talk left : Talk) → Leads link old new talk left → to.card.live ≡ true → PlaysCard device from to state talk left
  plays_card talk left leads live =
      let conveyed = leads.conveyed in
      let led = conveyed.stands state stands in
      let come = has_come device from to state (map given_in leads.events) to.card.live live (given (map given_in leads.events) (conveyed.came old state [] none)) in
      record {
        events = leads.events;
        outcomes = come.outcomes;
        last = come.last;
        goes = leads.goes;
        answers = answers_events state leads.events come.outcomes come.last led.0 come.run led.1;
        stands = come.stands;
        leaves = come.leaves;
        done = come.done;
      }

  -- the link failed
  stops_card : (talk : Talk) → IsBroken link old new talk → to.card.live ≡ false → StopsCard device from to state talk
  unfolding bytes_in
  stops_card talk broken live =
      let breaks = broken.breaks in
      let led = breaks.led state stands in
      let stopped = has_stopped device from to state (map given_in broken.events ++ Command broken.command ∷ []) to.card.live live
      (given (map given_in broken.events ++ Command broken.command ∷ []) (breaks.came old state [] none)) in
      let same = snoc_once (map given_in broken.events) stopped.before (Command broken.command) (Command stopped.bytes) stopped.inputs_are in
      let bytes : stopped.bytes ≡ broken.command = sym (ap bytes_in same.1) in
      record {
        events = broken.events;
        command = broken.command;
        rest = broken.rest;
        outcomes = stopped.outcomes;
        mid = stopped.mid;
        next = stopped.next;
        goes = broken.goes;
        answers = answers_events state broken.events stopped.outcomes stopped.mid led.0
            (subst (λ (inputs : List Input). Run state inputs stopped.outcomes stopped.mid) (sym same.0) stopped.run) led.1;
        step = rw bytes at stopped.step;
        left = stopped.left;
        leaves = stopped.leaves;
        done = stopped.done;
      }

  pub steps_card : (host : Host) (said : ScriptLine) (kept : HostState) (text : List ℕ) (result : Result the_played.Played StepStop)
      → StepPlays link old new host said kept text result → OnOk result (to.card.live ≡ true) → (link.up new ≡ false → to.card.live ≡ false)
      → StepsCard device from to host state said kept text result
  steps_card host said kept text (Ok played) plays live down = record {
    printed = plays.printed;
    after = plays.after;
    plays = plays_card (playing host said) _ plays.leads live;
    stands = plays.stands;
    text_is = plays.text_is;
    kind = plays.kind;
  }
  steps_card host said kept text (Err LinkFailed) broken live down = (let breaks = broken.breaks in stops_card (playing host said) broken (down breaks.down))
  steps_card host said kept text (Err (Form n)) none live down = absurd none
