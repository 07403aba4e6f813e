-- What lines make of a card is a run of the policy machine.
use Rattle.std.proofs.Common.{◌≡◌, inl, inr, ℕ, ◌+◌, List, [], ◌∷◌, ◌++◌, ap, sym, subst}
use Rattle.policy_machine.proofs.NumbersRisen.{numbers_rise_in_runs}
use Rattle.policy_machine.proofs.TreesStayInRuns.{trees_stay_in_runs}
use Rattle.policy_machine.specs.Run as input
use Rattle.policy_machine.specs.Run.{Input, Run}
use Rattle.policy_machine.specs.State.{State, powered_on}
use Rattle.policy_machine.specs.Step.{Outcome}
use Rattle.script_tool.specs.Talk.{Answered, Event, Reset}
use Rattle.gp_tool.specs.Effects.{LineEffect, LinePlace}
use Rattle.gp_tool.specs.LinesApart.{LinesKeepTrees}
use Rattle.gp_tool.specs.Replay.{Compares, LastReply}
use Rattle.gp_tool.specs.RunsLines.{Memory, PlaysLine, RunsLines}
use Rattle.gp_tool.specs.Script.{AnswersEvents}
use Rattle.gp_tool.specs.declared.verb.Verb.{Verb}
use Rattle.gp_tool.specs.declared.verb.Verb.TheVariants.{Run as run, Why as why, Replay as replay, Play as play}

abbrev IsRun : State → List Outcome → State → Type 0
IsRun first outcomes last = (inputs : List Input) × Run first inputs outcomes last

-- a run that goes on
runs_on : (first mid last : State) (inputs more : List Input) (some others : List Outcome) → Run first inputs some mid → Run mid more others last
    → Run first (inputs ++ more) (some ++ others) last
runs_on first mid last [] more [] others is on = subst (λ (s : State). Run s more others last) is.1 on
runs_on first mid last [] more (outcome ∷ some) others is on = (let clash = is.0 in cc)
runs_on first mid last (input.Command bytes ∷ inputs) more [] others is on = absurd is
runs_on first mid last (input.Command bytes ∷ inputs) more (outcome ∷ some) others is on = (is.0, runs_on outcome.state mid last inputs more some others is.1 on)
runs_on first mid last (input.Reset ∷ inputs) more some others is on = runs_on (powered_on first.registry) mid last inputs more some others is on

-- what a host sends is what the card is given
input_of : Event → Input
input_of Reset = input.Reset
input_of (Answered command reply) = input.Command command

events_run : (first last : State) (events : List Event) (outcomes : List Outcome) → AnswersEvents first events outcomes last → IsRun first outcomes last
events_run first last [] outcomes answers = ([], answers)
events_run first last (Reset ∷ events) outcomes answers =
    let rest = events_run (powered_on first.registry) last events outcomes answers in
    (input.Reset ∷ rest.0, rest.1)
events_run first last (Answered command reply ∷ events) [] answers = absurd answers
events_run first last (Answered command reply ∷ events) (outcome ∷ outcomes) answers =
    let rest = events_run outcome.state last events outcomes answers.2 in
    (input.Command command ∷ rest.0, (answers.0, rest.1))

-- a comparison gives the card nothing
nothing_done : (number : ℕ) (want got : List ℕ) (effect : LineEffect) → Compares number want got effect → effect.outcomes ≡ []
nothing_done number want got effect (inl same) = ap (λ (e : LineEffect). e.outcomes) same.1
nothing_done number want got effect (inr differs) = ap (λ (e : LineEffect). e.outcomes) differs.1

line_runs : (verb : Verb) (number : ℕ) (line : List ℕ) (at next : LinePlace (Memory verb)) (effect : LineEffect) → PlaysLine verb number line at effect next
    → IsRun at.state effect.outcomes next.state
line_runs run number line at next effect plays = (plays.0, plays.2)
line_runs why number line at next effect plays = (plays.0, plays.2)
line_runs replay number line at next effect (inl keeps) = (keeps.0, keeps.2)
line_runs replay number line at next effect (inr compared) =
    ([], (nothing_done number compared.0 compared.1 effect compared.3, ap (λ (p : LinePlace LastReply). p.state) compared.4))
line_runs play number line at next effect plays = events_run at.state next.state plays.2 effect.outcomes plays.6

pub lines_run : (verb : Verb) (number : ℕ) (lines : List (List ℕ)) (at last : LinePlace (Memory verb)) (effect : LineEffect) → RunsLines verb number lines at effect last
    → IsRun at.state effect.outcomes last.state
lines_run verb number [] at last effect is = ([], (ap (λ (e : LineEffect). e.outcomes) is.0, ap (λ (p : LinePlace (Memory verb)). p.state) is.1))
lines_run verb number (line ∷ lines) at last effect is =
    let one = is.0 in
    let next = is.1 in
    let more = is.2 in
    let here = line_runs verb number line at next one is.3 in
    let rest = lines_run verb (number + 1) lines next last more is.4 in (
      here.0 ++ rest.0,
      subst (λ (e : LineEffect). Run at.state (here.0 ++ rest.0) e.outcomes last.state) (sym is.5)
          (runs_on at.state next.state last.state here.0 rest.0 one.outcomes more.outcomes here.1 rest.1),
    )

pub lines_keep_trees : LinesKeepTrees
lines_keep_trees verb number lines at last effect sound is =
    let done = lines_run verb number lines at last effect is in
    record {
      inputs = done.0;
      run = done.1;
      trees = λ domain named spares. trees_stay_in_runs at.state done.0 effect.outcomes last.state domain sound done.1 named spares;
      receipts = numbers_rise_in_runs at.state done.0 effect.outcomes last.state sound done.1;
    }
