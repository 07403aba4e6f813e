-- How many commands lines make.
use Rattle.std.proofs.Common.{◌≡◌, ◌≤◌, ℕ, ◌+◌, ◌*◌, List, [], ◌∷◌, ◌++◌, length, ap, ◌∙◌, inl, inr, arith, length-append}
use Rattle.policy_machine.specs.Run.{Command, Input, Reset as PowerOff, Run}
use Rattle.policy_machine.specs.State.{State, powered_on}
use Rattle.policy_machine.specs.Step.{Outcome}
use Rattle.script_tool.proofs.FewCommands.{few_commands}
use Rattle.script_tool.specs.Count.{command_count}
use Rattle.script_tool.specs.Host.{Host}
use Rattle.script_tool.specs.Talk.{Answered, Ends, Event, Reset, Sends}
use Rattle.script_tool.specs.Workload.{AreLines}
use Rattle.io_edge.specs.declared.line.TheConstants.{LINE_LIMIT}
use Rattle.gp_tool.specs.Effects.{LineEffect, LinePlace}
use Rattle.gp_tool.specs.Form.{SpellsInputs}
use Rattle.gp_tool.specs.Going.{AreShort}
use Rattle.gp_tool.specs.Replay.{Compares}
use Rattle.gp_tool.specs.RunsLines.{FailsLine, Memory, PlaysLine, RunsLines}
use Rattle.gp_tool.specs.Script.{AnswersEvents, BreaksScript, PlaysScript}
use Rattle.gp_tool.specs.declared.verb.Verb.{Verb}
use Rattle.gp_tool.specs.declared.verb.Verb.TheVariants.{Run as run, Why as why, Replay as replay, Play as play}

-- a card has one outcome for each command
one_each : (state : State) (events : List Event) (outcomes : List Outcome) (last : State) → AnswersEvents state events outcomes last → length outcomes ≡ command_count events
one_each state [] outcomes last answers = ap (λ (os : List Outcome). length os) answers.0
one_each state (Reset ∷ events) outcomes last answers = one_each (powered_on state.registry) events outcomes last answers
one_each state (Answered command reply ∷ events) [] last answers = absurd answers
one_each state (Answered command reply ∷ events) (outcome ∷ outcomes) last answers = (let rest = one_each outcome.state events outcomes last answers.2 in omega (arith, rest))

script_few : (line : List ℕ) (at next : LinePlace Host) (effect : LineEffect) → PlaysScript line at effect next → length effect.outcomes ≤ 60 * length line
script_few line at next effect (said, says, events, printed, after, goes, answers, texts, differs, memory) =
    let count = one_each at.state events effect.outcomes next.state answers in
    let few = few_commands line said at.memory events (Ends printed after) says goes in
    omega (arith, count, few)

pub begun_few : (line : List ℕ) (at : LinePlace Host) (begun : List Outcome) (mid : State) (next : Outcome) → BreaksScript line at begun mid next → length begun ≤ 60 * length line
begun_few line at begun mid next (said, says, events, command, rest, goes, answers, step) =
    let count = one_each at.state events begun mid answers in
    let few = few_commands line said at.memory events (Sends command rest) says goes in
    omega (arith, count, few)

-- a line for a card gives it one command at most
given_few : (line : List ℕ) (inputs : List Input) → SpellsInputs line inputs → length inputs ≤ 1
given_few line inputs (inl none) = (let is = ap (λ (i : List Input). length i) none.1 in omega (arith, is))
given_few line inputs (inr (inl reset)) = (let is = ap (λ (i : List Input). length i) reset.1 in omega (arith, is))
given_few line inputs (inr (inr command)) = (let is = ap (λ (i : List Input). length i) command.2 in omega (arith, is))

run_few : (state : State) (inputs : List Input) (outcomes : List Outcome) (last : State) → Run state inputs outcomes last → length outcomes ≤ length inputs
run_few state [] outcomes last none = (let is = ap (λ (os : List Outcome). length os) none.0 in omega (arith, is))
run_few state (Command bytes ∷ inputs) [] last runs = absurd runs
run_few state (Command bytes ∷ inputs) (outcome ∷ outcomes) last runs = (let rest = run_few outcome.state inputs outcomes last runs.1 in omega (arith, rest))
run_few state (PowerOff ∷ inputs) outcomes last runs = (let rest = run_few (powered_on state.registry) inputs outcomes last runs in omega (arith, rest))

card_few : (line : List ℕ) (state : State) (inputs : List Input) (outcomes : List Outcome) (last : State) → SpellsInputs line inputs → Run state inputs outcomes last
    → length outcomes ≤ 60 * length line + 1
card_few line state inputs outcomes last spells runs =
    let given = given_few line inputs spells in
    let few = run_few state inputs outcomes last runs in
    omega (arith, given, few)

-- a line that wants a reply gives the card no command
compared_few : (number : ℕ) (want got : List ℕ) (effect : LineEffect) → Compares number want got effect → length effect.outcomes ≡ 0
compared_few number want got effect (inl same) = ap (λ (e : LineEffect). length e.outcomes) same.1
compared_few number want got effect (inr differs) = ap (λ (e : LineEffect). length e.outcomes) differs.1

pub line_few : (verb : Verb) (number : ℕ) (line : List ℕ) (at next : LinePlace (Memory verb)) (effect : LineEffect) → PlaysLine verb number line at effect next
    → length effect.outcomes ≤ 60 * length line + 1
line_few run number line at next effect plays = card_few line at.state plays.0 effect.outcomes next.state plays.1 plays.2
line_few why number line at next effect plays = card_few line at.state plays.0 effect.outcomes next.state plays.1 plays.2
line_few replay number line at next effect (inl keeps) = card_few line at.state keeps.0 effect.outcomes next.state keeps.1 keeps.2
line_few replay number line at next effect (inr (want, got, meets, compares, is)) = (let none = compared_few number want got effect compares in omega (arith, none))
line_few play number line at next effect plays = (let few = script_few line at next effect plays in omega (arith, few))

pub breaks_few : (verb : Verb) (line : List ℕ) (at : LinePlace (Memory verb)) (begun : List Outcome) (mid : State) (next : Outcome) → FailsLine verb line at begun mid next
    → length begun ≤ 60 * length line + 1
breaks_few play line at begun mid next fails = (let few = begun_few line at begun mid next fails in omega (arith, few))
breaks_few _ line at begun mid next fails = (let none = ap (λ (os : List Outcome). length os) fails.0 in omega (arith, none))

-- lines that are not too long
pub runs_few : (verb : Verb) (number : ℕ) (lines : List (List ℕ)) (at last : LinePlace (Memory verb)) (effect : LineEffect) → AreShort lines → RunsLines verb number lines at effect last
    → length effect.outcomes ≤ 31_321 * length lines
runs_few verb number [] at last effect short none = (let is = ap (λ (e : LineEffect). length e.outcomes) none.0 in omega (arith, is))
runs_few verb number (line ∷ lines) at last effect short some =
    let one = line_few verb number line at some.1 some.0 some.3 in
    let more = runs_few verb (number + 1) lines some.1 last some.2 short.1 some.4 in
    let all = ap (λ (e : LineEffect). length e.outcomes) some.5 ∙ length-append some.0.outcomes some.2.outcomes in
    let fits : length line ≤ LINE_LIMIT = short.0 in
    omega (arith, one, more, all, fits)

-- the first of some lines that a source can give are not too long
pub front_short : (lines more : List (List ℕ)) → AreLines (lines ++ more) → AreShort lines
front_short [] more are = tt
front_short (line ∷ lines) more are = (let first = are.0 in (first.1, front_short lines more are.1))
