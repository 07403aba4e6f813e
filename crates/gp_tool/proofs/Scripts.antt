-- What a card answers to the events of a talk.
use Rattle.std.proofs.Common.{◌≡◌, ℕ, List, [], ◌∷◌, refl, sym, ap, subst, ◌∙◌}
use Rattle.std.specs.Prelude.{Contains, map}
use Rattle.card_types.proofs.Members.{contains_first, contains_later}
use Rattle.card_types.specs.Registry.{Registry}
use Rattle.policy_machine.proofs.OneOutcome.{one_outcome}
use Rattle.policy_machine.specs.Run.{Run}
use Rattle.policy_machine.specs.State.{State, powered_on}
use Rattle.policy_machine.specs.Step.{Outcome}
use Rattle.script_lines.proofs.OneLine.{one_line}
use Rattle.script_tool.proofs.OneTalk.{one_talk}
use Rattle.script_tool.specs.Host.{Host}
use Rattle.script_tool.specs.HostLines.{is_difference}
use Rattle.script_tool.specs.Link.{LeadOn, given_in}
use Rattle.script_tool.specs.Play.{playing, remembering}
use Rattle.script_tool.specs.Printed.{status_printed}
use Rattle.script_tool.specs.Quiet.{is_quiet}
use Rattle.script_tool.specs.Talk.{Answered, Ends, Event, Goes, Reset}
use Rattle.script_lines.specs.declared.line.ScriptLine.{ScriptLine}
use Rattle.gp_tool.specs.Device.{registries}
use Rattle.gp_tool.specs.Effects.{LineEffect, LinePlace}
use Rattle.gp_tool.specs.Script.{AnswersEvents, PlaysScript, texts_of}

-- the answers lead the card on
leads_on : (state : State) (events : List Event) (outcomes : List Outcome) (last : State) → AnswersEvents state events outcomes last → LeadOn state events last
leads_on state [] outcomes last answers = answers.1
leads_on state (Reset ∷ events) outcomes last answers = leads_on (powered_on state.registry) events outcomes last answers
leads_on state (Answered command reply ∷ events) [] last answers = absurd answers
leads_on state (Answered command reply ∷ events) (outcome ∷ outcomes) last answers =
    (outcome.state, (outcome, answers.0, answers.1, refl), leads_on outcome.state events outcomes last answers.2)

-- The card was led on by the events, and the run of what it was given has these outcomes.
pub answers_events : (state : State) (events : List Event) (outcomes : List Outcome) (last another : State)
    → Run state (map given_in events) outcomes last → LeadOn state events another → AnswersEvents state events outcomes last
answers_events state [] outcomes last another run lead = run
answers_events state (Reset ∷ events) outcomes last another run lead = answers_events (powered_on state.registry) events outcomes last another run lead
answers_events state (Answered command reply ∷ events) [] last another run lead = absurd run
answers_events state (Answered command reply ∷ events) (outcome ∷ outcomes) last another run lead =
    let leads = lead.1 in
    let same : leads.0 ≡ outcome = one_outcome state command leads.0 outcome leads.1 run.0 in
    let after : lead.0 ≡ outcome.state = leads.3 ∙ ap (λ (o : Outcome). o.state) same in (
      run.0,
      leads.2 ∙ ap (λ (o : Outcome). o.reply) same,
      answers_events outcome.state events outcomes last another run.1 (subst (λ (s : State). LeadOn s events another) after lead.2),
    )

-- the answers to the same events are the same
answers_once : (state : State) (events : List Event) (some more : List Outcome) (last another : State)
    → AnswersEvents state events some last → AnswersEvents state events more another → some ≡ more
answers_once state [] some more last another one other = one.0 ∙ sym other.0
answers_once state (Reset ∷ events) some more last another one other = answers_once (powered_on state.registry) events some more last another one other
answers_once state (Answered command reply ∷ events) [] more last another one other = absurd one
answers_once state (Answered command reply ∷ events) (a ∷ some) [] last another one other = absurd other
answers_once state (Answered command reply ∷ events) (a ∷ some) (b ∷ more) last another one other =
    let same : b ≡ a = one_outcome state command b a other.0 one.0 in
    let rest = answers_once a.state events some more last another one.2 (subst (λ (o : Outcome). AnswersEvents o.state events more another) same other.2) in
    λ i. sym same i ∷ rest i

-- the last registry is one of those after the commands
pub answers_end : (state : State) (events : List Event) (outcomes : List Outcome) (last : State) → AnswersEvents state events outcomes last
    → Contains (registries state outcomes) last.registry
answers_end state [] outcomes last answers =
    subst (λ (r : Registry). Contains (registries state outcomes) r) (ap (λ (s : State). s.registry) (sym answers.1))
    (contains_first state.registry (map (λ outcome. outcome.state.registry) outcomes))
answers_end state (Reset ∷ events) outcomes last answers = answers_end (powered_on state.registry) events outcomes last answers
answers_end state (Answered command reply ∷ events) [] last answers = absurd answers
answers_end state (Answered command reply ∷ events) (outcome ∷ outcomes) last answers =
    contains_later state.registry (registries outcome.state outcomes) last.registry (answers_end outcome.state events outcomes last answers.2)

-- what a line of a script does has all its parts in common
pub record OneScript (one other : LineEffect) (next another : LinePlace Host) : Type 0 where
  pub outcomes : one.outcomes ≡ other.outcomes
  pub texts : one.texts ≡ other.texts
  pub differs : one.differs ≡ other.differs
  pub memory : next.memory ≡ another.memory
  pub state : next.state ≡ another.state

pub script_once : (line : List ℕ) (at next another : LinePlace Host) (one other : LineEffect) → PlaysScript line at one next → PlaysScript line at other another
    → OneScript one other next another
script_once line at next another one other (said, says, events, printed, after, goes, answers, texts, differs, memory) (said', says', events', printed', after', goes', answers', texts', differs', memory') =
    let same_said : said' ≡ said = one_line line said' said says' says in
    let talk : Goes (playing at.memory said) events' (Ends printed' after') = subst (λ (s : ScriptLine). Goes (playing at.memory s) events' (Ends printed' after')) same_said goes' in
    let same = one_talk (playing at.memory said) at.state next.state another.state events events' printed printed' after after'
    goes (leads_on at.state events one.outcomes next.state answers) talk (leads_on at.state events' other.outcomes another.state answers') in
    let same_outcomes : one.outcomes ≡ other.outcomes
    = answers_once at.state events one.outcomes other.outcomes next.state another.state answers
    (subst (λ (es : List Event). AnswersEvents at.state es other.outcomes another.state) (sym same.0) answers') in
    record {
      outcomes = same_outcomes;
      texts = texts ∙ (λ i. texts_of (is_quiet (sym same_said i)) (same.1 i)) ∙ sym texts';
      differs = differs ∙ ap is_difference same.1 ∙ sym differs';
      memory = memory ∙ (λ i. remembering (status_printed (same.1 i)) (same.2 i)) ∙ sym memory';
      state = same.3;
    }
