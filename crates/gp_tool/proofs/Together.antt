-- What a host and this card do together is what the verb `play` does.
use Rattle.std.proofs.Common.{◌≡◌, ℕ, ◌+◌, Bool, List, [], ◌∷◌, ◌++◌, refl, sym, ap, subst, ◌∙◌}
use Rattle.policy_machine.specs.State.{State, powered_on}
use Rattle.policy_machine.specs.Step.{Outcome}
use Rattle.script_tool.specs.Host.{Host}
use Rattle.script_tool.specs.HostLines.{HostPlaysAll, text_line}
use Rattle.script_tool.specs.Printed.{Printed, Nothing, Reply, Opened, Cryptogram, Said, Differs, printed_text}
use Rattle.script_tool.specs.Quiet.{is_quiet}
use Rattle.script_tool.specs.Talk.{Answered, Event, Reset}
use Rattle.gp_tool.specs.Effects.{LineEffect, LinePlace}
use Rattle.gp_tool.specs.HostAndCard.{HostAndCard, PlayedTogether, without_empty}
use Rattle.gp_tool.specs.RunsLines.{RunsLines}
use Rattle.gp_tool.specs.Script.{AnswersEvents, texts_of}
use Rattle.gp_tool.specs.declared.verb.Verb.TheVariants.{Play}

-- the answers to some events and to more are answers to all
answers_on : (state mid last : State) (some more : List Event) (before after : List Outcome)
    → AnswersEvents state some before mid → AnswersEvents mid more after last → AnswersEvents state (some ++ more) (before ++ after) last
answers_on state mid last [] more [] after is on = subst (λ (s : State). AnswersEvents s more after last) is.1 on
answers_on state mid last [] more (outcome ∷ before) after is on = (let clash = is.0 in cc)
answers_on state mid last (Reset ∷ some) more before after is on = answers_on (powered_on state.registry) mid last some more before after is on
answers_on state mid last (Answered command reply ∷ some) more [] after is on = absurd is
answers_on state mid last (Answered command reply ∷ some) more (outcome ∷ before) after is on =
    (is.0, is.1, answers_on outcome.state mid last some more before after is.2 on)

-- the other way round
abbrev Split : State → List Event → List Event → List Outcome → State → Type 0
Split state some more outcomes last =
    (before : List Outcome) × (mid : State) × (after : List Outcome)
    × AnswersEvents state some before mid × AnswersEvents mid more after last × (outcomes ≡ before ++ after)

splits : (state last : State) (some more : List Event) (outcomes : List Outcome) → AnswersEvents state (some ++ more) outcomes last → Split state some more outcomes last
splits state last [] more outcomes is = ([], state, outcomes, (refl, refl), is, refl)
splits state last (Reset ∷ some) more outcomes is = splits (powered_on state.registry) last some more outcomes is
splits state last (Answered command reply ∷ some) more [] is = absurd is
splits state last (Answered command reply ∷ some) more (outcome ∷ outcomes) is =
    let rest = splits outcome.state last some more outcomes is.2 in
    (outcome ∷ rest.0, rest.1, rest.2, (is.0, is.1, rest.3), rest.4, λ i. outcome ∷ rest.5 i)

-- a text with its newline is not empty
ended_text : (text : List ℕ) (texts : List (List ℕ)) → without_empty ((text ++ 10 ∷ []) ∷ texts) ≡ (text ++ 10 ∷ []) ∷ without_empty texts
ended_text [] texts = refl
ended_text (byte ∷ text) texts = refl

-- what a line prints stands first
first_text : (quiet : Bool) (printed : Printed) (texts : List (List ℕ)) → without_empty (text_line quiet printed ∷ texts) ≡ texts_of quiet printed ++ without_empty texts
first_text quiet Nothing texts = refl
first_text quiet (Reply body status) texts = ended_text (printed_text quiet (Reply body status)) texts
first_text quiet (Opened counter status) texts = ended_text (printed_text quiet (Opened counter status)) texts
first_text quiet (Cryptogram counter) texts = ended_text (printed_text quiet (Cryptogram counter)) texts
first_text quiet (Said word) texts = ended_text (printed_text quiet (Said word)) texts
first_text quiet (Differs want got) texts = ended_text (printed_text quiet (Differs want got)) texts

together_runs : (number : ℕ) (lines : List (List ℕ)) (at last : LinePlace Host) (effect : LineEffect) (events : List Event) (texts : List (List ℕ))
    → HostPlaysAll lines at.memory events texts effect.differs last.memory → AnswersEvents at.state events effect.outcomes last.state
    → effect.texts ≡ without_empty texts → RunsLines Play number lines at effect last
together_runs number [] at last effect events texts plays answers are =
    let none : AnswersEvents at.state [] effect.outcomes last.state
    = subst (λ (es : List Event). AnswersEvents at.state es effect.outcomes last.state) plays.0 answers in
    let silent : effect.texts ≡ [] = are ∙ ap without_empty plays.1 in
    (λ i. record { outcomes = none.0 i; texts = silent i; differs = plays.2 i }, λ i. record { memory = plays.3 i; state = none.1 i })
together_runs number (line ∷ lines) at last effect events texts (some, text, one, next, here, more, rest, others, later, events_are, texts_are, differs) answers are =
    let split = splits at.state last.state some more effect.outcomes
    (subst (λ (es : List Event). AnswersEvents at.state es effect.outcomes last.state) events_are answers) in
    let first : List (List ℕ) = texts_of (is_quiet here.said) here.printed in
    let joined_texts : effect.texts ≡ first ++ without_empty rest
    = are ∙ ap without_empty texts_are ∙ ap (λ (t : List ℕ). without_empty (t ∷ rest)) here.text_is ∙ first_text (is_quiet here.said) here.printed rest in
    let mid : LinePlace Host = record { memory = next; state = split.1 } in
    let behind : LineEffect = record { outcomes = split.2; texts = without_empty rest; differs = others } in (
      record { outcomes = split.0; texts = first; differs = one },
      mid,
      behind,
      (here.said, here.says, some, here.printed, here.after, here.goes, split.3, refl, here.differs_is, here.next_is),
      together_runs (number + 1) lines mid last behind more rest later split.4 refl,
      λ i. record { outcomes = split.5 i; texts = joined_texts i; differs = differs i },
    )

runs_together : (number : ℕ) (lines : List (List ℕ)) (at last : LinePlace Host) (effect : LineEffect) → RunsLines Play number lines at effect last → PlayedTogether lines at effect last
runs_together number [] at last effect (nothing, same) = record {
  events = [];
  texts = [];
  plays = (refl, refl, ap (λ (e : LineEffect). e.differs) nothing, ap (λ (p : LinePlace Host). p.memory) same);
  answers = (ap (λ (e : LineEffect). e.outcomes) nothing, ap (λ (p : LinePlace Host). p.state) same);
  texts_are = ap (λ (e : LineEffect). e.texts) nothing;
}
runs_together number (line ∷ lines) at last effect (one, next, more, (said, says, events, printed, after, goes, answers, texts, differs, memory), runs, joins) =
    let rest = runs_together (number + 1) lines next last more runs in
    let text = text_line (is_quiet said) printed in
    record {
      events = events ++ rest.events;
      texts = text ∷ rest.texts;
      plays = (
        events,
        text,
        one.differs,
        next.memory,
        record {
          said = said;
          says = says;
          printed = printed;
          after = after;
          goes = goes;
          text_is = refl;
          differs_is = differs;
          next_is = memory;
        },
        rest.events,
        rest.texts,
        more.differs,
        rest.plays,
        refl,
        refl,
        ap (λ (e : LineEffect). e.differs) joins,
      );
      answers = subst (λ (e : LineEffect). AnswersEvents at.state (events ++ rest.events) e.outcomes last.state) (sym joins)
          (answers_on at.state next.state last.state events rest.events one.outcomes more.outcomes answers rest.answers);
      texts_are = ap (λ (e : LineEffect). e.texts) joins ∙ ap (λ (t : List (List ℕ)). t ++ more.texts) texts
          ∙ ap (λ (t : List (List ℕ)). texts_of (is_quiet said) printed ++ t) rest.texts_are ∙ sym (first_text (is_quiet said) printed rest.texts);
    }

pub host_and_card : HostAndCard
host_and_card number lines at last effect = (
  λ (both : PlayedTogether lines at effect last). together_runs number lines at last effect both.events both.texts both.plays both.answers both.texts_are,
  runs_together number lines at last effect,
)
