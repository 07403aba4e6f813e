-- Lines of the verb `play`: what a host sends by a line, what the card answers, and what is printed.
use Rattle.std.specs.Prelude.{◌≡◌, ℕ, Bool, List, [], ◌∷◌, ◌++◌}
use Rattle.policy_machine.specs.State.{State, powered_on}
use Rattle.policy_machine.specs.Step.{Outcome, Step}
use Rattle.script_tool.specs.Host.{Host}
use Rattle.script_tool.specs.HostLines.{is_difference}
use Rattle.script_tool.specs.Line.{SaysLine}
use Rattle.script_tool.specs.Play.{playing, remembering}
use Rattle.script_tool.specs.Printed.{Nothing, Printed, printed_text, status_printed}
use Rattle.script_tool.specs.Quiet.{is_quiet}
use Rattle.script_tool.specs.Talk.{Answered, Ends, Event, Goes, Reset, Sends, Talk}
use Rattle.script_lines.specs.declared.line.ScriptLine.{ScriptLine}
use Rattle.gp_tool.specs.Effects.{LineEffect, LinePlace}

-- From one state of the card the events lead to another: each reply is that of the outcome of its command.
abbrev pub AnswersEvents : State → List Event → List Outcome → State → Type 0
AnswersEvents state [] outcomes last = (outcomes ≡ []) × (last ≡ state)
AnswersEvents state (Reset ∷ events) outcomes last = AnswersEvents (powered_on state.registry) events outcomes last
AnswersEvents state (Answered command reply ∷ events) [] last = ⊥
AnswersEvents state (Answered command reply ∷ events) (outcome ∷ outcomes) last =
    Step state command outcome × (reply ≡ outcome.reply) × AnswersEvents outcome.state events outcomes last

-- what is printed is written as one line
abbrev pub texts_of : Bool → Printed → List (List ℕ)
texts_of quiet Nothing = []
texts_of quiet printed = (printed_text quiet printed ++ 10 ∷ []) ∷ []

-- From one place of a host and a card the line leads to another: the host's talk comes to its end, by the outcomes of its commands.
abbrev pub PlaysScript : List ℕ → LinePlace Host → LineEffect → LinePlace Host → Type 0
PlaysScript line at effect next =
    (said : ScriptLine) × SaysLine line said × (events : List Event) × (printed : Printed) × (after : Host)
    × Goes (playing at.memory said) events (Ends printed after) × AnswersEvents at.state events effect.outcomes next.state
    × (effect.texts ≡ texts_of (is_quiet said) printed) × (effect.differs ≡ is_difference printed)
    × (next.memory ≡ remembering (status_printed printed) after)

-- the line has a form
abbrev pub IsScript : List ℕ → Type 0
IsScript line = (said : ScriptLine) × SaysLine line said

-- The device failed in a command of the line, after the outcomes of those before it.
abbrev pub BreaksScript : List ℕ → LinePlace Host → List Outcome → State → Outcome → Type 0
BreaksScript line at begun mid next =
    (said : ScriptLine) × SaysLine line said × (events : List Event) × (command : List ℕ) × (rest : List ℕ → Talk)
    × Goes (playing at.memory said) events (Sends command rest) × AnswersEvents at.state events begun mid × Step mid command next
