-- Lines of the verbs `run` and `why`: the reply to each command is written.
use Rattle.std.specs.Prelude.{◌≡◌, ℕ, Bool, true, false, List, [], ◌∷◌, ◌++◌, None, Option, Some, codes, map}
use Rattle.hex.specs.Hex.{encode_lower}
use Rattle.policy_machine.specs.Rules.{name_of}
use Rattle.policy_machine.specs.Run.{Input, Run}
use Rattle.policy_machine.specs.Step.{Outcome}
use Rattle.policy_machine.specs.declared.rule.Rule.{Rule}
use Rattle.gp_tool.specs.Effects.{LineEffect, LinePlace}
use Rattle.gp_tool.specs.Form.{SpellsInputs}

-- why a command was refused: the name of the rule, or a sign where none refused it
abbrev pub reason : Option Rule → List ℕ
reason None = codes "-"
reason (Some rule) = name_of rule

-- what stands after the digits of a reply: why the command was refused, where it is explained, and a newline
abbrev pub line_end : Bool → Option Rule → List ℕ
line_end false rule = 10 ∷ []
line_end true rule = 32 ∷ reason rule ++ 10 ∷ []

-- a reply in lower-case hexadecimal digits, and what stands after them
abbrev pub reply_line : Bool → Outcome → List ℕ
reply_line explains outcome = encode_lower outcome.reply ++ line_end explains outcome.rule

-- From one state of the card a line leads to another, and the replies to its commands are written. Nothing is kept.
abbrev pub Replies : Bool → List ℕ → LinePlace (Unit {0}) → LineEffect → LinePlace (Unit {0}) → Type 0
Replies explains line at effect next =
    (inputs : List Input) × SpellsInputs line inputs × Run at.state inputs effect.outcomes next.state
    × (effect.texts ≡ map (reply_line explains) effect.outcomes) × (effect.differs ≡ false)
