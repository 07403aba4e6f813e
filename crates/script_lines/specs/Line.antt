-- What a line says.
use Rattle.std.specs.Prelude.{◌≡◌, ◌⊎◌, ℕ, List, [], ◌∷◌, Bool, codes, All, if◌then◌else◌}
use Rattle.script_lines.specs.Control.{SaysControl}
use Rattle.script_lines.specs.Exchange.{SaysExchange}
use Rattle.script_lines.specs.Words.{words_of}
use Rattle.script_lines.specs.declared.exchange.Exchange as exchange
use Rattle.script_lines.specs.declared.line.ScriptLine.{ScriptLine}
use Rattle.script_lines.specs.declared.line.ScriptLine.TheVariants.{Nothing, Control, Exchange, Quiet}

-- empty, or spaces alone
abbrev pub IsBlank : List ℕ → Type 0
IsBlank text = All (λ byte. byte ≡ 32) text

-- a comment begins with '#'
abbrev pub IsComment : List ℕ → Type 0
IsComment text = (rest : List ℕ) × (text ≡ 35 ∷ rest)

-- `-` before a verb that sends: of the reply the status alone is printed
abbrev pub SaysQuietly : List (List ℕ) → exchange.Exchange → Type 0
SaysQuietly (mark ∷ words) e = (mark ≡ codes "-") × SaysExchange words e
SaysQuietly [] e = ⊥

-- something to send, with that mark or without
abbrev pub SaysSending : List (List ℕ) → ScriptLine → Type 0
SaysSending words (Exchange e) = SaysExchange words e
SaysSending words (Quiet e) = SaysQuietly words e
SaysSending words _ = ⊥

-- the same, by whether it is quiet
abbrev pub sent_as : Bool → exchange.Exchange → ScriptLine
sent_as quiet e = if quiet then Quiet e else Exchange e

-- For the code inside. The words say something to send, which the line sends quietly or not
abbrev pub SaysSent : Bool → List (List ℕ) → ScriptLine → Type 0
SaysSent quiet words line = (e : exchange.Exchange) × SaysExchange words e × (line ≡ sent_as quiet e)

abbrev pub SaysLine : List ℕ → ScriptLine → Type 0
SaysLine text Nothing = IsBlank text ⊎ IsComment text
SaysLine text (Control control) = SaysControl (words_of text) control
SaysLine text line = SaysSending (words_of text) line

-- no line is said by the text
abbrev pub HasNoForm : List ℕ → Type 0
HasNoForm text = (line : ScriptLine) → SaysLine text line → ⊥

-- a text says at most one line
abbrev pub OneLine : Type 0
OneLine = (text : List ℕ) (a b : ScriptLine) → SaysLine text a → SaysLine text b → a ≡ b
