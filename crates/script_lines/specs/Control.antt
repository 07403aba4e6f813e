-- The lines that send nothing to the card.
use Rattle.std.specs.Prelude.{◌≡◌, ℕ, List, [], ◌∷◌, codes}
use Rattle.apdu_core.specs.declared.reply.Status.{Status}
use Rattle.script_lines.specs.Channel.{SaysChannel}
use Rattle.script_lines.specs.Keys.{SpellKeys}
use Rattle.script_lines.specs.TokenKey.{SaysTokens, token_verb}
use Rattle.script_lines.specs.Words.{SpellsStatus}
use Rattle.script_lines.specs.declared.control.Control as the_type
use Rattle.script_lines.specs.declared.control.Control.TheVariants.{Reset, Channel, Keys, Tokens, Want}

-- the verb of each form
abbrev pub control_verb : the_type.Control → List ℕ
control_verb Reset = codes "reset"
control_verb (Channel channel) = codes "channel"
control_verb (Keys keys) = codes "keys"
control_verb (Tokens tokens) = token_verb tokens
control_verb (Want status) = codes "want"

-- `want SSSS`: the status that the last command is to have
abbrev pub SaysWant : List (List ℕ) → Status → Type 0
SaysWant (status ∷ []) s = SpellsStatus status s
SaysWant _ s = ⊥

-- what the words after the verb say
abbrev pub SayControl : List (List ℕ) → the_type.Control → Type 0
SayControl words Reset = words ≡ []
SayControl words (Channel channel) = SaysChannel words channel
SayControl words (Keys keys) = SpellKeys words keys
SayControl words (Tokens tokens) = SaysTokens words tokens
SayControl words (Want status) = SaysWant words status

abbrev pub SaysControl : List (List ℕ) → the_type.Control → Type 0
SaysControl (verb ∷ words) c = (verb ≡ control_verb c) × SayControl words c
SaysControl [] c = ⊥
