-- Lines of the verb `replay`: the reply to a command is kept, and compared with the one that a line after it wants.
use Rattle.std.specs.Prelude.{◌≡◌, ◌≢◌, ◌⊎◌, ℕ, ◌≤◌, true, false, List, [], ◌∷◌, ◌++◌, length, None, Ok, Option, Some, codes, decimal}
use Rattle.hex.specs.Hex.{decode_of, encode_lower}
use Rattle.policy_machine.specs.Run.{Input, Run}
use Rattle.policy_machine.specs.Step.{Outcome}
use Rattle.gp_tool.specs.Effects.{LineEffect, LinePlace, nothing}
use Rattle.gp_tool.specs.Form.{IsForCard, SpellsInputs}
use Rattle.script_tool.specs.Line.{IsBlank}

-- the reply to the last command, where one is there to be compared
abbrev pub LastReply : Type 0
LastReply = Option (List ℕ)

-- what is kept after a line for the card: a command's reply, and none after a reset
abbrev pub kept_after : LastReply → List Input → List Outcome → LastReply
kept_after kept [] outcomes = kept
kept_after kept (input ∷ inputs) [] = None
kept_after kept (input ∷ inputs) (outcome ∷ outcomes) = Some outcome.reply

-- the bytes that a line wants: after '=' and any number of spaces, two or more in digits
abbrev pub Wants : List ℕ → List ℕ → Type 0
Wants line bytes =
    (spaces digits : List ℕ) × (line ≡ 61 ∷ spaces ++ digits) × IsBlank spaces × (decode_of digits ≡ Ok bytes) × (2 ≤ length bytes)

-- what a line wants, and the reply that it is compared with
abbrev pub Meets : List ℕ → LastReply → List ℕ → List ℕ → Type 0
Meets line kept want got = Wants line want × (kept ≡ Some got)

-- the text of a difference
abbrev pub difference : ℕ → List ℕ → List ℕ → List ℕ
difference number want got =
    codes "line " ++ decimal number ++ codes " want " ++ encode_lower want ++ codes " got " ++ encode_lower got ++ 10 ∷ []

-- a reply that is the one wanted writes nothing, and another one a difference
abbrev pub Compares : ℕ → List ℕ → List ℕ → LineEffect → Type 0
Compares number want got effect =
    ((want ≡ got) × (effect ≡ nothing))
    ⊎ ((want ≢ got) × (effect ≡ record { outcomes = []; texts = difference number want got ∷ []; differs = true }))

-- From one place a line for the card leads to another, and nothing is written.
abbrev pub KeepsReplies : List ℕ → LinePlace LastReply → LineEffect → LinePlace LastReply → Type 0
KeepsReplies line at effect next =
    (inputs : List Input) × SpellsInputs line inputs × Run at.state inputs effect.outcomes next.state
    × (effect.texts ≡ []) × (effect.differs ≡ false) × (next.memory ≡ kept_after at.memory inputs effect.outcomes)

-- The reply that was kept is compared with the one that the line wants, and is kept no more.
abbrev pub IsCompared : ℕ → List ℕ → LinePlace LastReply → LineEffect → LinePlace LastReply → Type 0
IsCompared number line at effect next =
    (want got : List ℕ) × Meets line at.memory want got × Compares number want got effect × (next ≡ record { memory = None; state = at.state })

-- the line of this number does one or the other
abbrev pub Replays : ℕ → List ℕ → LinePlace LastReply → LineEffect → LinePlace LastReply → Type 0
Replays number line at effect next = KeepsReplies line at effect next ⊎ IsCompared number line at effect next

-- the line has a form
abbrev pub IsForReplay : List ℕ → LastReply → Type 0
IsForReplay line kept = IsForCard line ⊎ ((want got : List ℕ) × Meets line kept want got)
