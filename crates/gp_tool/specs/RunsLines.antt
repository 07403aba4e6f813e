-- What lines do to a card, by the verb, and the texts that they write.
use Rattle.std.specs.Prelude.{◌≡◌, ℕ, ◌+◌, ◌≤◌, true, false, List, [], ◌∷◌, length, None}
use Rattle.io_edge.specs.declared.line.TheConstants.{LINE_LIMIT}
use Rattle.policy_machine.specs.State.{State}
use Rattle.policy_machine.specs.Step.{Outcome}
use Rattle.script_tool.specs.Host.{Host, first_host}
use Rattle.gp_tool.specs.Effects.{LineEffect, LinePlace, both_effects, nothing}
use Rattle.gp_tool.specs.Form.{FailsCommand, IsForCard}
use Rattle.gp_tool.specs.Replay.{IsForReplay, LastReply, Replays}
use Rattle.gp_tool.specs.Replies.{Replies}
use Rattle.gp_tool.specs.Script.{BreaksScript, IsScript, PlaysScript}
use Rattle.gp_tool.specs.declared.verb.Verb.{Verb}
use Rattle.gp_tool.specs.declared.verb.Verb.TheVariants.{Run, Why, Replay, Play}

-- what a verb keeps of the lines before
abbrev pub Memory : Verb → Type 0
Memory Replay = LastReply
Memory Play = Host
Memory verb = Unit {0}

-- at the start no reply is kept, and the host is a new one
abbrev pub no_memory : (verb : Verb) → Memory verb
no_memory Replay = None
no_memory Play = first_host
no_memory verb = tt

abbrev pub start : (verb : Verb) → State → LinePlace (Memory verb)
start verb first = record { memory = no_memory verb; state = first }

-- From one place the line of this number leads to another.
abbrev pub PlaysLine : (verb : Verb) → ℕ → List ℕ → LinePlace (Memory verb) → LineEffect → LinePlace (Memory verb) → Type 0
PlaysLine Run number line at effect next = Replies false line at effect next
PlaysLine Why number line at effect next = Replies true line at effect next
PlaysLine Replay number line at effect next = Replays number line at effect next
PlaysLine Play number line at effect next = PlaysScript line at effect next

-- a line has a form
abbrev pub HasForm : (verb : Verb) → List ℕ → Memory verb → Type 0
HasForm Replay line memory = IsForReplay line memory
HasForm Play line memory = IsScript line
HasForm verb line memory = IsForCard line

-- The device failed in a command of a line, after the outcomes of those before it in the line.
abbrev pub FailsLine : (verb : Verb) → List ℕ → LinePlace (Memory verb) → List Outcome → State → Outcome → Type 0
FailsLine Play line at begun mid next = BreaksScript line at begun mid next
FailsLine verb line at begun mid next = FailsCommand line at begun mid next

-- From one place lines, the first of which has this number, lead to another.
abbrev pub RunsLines : (verb : Verb) → ℕ → List (List ℕ) → LinePlace (Memory verb) → LineEffect → LinePlace (Memory verb) → Type 0
RunsLines verb number [] at effect last = (effect ≡ nothing) × (last ≡ at)
RunsLines verb number (line ∷ lines) at effect last =
    (one : LineEffect) × (next : LinePlace (Memory verb)) × (more : LineEffect)
    × PlaysLine verb number line at one next × RunsLines verb (number + 1) lines next more last × (effect ≡ both_effects one more)

-- each line has a form where a run comes to it, and is not too long
abbrev pub AreServable : (verb : Verb) → ℕ → List (List ℕ) → LinePlace (Memory verb) → Type 0
AreServable verb number [] at = Unit {0}
AreServable verb number (line ∷ lines) at =
    HasForm verb line at.memory × (length line ≤ LINE_LIMIT)
    × ((one : LineEffect) (next : LinePlace (Memory verb)) → PlaysLine verb number line at one next → AreServable verb (number + 1) lines next)
