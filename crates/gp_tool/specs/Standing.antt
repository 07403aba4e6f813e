-- For the code inside. Where the code stands between two lines.
use Rattle.std.specs.Prelude.{ℕ, Bool, true, false, List, None, Some}
use Rattle.flash_core.specs.declared.flash.Flash.{Ghosts as Flash}
use Rattle.script_tool.specs.Kept.{RepresentsHost}
use Rattle.script_tool.specs.declared.host_state.HostState.{HostState}
use Rattle.gp_tool.specs.Replay.{LastReply}
use Rattle.gp_tool.specs.RunsLines.{FailsLine, HasForm, Memory, PlaysLine}
use Rattle.gp_tool.specs.Serve.{IsHeld, ServesLine, Standing}
use Rattle.gp_tool.specs.declared.card_end.CardEnd.{CardEnd}
use Rattle.gp_tool.specs.declared.line.LineEnd.{LineEnd}
use Rattle.gp_tool.specs.declared.workspace.Workspace.{Workspace}
use Rattle.gp_tool.specs.declared.verb.Verb.{Verb}
use Rattle.gp_tool.specs.declared.verb.Verb.TheVariants.{Run, Why, Replay, Play}

-- the reply in the workspace, where it is there to be compared
abbrev pub kept_if : Bool → List ℕ → LastReply
kept_if false reply = None
kept_if true reply = Some reply

abbrev pub kept_in : Workspace → LastReply
kept_in space = kept_if space.has_reply space.reply.items

-- what the code holds for a verb
abbrev pub Held : Verb → Type 0
Held Run = Unit {0}
Held Why = Unit {0}
Held Replay = LastReply
Held Play = HostState

abbrev pub held_in : (verb : Verb) → Workspace → Held verb
held_in Run space = tt
held_in Why space = tt
held_in Replay space = kept_in space
held_in Play space = space.player

-- what is held means what the verb keeps
abbrev pub Means : (verb : Verb) → Held verb → Memory verb → Type 0
Means Run held memory = IsHeld held memory
Means Why held memory = IsHeld held memory
Means Replay held memory = IsHeld held memory
Means Play held memory = RepresentsHost held memory

abbrev pub standing : {F H : Type 0} → CardEnd F → H → Bool → Standing F H
standing end held differs = record { card = end.card; held = held; done = end.done; differs = differs }

-- a standing of a card, with what the verb holds in the workspace
abbrev pub standing_in : {F : Type 0} (verb : Verb) → CardEnd F → Workspace → Bool → Standing F (Held verb)
standing_in verb end space differs = standing end (held_in verb space) differs

-- what comes of the line of this number, as the verb has it
abbrev pub ServesVerb : {F : Type 0} (verb : Verb) → ℕ → List ℕ → Flash F → Type 0 → Standing F (Held verb) → Standing F (Held verb) → List ℕ → List ℕ → LineEnd → Type 0
ServesVerb verb number line device writes old new text text' end =
    ServesLine (Means verb) (PlaysLine verb number line) (HasForm verb line) (FailsLine verb line) device writes old new text text' end
