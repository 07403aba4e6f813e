-- For the code inside. What comes of one line.
use Rattle.std.specs.Prelude.{◌≡◌, ℕ, Bool, ◌||◌, List, [], ◌∷◌, ◌++◌, length, take}
use Rattle.std.specs.List.{concat}
use Rattle.card_core.specs.Card.{CardOver, CardRepresents}
use Rattle.faults.specs.Faults.{Rose}
use Rattle.flash_core.specs.declared.flash.Flash.{Ghosts as Flash}
use Rattle.policy_machine.specs.State.{State}
use Rattle.policy_machine.specs.Step.{Outcome}
use Rattle.gp_tool.specs.Counted.{CountsOn}
use Rattle.gp_tool.specs.Device.{LeavesOneOf, LeftOneOf, registries}
use Rattle.gp_tool.specs.Effects.{LineEffect, LinePlace}
use Rattle.gp_tool.specs.declared.line.LineEnd.{LineEnd}
use Rattle.gp_tool.specs.declared.line.LineEnd.TheVariants.{Done, NoForm, WriteFault, FlashFailed}

-- Where the program stands between two lines: the card, what the code holds of the lines before, how many commands were
-- answered, and whether a reply differed.
pub record Standing (F H : Type 0) : Type 0 where
  pub card : CardOver F
  pub held : H
  pub done : ℕ
  pub differs : Bool

-- what is held is what is kept
abbrev pub IsHeld : {M : Type 0} → M → M → Type 0
IsHeld held memory = held ≡ memory

-- the card stands for the state of a place, and what is held means what is kept there
abbrev pub StandsAt : {F H M : Type 0} → (H → M → Type 0) → Flash F → Standing F H → LinePlace M → Type 0
StandsAt Means device standing place = CardRepresents device standing.card place.state × Means standing.held place.memory

-- In what follows `Means` is what is held of what is kept, `Plays` what a line does, `HasForm` what is kept where it has a form, and
-- `Fails` how the device fails in it.

-- The line was played from a place.
pub record RunsLine {F H M : Type 0} (Means : H → M → Type 0) (Plays : LinePlace M → LineEffect → LinePlace M → Type 0) (device : Flash F) (old new : Standing F H) (place : LinePlace M) : Type 0 where
  pub effect : LineEffect
  pub next : LinePlace M
  pub plays : Plays place effect next
  pub stands : StandsAt Means device new next
  pub leaves : LeavesOneOf device old.card.flash new.card.flash (registries place.state effect.outcomes)
  pub done : CountsOn old.done new.done (length effect.outcomes)
  pub differs : new.differs ≡ (old.differs || effect.differs)

-- The device failed in a command of the line.
pub record BreaksLine {F H M : Type 0} (Fails : LinePlace M → List Outcome → State → Outcome → Type 0) (device : Flash F) (old new : Standing F H) (place : LinePlace M) : Type 0 where
  pub begun : List Outcome
  pub mid : State
  pub next : Outcome
  pub fails : Fails place begun mid next
  pub done : CountsOn old.done new.done (length begun)
  pub left : LeftOneOf device new.card.flash (mid.registry ∷ next.state.registry ∷ [])
  pub leaves : LeavesOneOf device old.card.flash new.card.flash (registries place.state (begun ++ next ∷ []))

-- How the program stands after a line, and what has been written where the sink tells it.
abbrev pub ServesLine : {F H M : Type 0} → (H → M → Type 0) → (LinePlace M → LineEffect → LinePlace M → Type 0) → (M → Type 0) → (LinePlace M → List Outcome → State → Outcome → Type 0) → Flash F → Type 0 → Standing F H → Standing F H → List ℕ → List ℕ → LineEnd → Type 0
ServesLine {F} {H} {M} Means Plays HasForm Fails device writes old new text text' Done =
    (place : LinePlace M) → StandsAt Means device old place
    → (played : RunsLine Means Plays device old new place) × (writes → text' ≡ text ++ concat played.effect.texts)
ServesLine {F} {H} {M} Means Plays HasForm Fails device writes old new text text' NoForm =
    ((memory : M) → Means old.held memory → HasForm memory → ⊥) × (new ≡ old) × (writes → text' ≡ text)
ServesLine {F} {H} {M} Means Plays HasForm Fails device writes old new text text' WriteFault =
    (place : LinePlace M) → StandsAt Means device old place
    → (played : RunsLine Means Plays device old new place) × (line : List ℕ) × (played.effect.texts ≡ line ∷ [])
    × (writes → (n : ℕ) × (text' ≡ text ++ take n line))
ServesLine {F} {H} {M} Means Plays HasForm Fails device writes old new text text' FlashFailed =
    (writes → text' ≡ text) × ((place : LinePlace M) → StandsAt Means device old place → BreaksLine Fails device old new place)

-- whose count of faults has risen: the sink's, from one number to another, or the device's
abbrev pub ServeCause : ℕ → ℕ → ℕ → ℕ → LineEnd → Type 0
ServeCause sink sink' device device' WriteFault = Rose sink sink'
ServeCause sink sink' device device' FlashFailed = (sink' ≡ sink) × Rose device device'
ServeCause sink sink' device device' end = sink' ≡ sink
