-- A run between two lines, and what comes of lines.
use Rattle.std.specs.Prelude.{ℕ, Bool, false, ◌||◌, List, [], ◌++◌}
use Rattle.policy_machine.specs.State.{State}
use Rattle.policy_machine.specs.Step.{Outcome}

-- Between two lines: what a verb keeps of the lines before, and the state of the card.
pub record LinePlace (Memory : Type 0) : Type 0 where
  pub memory : Memory
  pub state : State

-- What comes of lines: the outcomes of their commands, the texts that are written, one by one, and whether a reply differed
-- from the one that a line wants.
pub record LineEffect : Type 0 where
  pub outcomes : List Outcome
  pub texts : List (List ℕ)
  pub differs : Bool

abbrev pub nothing : LineEffect
nothing = record { outcomes = []; texts = []; differs = false }

abbrev pub both_effects : LineEffect → LineEffect → LineEffect
both_effects one more = record { outcomes = one.outcomes ++ more.outcomes; texts = one.texts ++ more.texts; differs = one.differs || more.differs }
