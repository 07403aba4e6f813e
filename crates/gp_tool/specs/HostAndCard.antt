-- A host that plays lines over a link, with this card at its other end. This profile's own.
use Rattle.std.specs.Prelude.{◌≡◌, ◌↔◌, ℕ, List, [], ◌∷◌}
use Rattle.script_tool.specs.Host.{Host}
use Rattle.script_tool.specs.HostLines.{HostPlaysAll}
use Rattle.script_tool.specs.Talk.{Event}
use Rattle.gp_tool.specs.Effects.{LineEffect, LinePlace}
use Rattle.gp_tool.specs.RunsLines.{RunsLines}
use Rattle.gp_tool.specs.Script.{AnswersEvents}
use Rattle.gp_tool.specs.declared.verb.Verb.TheVariants.{Play}

-- the texts of the lines that print something
abbrev pub without_empty : List (List ℕ) → List (List ℕ)
without_empty [] = []
without_empty ([] ∷ texts) = without_empty texts
without_empty (text ∷ texts) = text ∷ without_empty texts

-- From one place to another the host plays the lines by these events, and the card answers them.
pub record PlayedTogether (lines : List (List ℕ)) (at : LinePlace Host) (effect : LineEffect) (last : LinePlace Host) : Type 0 where
  pub events : List Event
  pub texts : List (List ℕ)
  pub plays : HostPlaysAll lines at.memory events texts effect.differs last.memory
  pub answers : AnswersEvents at.state events effect.outcomes last.state
  pub texts_are : effect.texts ≡ without_empty texts

-- What host and card do together is what the verb `play` does.
abbrev pub HostAndCard : Type 0
HostAndCard =
    (number : ℕ) (lines : List (List ℕ)) (at last : LinePlace Host) (effect : LineEffect)
    → PlayedTogether lines at effect last ↔ RunsLines Play number lines at effect last
