-- For the code inside. What comes of one line in `replay`.
use Rattle.std.specs.Prelude.{◌≡◌, ℕ, Bool, ◌||◌, List, [], ◌∷◌, ◌++◌, None, take}
use Rattle.std.specs.List.{concat}
use Rattle.card_core.specs.Card.{CardOver}
use Rattle.flash_core.specs.declared.flash.Flash.{Ghosts as Flash}
use Rattle.gp_tool.specs.Effects.{LineEffect, LinePlace}
use Rattle.script_tool.specs.Line.{IsBlank}
use Rattle.gp_tool.specs.Form.{FailsCommand, IsForCard}
use Rattle.gp_tool.specs.Replay.{Compares, KeepsReplies, LastReply, Meets}
use Rattle.gp_tool.specs.Serve.{BreaksLine, IsHeld, RunsLine, Standing, StandsAt}
use Rattle.gp_tool.specs.declared.line.LineEnd.{LineEnd}
use Rattle.gp_tool.specs.declared.line.LineEnd.TheVariants.{Done, NoForm, WriteFault, FlashFailed}

-- Some spaces come first in a text, and this stands after them and begins with none.
pub record SkipsSpaces (text rest : List ℕ) : Type 0 where
  pub spaces : List ℕ
  pub is : text ≡ spaces ++ rest
  pub blank : IsBlank spaces
  pub no_more : (more : List ℕ) → rest ≡ 32 ∷ more → ⊥

-- The reply that was kept was compared.
pub record IsMet (number : ℕ) (line : List ℕ) (kept kept' : LastReply) (differs differs' : Bool) : Type 0 where
  pub want : List ℕ
  pub got : List ℕ
  pub effect : LineEffect
  pub meets : Meets line kept want got
  pub compares : Compares number want got effect
  pub kept_no_more : kept' ≡ None
  pub tells : differs' ≡ (differs || effect.differs)

-- what is kept then, whether a reply has differed, and what has been written
abbrev pub ComparesLine : ℕ → List ℕ → Type 0 → LastReply → LastReply → Bool → Bool → List ℕ → List ℕ → LineEnd → Type 0
ComparesLine number line writes kept kept' differs differs' old new Done =
    (met : IsMet number line kept kept' differs differs') × (writes → new ≡ old ++ concat met.effect.texts)
ComparesLine number line writes kept kept' differs differs' old new NoForm =
    ((want got : List ℕ) → Meets line kept want got → ⊥) × (kept' ≡ kept) × (differs' ≡ differs) × (writes → new ≡ old)
ComparesLine number line writes kept kept' differs differs' old new WriteFault =
    (met : IsMet number line kept kept' differs differs') × (text : List ℕ) × (met.effect.texts ≡ text ∷ [])
    × (writes → (n : ℕ) × (new ≡ old ++ take n text))
ComparesLine number line writes kept kept' differs differs' old new FlashFailed = ⊥

-- what comes of a line for the card in `replay`, which writes nothing
abbrev pub KeepsLine : {F : Type 0} → List ℕ → Flash F → Standing F LastReply → Standing F LastReply → LineEnd → Type 0
KeepsLine line device old new Done = (place : LinePlace LastReply) → StandsAt IsHeld device old place → (played : RunsLine IsHeld (KeepsReplies line) device old new place) × (played.effect.texts ≡ [])
KeepsLine line device old new NoForm = (IsForCard line → ⊥) × (new ≡ old)
KeepsLine line device old new WriteFault = ⊥
KeepsLine line device old new FlashFailed = (place : LinePlace LastReply) → StandsAt IsHeld device old place → BreaksLine (FailsCommand line) device old new place

-- where the code stands in `replay`
abbrev pub keeping : {F : Type 0} → CardOver F → LastReply → ℕ → Bool → Standing F LastReply
keeping card kept done differs = record { card = card; held = kept; done = done; differs = differs }
