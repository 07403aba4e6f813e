-- What comes of a line that was given to the card.
use Rattle.std.proofs.Common.{◌≡◌, ℕ, false, List, [], ◌∷◌, ◌++◌, refl, sym, ap, subst, ◌∙◌}
use Rattle.std.proofs.Math.Bool.{or-false}
use Rattle.std.proofs.lemmas.List.{append-nil}
use Rattle.std.specs.List.{concat}
use Rattle.flash_core.specs.declared.flash.Flash.{Ghosts as Flash}
use Rattle.flash_core.specs.declared.page.Page.{Page}
use Rattle.policy_machine.specs.Step.{Outcome}
use Rattle.gp_tool.proofs.Counting.{few_none}
use Rattle.gp_tool.proofs.Moments.{nothing_done}
use Rattle.gp_tool.specs.Counted.{CountsOn}
use Rattle.gp_tool.specs.Device.{LeavesOneOf, LeftOneOf}
use Rattle.gp_tool.specs.Effects.{LineEffect, LinePlace, nothing}
use Rattle.gp_tool.specs.Form.{FailsCommand}
use Rattle.gp_tool.specs.Give.{Commands}
use Rattle.gp_tool.specs.Serve.{BreaksLine, RunsLine, Standing, StandsAt}

-- what a command's effect is: its outcome, and the texts
abbrev pub one_outcome : Outcome → List (List ℕ) → LineEffect
one_outcome outcome texts = record { outcomes = outcome ∷ []; texts = texts; differs = false }

module _ {F H M : Type 0} (Means : H → M → Type 0) (device : Flash F) (old new : Standing F H) (place : LinePlace M) where
  -- no command was given
  pub silent_runs : (Plays : LinePlace M → LineEffect → LinePlace M → Type 0) (next : LinePlace M)
      → ((f : F) (c : List Page) → device.tells → device.left_since f (device.moment f) c → device.may_leave f c)
      → StandsAt Means device old place → StandsAt Means device new next → new.card.flash ≡ old.card.flash → new.done ≡ old.done → new.differs ≡ old.differs
      → Plays place nothing next → (played : RunsLine Means Plays device old new place) × (played.effect.texts ≡ [])
  silent_runs Plays next only stands stands' flash done differs plays = (
    record {
      effect = nothing;
      next = next;
      plays = plays;
      stands = stands';
      leaves = subst (λ (f : F). LeavesOneOf device old.card.flash f (place.state.registry ∷ [])) (sym flash) (nothing_done device only old.card place.state stands.0);
      done = few_none old.done new.done done;
      differs = differs ∙ sym (or-false old.differs);
    },
    refl,
  )

  module _ (line : List ℕ) (outcome : Outcome) (commands : Commands line device old.card.flash new.card.flash place.state outcome) where
    -- a command was given, and answered
    pub command_runs : (Plays : LinePlace M → LineEffect → LinePlace M → Type 0) (next : LinePlace M) (texts : List (List ℕ))
        → StandsAt Means device new next → CountsOn old.done new.done 1 → new.differs ≡ old.differs → Plays place (one_outcome outcome texts) next
        → (played : RunsLine Means Plays device old new place) × (played.effect.texts ≡ texts)
    command_runs Plays next texts stands done differs plays = (
      record {
        effect = one_outcome outcome texts;
        next = next;
        plays = plays;
        stands = stands;
        leaves = commands.leaves;
        done = done;
        differs = differs ∙ sym (or-false old.differs);
      },
      refl,
    )

    -- the device failed in it
    pub command_breaks : LeftOneOf device new.card.flash (place.state.registry ∷ outcome.state.registry ∷ []) → new.done ≡ old.done → BreaksLine (FailsCommand line) device old new place
    command_breaks left done = record {
      begun = [];
      mid = place.state;
      next = outcome;
      fails = (refl, refl, commands.bytes, commands.spelled, commands.step);
      done = few_none old.done new.done done;
      left = left;
      leaves = commands.leaves;
    }

-- a line whose texts are written
module _ {F H M : Type 0} {Means : H → M → Type 0} {Plays : LinePlace M → LineEffect → LinePlace M → Type 0} {device : Flash F} {old new : Standing F H} {place : LinePlace M} (writes : Type 0) (text text' : List ℕ) where
  -- it has none
  pub then_nothing : (played : RunsLine Means Plays device old new place) × (played.effect.texts ≡ []) → (writes → text' ≡ text)
      → (played : RunsLine Means Plays device old new place) × (writes → text' ≡ text ++ concat played.effect.texts)
  then_nothing played same = (played.0, λ told. same told ∙ sym (append-nil text) ∙ ap (λ ts. text ++ concat ts) (sym played.1))

  -- it has one
  pub then_line : (line : List ℕ) → (played : RunsLine Means Plays device old new place) × (played.effect.texts ≡ line ∷ []) → (writes → text' ≡ text ++ line)
      → (played : RunsLine Means Plays device old new place) × (writes → text' ≡ text ++ concat played.effect.texts)
  then_line line played wrote =
      (played.0, λ told. wrote told ∙ ap (λ t. text ++ t) (sym (append-nil line)) ∙ ap (λ ts. text ++ concat ts) (sym played.1))
