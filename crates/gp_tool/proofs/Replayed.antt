-- What comes of one line in `replay`.
use Rattle.std.proofs.Common.{◌≡◌, ℕ, Bool, List, [], ◌∷◌, ◌++◌, length, refl, sym, ap, subst, ◌∙◌, inl, inr, arith}
use Rattle.std.proofs.lemmas.List.{append-nil}
use Rattle.std.specs.Prelude.{None}
use Rattle.std.specs.List.{concat}
use Rattle.card_core.specs.Card.{CardOver}
use Rattle.flash_core.specs.declared.flash.Flash.{Ghosts as Flash}
use Rattle.flash_core.specs.declared.page.Page.{Page}
use Rattle.policy_machine.specs.Step.{Outcome}
use Rattle.gp_tool.proofs.Moments.{nothing_done}
use Rattle.gp_tool.proofs.Spelled.{not_for_card}
use Rattle.gp_tool.specs.Compare.{ComparesLine, IsMet, KeepsLine, keeping}
use Rattle.gp_tool.specs.Device.{LeavesOneOf, registries}
use Rattle.gp_tool.specs.Effects.{LineEffect, LinePlace}
use Rattle.gp_tool.specs.Form.{FailsCommand}
use Rattle.gp_tool.specs.Replay.{Compares, IsForReplay, LastReply, Replays}
use Rattle.gp_tool.specs.Serve.{IsHeld, RunsLine, ServesLine, Standing, StandsAt}
use Rattle.gp_tool.specs.declared.line.LineEnd.{LineEnd}
use Rattle.gp_tool.specs.declared.line.LineEnd.TheVariants.{Done, NoForm, WriteFault, FlashFailed}

-- no command is in a comparison
no_outcomes : (number : ℕ) (want got : List ℕ) (effect : LineEffect) → Compares number want got effect → effect.outcomes ≡ []
no_outcomes number want got effect (inl same) = ap (λ (e : LineEffect). e.outcomes) same.1
no_outcomes number want got effect (inr differs) = ap (λ (e : LineEffect). e.outcomes) differs.1

module _ {F : Type 0} (device : Flash F) (writes : Type 0) (number : ℕ) (line : List ℕ) where
  abbrev Serves : Standing F LastReply → Standing F LastReply → List ℕ → List ℕ → LineEnd → Type 0
  Serves old new text text' result = ServesLine IsHeld (Replays number line) (IsForReplay line) (FailsCommand line) device writes old new text text' result

  module _ (only : (f : F) (c : List Page) → device.tells → device.left_since f (device.moment f) c → device.may_leave f c) (card : CardOver F) (kept kept' : LastReply) (done : ℕ) (differs differs' : Bool) where
    -- a reply was compared
    met_runs : (met : IsMet number line kept kept' differs differs') (place : LinePlace LastReply) → StandsAt IsHeld device (keeping card kept done differs) place
        → (played : RunsLine IsHeld (Replays number line) device (keeping card kept done differs) (keeping card kept' done differs') place) × (played.effect.texts ≡ met.effect.texts)
    met_runs met place stands =
        let meets = met.meets in
        let none = no_outcomes number met.want met.got met.effect met.compares in (
          record {
            effect = met.effect;
            next = record { memory = None; state = place.state };
            plays = inr (met.want, met.got, (meets.0, sym stands.1 ∙ meets.1), met.compares, refl);
            stands = (stands.0, met.kept_no_more);
            leaves = subst (λ (os : List Outcome). LeavesOneOf device card.flash card.flash (registries place.state os)) (sym none) (nothing_done device only card place.state stands.0);
            done = (let len = ap length none in λ n is. omega (arith, len, is));
            differs = met.tells;
          },
          refl,
        )

    pub compared_serves : (rest text text' : List ℕ) → line ≡ 61 ∷ rest → (result : LineEnd) → ComparesLine number line writes kept kept' differs differs' text text' result
        → Serves (keeping card kept done differs) (keeping card kept' done differs') text text' result
    compared_serves rest text text' begins Done compared = λ place stands.
        (let played = met_runs compared.0 place stands in
        (played.0, λ told. compared.1 told ∙ ap (λ ts. text ++ concat ts) (sym played.1)))
    compared_serves rest text text' begins NoForm compared = (
      λ memory held form. elim form [
        | inl given ↦ not_for_card line rest given.0 begins given.1
        | inr wants ↦ (let meets = wants.2 in compared.0 wants.0 wants.1 (meets.0, held ∙ meets.1))
      ],
      λ i. keeping card (compared.1 i) done (compared.2 i),
      compared.3,
    )
    compared_serves rest text text' begins WriteFault compared = λ place stands.
        (let played = met_runs compared.0 place stands in
        (played.0, compared.1, played.1 ∙ compared.2, compared.3))
    compared_serves rest text text' begins FlashFailed compared = absurd compared

  -- a line was given to the card
  pub kept_serves : (old new : Standing F LastReply) (text : List ℕ) → ((rest : List ℕ) → line ≡ 61 ∷ rest → ⊥) → (result : LineEnd) → KeepsLine line device old new result
      → Serves old new text text result
  kept_serves old new text other Done kept = λ place stands.
      (let played = kept place stands in
      let run = played.0 in (
        record {
          effect = run.effect;
          next = run.next;
          plays = inl run.plays;
          stands = run.stands;
          leaves = run.leaves;
          done = run.done;
          differs = run.differs;
        },
        λ told. sym (append-nil text) ∙ ap (λ ts. text ++ concat ts) (sym played.1),
      ))
  kept_serves old new text other NoForm kept = (
    λ memory held form. elim form [
      | inl given ↦ kept.0 given
      | inr wants ↦ (let meets = wants.2 in let want = meets.0 in other (want.0 ++ want.1) want.2)
    ],
    kept.1,
    λ told. refl,
  )
  kept_serves old new text other WriteFault kept = absurd kept
  kept_serves old new text other FlashFailed kept = (λ told. refl, kept)
