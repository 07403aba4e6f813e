-- Lines after lines.
use Rattle.std.proofs.Common.{◌≡◌, ℕ, ◌+◌, List, [], ◌∷◌, ◌++◌, length, refl, sym, ap, subst, ◌∙◌, arith, append_assoc}
use Rattle.std.specs.Prelude.{Contains}
use Rattle.std.proofs.Math.Bool.{or-false, or_assoc}
use Rattle.std.proofs.lemmas.List.{append-nil}
use Rattle.card_types.proofs.Members.{contains_first}
use Rattle.flash_core.specs.declared.flash.Flash.{Ghosts as Flash}
use Rattle.policy_machine.specs.Step.{Outcome}
use Rattle.gp_tool.proofs.Moments.{among_first, among_more, joins}
use Rattle.gp_tool.proofs.One.{Same, line_ends, line_once}
use Rattle.gp_tool.specs.Device.{LeavesOneOf, registries}
use Rattle.gp_tool.specs.Effects.{LineEffect, LinePlace, both_effects, nothing}
use Rattle.gp_tool.specs.RunsLines.{Memory, PlaysLine, RunsLines}
use Rattle.gp_tool.specs.declared.verb.Verb.{Verb}

joined_nothing : (one : LineEffect) → both_effects one nothing ≡ one
joined_nothing one i = record { outcomes = append-nil one.outcomes i; texts = append-nil one.texts i; differs = or-false one.differs i }

joined_joined : (one two more : LineEffect) → both_effects (both_effects one two) more ≡ both_effects one (both_effects two more)
joined_joined one two more i = record {
  outcomes = append_assoc one.outcomes two.outcomes more.outcomes i;
  texts = append_assoc one.texts two.texts more.texts i;
  differs = or_assoc one.differs two.differs more.differs i;
}

module _ (verb : Verb) where
  -- one line further
  pub runs_more : (number m : ℕ) (given : List (List ℕ)) (line : List ℕ) (at mid last : LinePlace (Memory verb)) (effect one : LineEffect) → m ≡ number + length given
      → RunsLines verb number given at effect mid → PlaysLine verb m line mid one last → RunsLines verb number (given ++ line ∷ []) at (both_effects effect one) last
  runs_more number m [] line at mid last effect one is runs plays =
      let same : m ≡ number = omega (arith, is) in
      let here : PlaysLine verb number line at one last
      = subst (λ (place : LinePlace (Memory verb)). PlaysLine verb number line place one last) runs.1 (subst (λ (n : ℕ). PlaysLine verb n line mid one last) same plays) in
      (one, last, nothing, here, (refl, refl), ap (λ e. both_effects e one) runs.0 ∙ sym (joined_nothing one))
  runs_more number m (first ∷ given) line at mid last effect one is runs plays =
      let further : m ≡ (number + 1) + length given = omega (arith, is) in (
        runs.0,
        runs.1,
        both_effects runs.2 one,
        runs.3,
        runs_more (number + 1) m given line runs.1 mid last runs.2 one further runs.4 plays,
        ap (λ e. both_effects e one) runs.5 ∙ joined_joined runs.0 runs.2 one,
      )

  -- lines are played in one way
  pub runs_once : (number : ℕ) (lines : List (List ℕ)) (at last another : LinePlace (Memory verb)) (effect other : LineEffect)
      → RunsLines verb number lines at effect last → RunsLines verb number lines at other another → Same effect other last another
  runs_once number [] at last another effect other none again = (none.0 ∙ sym again.0, none.1 ∙ sym again.1)
  runs_once number (line ∷ lines) at last another effect other some again =
      let first = line_once verb number line at some.1 again.1 some.0 again.0 some.3 again.3 in
      let rest = runs_once (number + 1) lines some.1 last another some.2 again.2 some.4
      (subst (λ (place : LinePlace (Memory verb)). RunsLines verb (number + 1) lines place again.2 another) (sym first.1) again.4) in
      (some.5 ∙ ap (λ e. both_effects e some.2) first.0 ∙ ap (λ e. both_effects again.0 e) rest.0 ∙ sym again.5, rest.1)

  -- the last registry is one of the run's
  pub runs_end : (number : ℕ) (lines : List (List ℕ)) (at last : LinePlace (Memory verb)) (effect : LineEffect)
      → RunsLines verb number lines at effect last → Contains (registries at.state effect.outcomes) last.state.registry
  runs_end number [] at last effect none =
      subst (λ (place : LinePlace (Memory verb)). Contains (registries at.state effect.outcomes) place.state.registry) (sym none.1)
      (contains_first at.state.registry _)
  runs_end number (line ∷ lines) at last effect some =
      let there = line_ends verb number line at some.1 some.0 some.3 in
      let more = runs_end (number + 1) lines some.1 last some.2 some.4 in
      subst (λ (e : LineEffect). Contains (registries at.state e.outcomes) last.state.registry) (sym some.5)
      (among_more at.state some.0.outcomes some.2.outcomes some.1.state there last.state.registry more)

  -- what power lost may leave after the commands of one line more
  pub leaves_further : {F : Type 0} (device : Flash F) (lines : List (List ℕ)) (at last : LinePlace (Memory verb)) (effect : LineEffect) → RunsLines verb 1 lines at effect last
      → (from mid new : F) (more : List Outcome) → LeavesOneOf device from mid (registries at.state effect.outcomes)
      → LeavesOneOf device mid new (registries last.state more) → LeavesOneOf device from new (registries at.state (effect.outcomes ++ more))
  leaves_further device lines at last effect runs from mid new more since leaves =
      joins device from mid new (registries at.state effect.outcomes) (registries last.state more) (registries at.state (effect.outcomes ++ more))
      (among_first at.state effect.outcomes more) (among_more at.state effect.outcomes more last.state (runs_end 1 lines at last effect runs)) since leaves
