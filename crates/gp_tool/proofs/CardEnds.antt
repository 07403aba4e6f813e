-- A card at the end of a link, one input further.
use Rattle.std.proofs.Common.{◌≡◌, ◌≤◌, ℕ, Bool, true, false, List, [], ◌∷◌, ◌++◌, length, refl, sym, ap, subst}
use Rattle.card_core.specs.Card.{CardRepresents, LeavesEither}
use Rattle.flash_core.specs.declared.flash.Flash.{Ghosts as Flash}
use Rattle.flash_core.specs.declared.page.Page.{Page}
use Rattle.policy_machine.specs.Run.{Command, Input, Reset, Run}
use Rattle.policy_machine.specs.State.{State, powered_on}
use Rattle.policy_machine.specs.Step.{Outcome, Step}
use Rattle.gp_tool.proofs.Counting.{count_further, few_none}
use Rattle.gp_tool.proofs.Moments.{among_first, among_more, joins, left_now, nothing_done, one_of_two, run_ends}
use Rattle.gp_tool.specs.CardEnd.{Comes, Counting, HasStopped, HaveCome}
use Rattle.gp_tool.specs.Counted.{CountsOn}
use Rattle.gp_tool.specs.Device.{LeavesOneOf, registries}

-- a run that goes on
run_command : (first : State) (inputs : List Input) (outcomes : List Outcome) (last : State) (bytes : List ℕ) (outcome : Outcome)
    → Run first inputs outcomes last → Step last bytes outcome → Run first (inputs ++ Command bytes ∷ []) (outcomes ++ outcome ∷ []) outcome.state
run_command first [] outcomes last bytes outcome run step =
    subst (λ (os : List Outcome). Run first (Command bytes ∷ []) (os ++ outcome ∷ []) outcome.state) (sym run.0)
    (subst (λ (s : State). Step s bytes outcome) run.1 step, (refl, refl))
run_command first (Command given ∷ inputs) [] last bytes outcome run step = absurd run
run_command first (Command given ∷ inputs) (o ∷ outcomes) last bytes outcome run step =
    (run.0, run_command o.state inputs outcomes last bytes outcome run.1 step)
run_command first (Reset ∷ inputs) outcomes last bytes outcome run step = run_command (powered_on first.registry) inputs outcomes last bytes outcome run step

run_reset : (first : State) (inputs : List Input) (outcomes : List Outcome) (last : State) → Run first inputs outcomes last
    → Run first (inputs ++ Reset ∷ []) outcomes (powered_on last.registry)
run_reset first [] outcomes last run = (run.0, ap (λ (s : State). powered_on s.registry) run.1)
run_reset first (Command given ∷ inputs) [] last run = absurd run
run_reset first (Command given ∷ inputs) (o ∷ outcomes) last run = (run.0, run_reset o.state inputs outcomes last run.1)
run_reset first (Reset ∷ inputs) outcomes last run = run_reset (powered_on first.registry) inputs outcomes last run

module _ {F : Type 0} (device : Flash F) where
  -- by whether the card goes on
  comes_by : (old new : Counting F) (first : State) (inputs : List Input) (live live' : Bool) → live' ≡ live → Comes device old new first inputs live → Comes device old new first inputs live'
  comes_by old new first inputs live live' same comes = subst (λ (l : Bool). Comes device old new first inputs l) (sym same) comes

  -- nothing was given
  pub come_none : ((f : F) (c : List Page) → device.tells → device.left_since f (device.moment f) c → device.may_leave f c)
      → (card : Counting F) (state : State) → CardRepresents device card.card state → Comes device card card state [] card.card.live
  come_none only card state stands = comes_by card card state [] true card.card.live stands.live (record {
    outcomes = [];
    last = state;
    run = (refl, refl);
    stands = stands;
    leaves = nothing_done device only card.card state stands;
    done = few_none card.done card.done refl;
  })

  module _ (start old new : Counting F) (first : State) (inputs : List Input) (come : HaveCome device start old first inputs) where
    -- power lost since the start
    leaves_since : (more : List Outcome) → LeavesOneOf device old.card.flash new.card.flash (registries come.last more)
        → LeavesOneOf device start.card.flash new.card.flash (registries first (come.outcomes ++ more))
    leaves_since more leaves =
        joins device start.card.flash old.card.flash new.card.flash (registries first come.outcomes) (registries come.last more) (registries first (come.outcomes ++ more))
        (among_first first come.outcomes more)
        (among_more first come.outcomes more come.last (run_ends first inputs come.outcomes come.last come.run))
        come.leaves leaves

    module _ (bytes : List ℕ) (outcome : Outcome) (step : Step come.last bytes outcome) (either : LeavesEither device old.card.flash new.card.flash come.last.registry outcome.state.registry) where
      leaves_two : LeavesOneOf device old.card.flash new.card.flash (come.last.registry ∷ outcome.state.registry ∷ [])
      leaves_two = one_of_two device old.card.flash new.card.flash come.last.registry outcome.state.registry either

      -- a command was answered
      pub come_answered : CardRepresents device new.card outcome.state → CountsOn old.done new.done 1 → new.card.live ≡ true
          → Comes device start new first (inputs ++ Command bytes ∷ []) new.card.live
      come_answered stands done live = comes_by start new first (inputs ++ Command bytes ∷ []) true new.card.live live (record {
        outcomes = come.outcomes ++ outcome ∷ [];
        last = outcome.state;
        run = run_command first inputs come.outcomes come.last bytes outcome come.run step;
        stands = stands;
        leaves = leaves_since (outcome ∷ []) leaves_two;
        done = count_further start.done old.done new.done come.outcomes (outcome ∷ []) come.done done;
      })

      -- the device failed in a command
      pub come_stopped : ((f : F) (t : ℕ) (c : List Page) → device.tells → t ≤ device.moment f → device.may_leave f c → device.left_since f t c)
          → new.done ≡ old.done → new.card.live ≡ false → Comes device start new first (inputs ++ Command bytes ∷ []) new.card.live
      come_stopped counts done live = comes_by start new first (inputs ++ Command bytes ∷ []) false new.card.live live (record {
        before = inputs;
        bytes = bytes;
        inputs_are = refl;
        outcomes = come.outcomes;
        mid = come.last;
        next = outcome;
        run = come.run;
        step = step;
        left = left_now device counts old.card.flash new.card.flash (come.last.registry ∷ outcome.state.registry ∷ []) leaves_two;
        leaves = leaves_since (outcome ∷ []) leaves_two;
        done = subst (λ (n : ℕ). CountsOn start.done n (length come.outcomes)) (sym done) come.done;
      })

    -- the card's power was taken away and given back
    pub come_reset : CardRepresents device new.card (powered_on come.last.registry) → new.card.flash ≡ old.card.flash → new.done ≡ old.done → new.card.live ≡ true
        → Comes device start new first (inputs ++ Reset ∷ []) new.card.live
    come_reset stands flash done live = comes_by start new first (inputs ++ Reset ∷ []) true new.card.live live (record {
      outcomes = come.outcomes;
      last = powered_on come.last.registry;
      run = run_reset first inputs come.outcomes come.last come.run;
      stands = stands;
      leaves = subst (λ (f : F). LeavesOneOf device start.card.flash f (registries first come.outcomes)) (sym flash) come.leaves;
      done = subst (λ (n : ℕ). CountsOn start.done n (length come.outcomes)) (sym done) come.done;
    })

  -- a card that goes on has come
  pub has_come : (old new : Counting F) (first : State) (inputs : List Input) (live : Bool) → live ≡ true → Comes device old new first inputs live → HaveCome device old new first inputs
  has_come old new first inputs live is comes = subst (λ (l : Bool). Comes device old new first inputs l) is comes

  pub has_stopped : (old new : Counting F) (first : State) (inputs : List Input) (live : Bool) → live ≡ false → Comes device old new first inputs live → HasStopped device old new first inputs
  has_stopped old new first inputs live is comes = subst (λ (l : Bool). Comes device old new first inputs l) is comes
