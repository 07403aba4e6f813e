-- What power lost in a run may leave, from command to command.
use Rattle.std.proofs.Common.{◌≡◌, ◌⊎◌, ◌≤◌, ℕ, List, [], ◌∷◌, ◌++◌, length, sym, ap, subst, inl, inr, ⊎_elim}
use Rattle.std.specs.Prelude.{Contains, map}
use Rattle.std.proofs.lemmas.List.{map-append}
use Rattle.std.proofs.lemmas.List.Elements.{Contains-append_left, Contains-append_right}
use Rattle.card_core.specs.Card.{CardOver, CardRepresents}
use Rattle.card_types.proofs.Members.{contains_cases, contains_first, contains_later}
use Rattle.card_types.specs.Registry.{Registry}
use Rattle.flash_core.specs.declared.flash.Flash.{Ghosts as Flash}
use Rattle.flash_core.specs.declared.page.Page.{Page}
use Rattle.page_journal.specs.Moments.{LeavesOnly}
use Rattle.policy_machine.specs.Run.{Command, Input, Reset, Run}
use Rattle.policy_machine.specs.State.{State, powered_on}
use Rattle.policy_machine.specs.Step.{Outcome}
use Rattle.rec_store.proofs.Leaving.{joined, unmoved, weaker}
use Rattle.rec_store.specs.Reopens.{Reopens, ReopensAsOne}
use Rattle.gp_tool.specs.Device.{HasFailed, HasRun, LeavesOneOf, LeftOneOf, registries}

-- each of some registries is one of all
abbrev pub Among : List Registry → List Registry → Type 0
Among some all = (registry : Registry) → Contains some registry → Contains all registry

-- What power lost before, between and since two moments may leave fits together.
abbrev pub Joins : (List Registry → Type 0) → (List Registry → Type 0) → (List Registry → Type 0) → Type 0
Joins Before Between Since = (some more all : List Registry) → Among some all → Among more all → Before some → Between more → Since all

-- the last registry is one of those after the commands
pub run_ends : (state : State) (inputs : List Input) (outcomes : List Outcome) (last : State) → Run state inputs outcomes last → Contains (registries state outcomes) last.registry
run_ends state [] outcomes last run =
    subst (λ (r : Registry). Contains (registries state outcomes) r) (ap (λ (s : State). s.registry) (sym run.1)) (contains_first state.registry (map (λ outcome. outcome.state.registry) outcomes))
run_ends state (Command bytes ∷ inputs) [] last run = absurd run
run_ends state (Command bytes ∷ inputs) (outcome ∷ outcomes) last run =
    contains_later state.registry (registries outcome.state outcomes) last.registry (run_ends outcome.state inputs outcomes last run.1)
run_ends state (Reset ∷ inputs) outcomes last run = run_ends (powered_on state.registry) inputs outcomes last run

module _ (first : State) (some more : List Outcome) where
  -- those of the first commands
  pub among_first : Among (registries first some) (registries first (some ++ more))
  among_first registry there =
      subst (λ (rs : List Registry). Contains (first.registry ∷ rs) registry) (sym (map-append (λ (o : Outcome). o.state.registry) some more))
      (Contains-append_left (registries first some) (map (λ (o : Outcome). o.state.registry) more) registry there)

  -- those of the commands after them
  pub among_more : (state : State) → Contains (registries first some) state.registry → Among (registries state more) (registries first (some ++ more))
  among_more state there registry among = elim (contains_cases state.registry (map (λ (o : Outcome). o.state.registry) more) registry among) [
    | inl same ↦ among_first registry (subst (Contains (registries first some)) same there)
    | inr later ↦
        subst (λ (rs : List Registry). Contains (first.registry ∷ rs) registry) (sym (map-append (λ (o : Outcome). o.state.registry) some more))
        (Contains-append_right (registries first some) (map (λ (o : Outcome). o.state.registry) more) registry later)
  ]

module _ {F : Type 0} (device : Flash F) where
  abbrev Only : F → F → (List Page → Type 0) → Type 0
  Only old new P = LeavesOnly device old new P

  -- a registry that is one of some is one of all
  one_of : (some all : List Registry) → Among some all → (c : List Page) → ReopensAsOne some c → ReopensAsOne all c
  one_of some all among c reopens = (reopens.0, among reopens.0 reopens.1, reopens.2)

  pub joins : (old mid new : F)
      → Joins (LeavesOneOf device old mid) (LeavesOneOf device mid new) (LeavesOneOf device old new)
  joins old mid new some more all first then before between told =
      joined device old mid new (ReopensAsOne all) (ReopensAsOne all) (weaker device old mid (ReopensAsOne some) (ReopensAsOne all) (before told) (one_of some all first))
      (weaker device mid new (ReopensAsOne more) (ReopensAsOne all) (between told) (one_of more all then)) (λ c reopens. reopens)

  -- where nothing was done power lost leaves the registry of the card
  pub nothing_done : ((f : F) (c : List Page) → device.tells → device.left_since f (device.moment f) c → device.may_leave f c)
      → (card : CardOver F) (state : State) → CardRepresents device card state → LeavesOneOf device card.flash card.flash (state.registry ∷ [])
  nothing_done only card state stands told =
      let keeps = stands.keeps told in
      unmoved device (device.may_leave card.flash) card.flash (ReopensAsOne (state.registry ∷ [])) (λ c. only card.flash c told)
      (λ c possible. (state.registry, contains_first state.registry [], keeps.reopens c possible))

  -- the registry before a command or the one after it is one of the two
  pub one_of_two : (old new : F) (before after : Registry)
      → (device.tells → Only old new (λ c. Reopens c before ⊎ Reopens c after)) → LeavesOneOf device old new (before ∷ after ∷ [])
  one_of_two old new before after leaves told =
      weaker device old new (λ c. Reopens c before ⊎ Reopens c after) (ReopensAsOne (before ∷ after ∷ [])) (leaves told)
      (λ c reopens. ⊎_elim (λ was. (before, contains_first before (after ∷ []), was))
      (λ is. (after, contains_later before (after ∷ []) after (contains_first after []), is)) reopens)

  pub has_run : (old : F) (card : CardOver F) (first : State) (count : ℕ) (outcomes : List Outcome) (last : State) → count ≡ length outcomes
      → CardRepresents device card last → LeavesOneOf device old card.flash (registries first outcomes)
      → HasRun device old card.flash first count outcomes last × CardRepresents device card last
  has_run old card first count outcomes last done stands leaves =
      (record { done = done; keeps = stands.keeps; moments = λ told before. leaves told }, stands)

  -- power lost now leaves what power lost since a moment before leaves
  pub left_now : ((f : F) (t : ℕ) (c : List Page) → device.tells → t ≤ device.moment f → device.may_leave f c → device.left_since f t c)
      → (old new : F) (all : List Registry) → LeavesOneOf device old new all → LeftOneOf device new all
  left_now counts old new all leaves told c possible =
      let since = leaves told in
      since.each c (counts new (device.moment old) c told since.later possible)

  pub has_failed : (old new : F) (first : State) (count : ℕ) (outcomes : List Outcome) (last : State) (next : Outcome) → count ≡ length outcomes
      → LeftOneOf device new (last.registry ∷ next.state.registry ∷ [])
      → LeavesOneOf device old new (registries first (outcomes ++ next ∷ []))
      → HasFailed device old new first count outcomes last next
  has_failed old new first count outcomes last next done left since = record { done = done; left = left; moments = λ told before. since told }
