-- How a card comes from where it was to where it is, by what it is given.
use Rattle.std.specs.Prelude.{◌≡◌, ℕ, List, false, [], ◌∷◌, ◌++◌, map}
use Rattle.policy_machine.specs.Run.{Input, Command as Given, Reset as PowerOff}
use Rattle.policy_machine.specs.State.{State, powered_on}
use Rattle.script_tool.specs.Lead.{LeadsTo}
use Rattle.script_tool.specs.Talk.{Answered, Event, Reset}
use Rattle.script_tool.specs.declared.link.CardLink.{Ghosts as CardLink}

-- the events lead a card from one state to another
abbrev pub LeadOn : State → List Event → State → Type 0
LeadOn state [] last = last ≡ state
LeadOn state (Reset ∷ events) last = LeadOn (powered_on state.registry) events last
LeadOn state (Answered command reply ∷ events) last = (after : State) × LeadsTo state command reply after × LeadOn after events last

-- what the card was given
abbrev pub given_in : Event → Input
given_in Reset = PowerOff
given_in (Answered command reply) = Given command

-- Over a link the events have come: the card stands after them, and they have joined what it was given since an earlier time,
-- and the events that the link has conveyed since.
pub record Conveys {L : Type 0} (link : CardLink L) (old new : L) (events : List Event) : Type 0 where
  pub stands : (state : State) → link.stands old state → (last : State) × LeadOn state events last × link.stands new last
  pub came : (start : L) (first : State) (inputs : List Input) → link.came start old first inputs
      → link.came start new first (inputs ++ map given_in events)
  pub told : (start : L) (before : List Event) → link.conveyed start old before → link.conveyed start new (before ++ events)

-- After the events a command was refused: the link is not up any more.
pub record Breaks {L : Type 0} (link : CardLink L) (old new : L) (events : List Event) (command : List ℕ) : Type 0 where
  pub down : link.up new ≡ false
  pub led : (state : State) → link.stands old state → (last : State) × LeadOn state events last
  pub came : (start : L) (first : State) (inputs : List Input) → link.came start old first inputs
      → link.came start new first (inputs ++ map given_in events ++ Given command ∷ [])
  pub told : (start : L) (before : List Event) → link.conveyed start old before → link.refused start new (before ++ events) command
