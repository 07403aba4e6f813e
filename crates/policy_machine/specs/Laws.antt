-- The laws of the policy machine.
use Rattle.std.specs.Prelude.{◌≡◌, ◌≢◌, ℕ, List, Bool, true, false, None, MatchOption, map}
use Rattle.card_types.specs.Registry.{IsAscending, Registry}
use Rattle.card_types.specs.Well.{Well}
use Rattle.policy_machine.specs.Admission.{Of}
use Rattle.policy_machine.specs.Changes.{Changes, OpensInSession, without_number}
use Rattle.apdu_core.specs.ClassBytes.{channel_of}
use Rattle.policy_machine.specs.Commands.{AtMostOne, Takes, forms_of}
use Rattle.policy_machine.specs.Receipts.{AllCountReceipts, CountsReceipts}
use Rattle.policy_machine.specs.Run.{Input, Run}
use Rattle.policy_machine.specs.Sound.{IsSound}
use Rattle.policy_machine.specs.State.{State, powered_on, channel_at, offer_on, place_in}
use Rattle.policy_machine.specs.Step.{Outcome, Step}
use Rattle.policy_machine.specs.declared.instruction.TheConstants.{GET_STATUS}
use Rattle.policy_machine.specs.declared.rule.Rule.{Rule}
use Rattle.policy_machine.specs.declared.rule.Rule.TheVariants.{G}
use Rattle.policy_machine.specs.declared.rule.RuleG.TheVariants.{G1, G2, G3, G4}

-- a card that is powered on is sound
abbrev pub StartsSound : Type 0
StartsSound = (registry : Registry) → Well registry → IsAscending registry → IsSound (powered_on registry)

-- each step from a sound state leads to a sound one
abbrev pub StepsKeepSound : Type 0
StepsKeepSound = (state : State) (bytes : List ℕ) (outcome : Outcome) → IsSound state → Step state bytes outcome → IsSound outcome.state

-- at most one form of a command takes it
abbrev pub OneForm : Type 0
OneForm = (ins p1 p2 : ℕ) (body : List ℕ) → AtMostOne (λ form. Takes form ins p1 p2 body) (forms_of ins)

-- from one state the same bytes have at most one outcome
abbrev pub OneOutcome : Type 0
OneOutcome = (state : State) (bytes : List ℕ) (a b : Outcome) → Step state bytes a → Step state bytes b → a ≡ b

-- from one state the same inputs have at most one run
abbrev pub OneRun : Type 0
OneRun =
    (state : State) (inputs : List Input) (some others : List Outcome) (last another : State)
    → Run state inputs some last → Run state inputs others another → (some ≡ others) × (last ≡ another)

-- more than a sequence counter is changed by a command alone that no rule refuses, and that opens in a session
abbrev pub ChangesAreOpened : Type 0
ChangesAreOpened =
    (state : State) (bytes : List ℕ) (outcome : Outcome) → Step state bytes outcome → Changes state.registry outcome.state.registry
    → (outcome.rule ≡ None) × OpensInSession state bytes

-- another life cycle state of the card counts as a change, and so do other entries, Executable Load Files, keys and data objects, and
-- another sequence counter in place of one
pub record OthersAreChanges (before after : Registry) : Type 0 where
  pub life : after.life ≢ before.life → Changes before after
  pub entries : after.entries ≢ before.entries → Changes before after
  pub files : after.files ≢ before.files → Changes before after
  pub keys : after.keys ≢ before.keys → Changes before after
  pub counters : map without_number after.counters ≢ map without_number before.counters → Changes before after
  pub objects : after.objects ≢ before.objects → Changes before after

-- the rules after the checks of class, channel and instruction
abbrev pub is_later : Rule → Bool
is_later (G G1) = false
is_later (G G2) = false
is_later (G G3) = false
is_later (G G4) = false
is_later rule = true

-- a command that a later rule refuses leaves no offer on its channel
abbrev pub RefusalsDropOffers : Type 0
RefusalsDropOffers =
    (state : State) (bytes : List ℕ) (outcome : Outcome) → Step state bytes outcome → MatchOption outcome.rule ⊥ (λ rule. is_later rule ≡ true)
    → Of bytes (λ command. offer_on outcome.state.volatile (channel_of command.class) ≡ None)

-- a command that passes these checks leaves no place in a listing on its channel, unless it is GET STATUS
abbrev pub PlacesAreForgotten : Type 0
PlacesAreForgotten =
    (state : State) (bytes : List ℕ) (outcome : Outcome) → Step state bytes outcome → MatchOption outcome.rule (Unit {0}) (λ rule. is_later rule ≡ true)
    → Of bytes (λ command. command.ins ≢ GET_STATUS → place_in (channel_at outcome.state.volatile (channel_of command.class)) ≡ None)

-- each command counts receipts so, and each of a run
abbrev pub NumbersRise : Type 0
NumbersRise = (state : State) (bytes : List ℕ) (outcome : Outcome) → IsSound state → Step state bytes outcome → CountsReceipts state bytes outcome

abbrev pub NumbersRiseInRuns : Type 0
NumbersRiseInRuns =
    (state : State) (inputs : List Input) (outcomes : List Outcome) (last : State) → IsSound state → Run state inputs outcomes last → AllCountReceipts state inputs outcomes
