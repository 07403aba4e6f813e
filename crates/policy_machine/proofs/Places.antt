-- A command after the checks of class, channel and instruction leaves no place in a listing, unless it is GET STATUS.
use Rattle.std.proofs.Common.{◌≡◌, ◌≢◌, ℕ, List, Bool, false, true, Option, None, Some, refl, sym, ap, subst, ◌∙◌, inl, inr}
use Rattle.std.specs.Prelude.{MatchOption, ◌==◌}
use Rattle.policy_machine.specs.Prelude.{Admits, Admitted, Apdu, Channel, Effect, HasEffect, Nothing, Of, Outcome, PlacesAreForgotten, Secured, Session, State, Volatile, admitted_as, channel_at, channel_of, channel_passed, class_passed, is_later, keeps_load, message_joined, place_in, refusal_leaves, secure_channel_of, with_offer_dropped, with_secure_channel, without_load, without_offer, without_place, without_session}
use Rattle.policy_machine.specs.declared.instruction.TheConstants.{EXTERNAL_AUTHENTICATE, GET_STATUS, LOAD}
use Rattle.policy_machine.specs.declared.rule.Rule.{Rule}
use Rattle.policy_machine.specs.declared.rule.Rule.TheVariants.{G}
use Rattle.policy_machine.proofs.FormTaken.{done_by}
use Rattle.policy_machine.proofs.Lawful.{HasNoPlaceOn, placeless_same, place_leaves_secure_channel}
use Rattle.policy_machine.proofs.Passing.{either}
use Rattle.policy_machine.proofs.RejectedLeaves.{rejected_leaves}
use Rattle.policy_machine.proofs.SetChannel.{set_there}

passed_has_none : (volatile : Volatile) (number : ℕ) (keeps : Bool) → HasNoPlaceOn (without_place volatile number keeps) number
passed_has_none volatile number keeps =
    set_there (λ c. place_in c ≡ None) refl volatile.channels number (channel_passed keeps (channel_at volatile number)) (none (channel_at volatile number))
  where
    none : (channel : Option Channel) → place_in (channel_passed keeps channel) ≡ None
    none None = refl
    none (Some channel) = refl

class_has_none : (volatile : Volatile) (command : Apdu) → HasNoPlaceOn (class_passed volatile command) (channel_of command.class)
class_has_none volatile command = passed_has_none volatile (channel_of command.class) (command.ins == EXTERNAL_AUTHENTICATE)

ended_has_none : (volatile : Volatile) (command : Apdu) → HasNoPlaceOn (without_session (class_passed volatile command) (channel_of command.class)) (channel_of command.class)
ended_has_none volatile command =
    let number = channel_of command.class in
    let passed = class_passed volatile command in
    place_leaves_secure_channel passed (with_secure_channel passed number Nothing) number Nothing refl (class_has_none volatile command)

joined_has_none : (volatile : Volatile) (number : ℕ) (session : Option Session) → HasNoPlaceOn volatile number → HasNoPlaceOn (message_joined volatile number session) number
joined_has_none volatile number None none = none
joined_has_none volatile number (Some session) none = place_leaves_secure_channel volatile (with_secure_channel volatile number (Secured session)) number (Secured session) refl none

-- an admitted command
admitted_has_none : (state : State) (command : Apdu) (session : Option Session) (plain : List ℕ)
    → HasNoPlaceOn (admitted_as state command session plain).at.volatile (channel_of command.class)
admitted_has_none state command session plain =
    let number = channel_of command.class in
    let joined = message_joined (class_passed state.volatile command) number session in
    let none = joined_has_none (class_passed state.volatile command) number session (class_has_none state.volatile command) in
    either (λ v. HasNoPlaceOn v number) (command.ins == LOAD) joined (without_load joined number) none none

-- what its refusal leaves
left_has_none : (admitted : Admitted) (rule : Rule) → HasNoPlaceOn admitted.at.volatile admitted.channel → HasNoPlaceOn (refusal_leaves admitted rule) admitted.channel
left_has_none admitted rule none =
    let number = admitted.channel in
    let left = with_offer_dropped admitted.at.volatile number in
    let still = place_leaves_secure_channel admitted.at.volatile left number (without_offer (secure_channel_of (channel_at admitted.at.volatile number))) refl none in
    either (λ v. HasNoPlaceOn v number) (keeps_load rule) left (without_load left number) still still

done_has_none : (admitted : Admitted) (done : Effect) → HasNoPlaceOn admitted.at.volatile admitted.channel → HasEffect admitted done
    → admitted.command.ins ≢ GET_STATUS → HasNoPlaceOn done.state.volatile admitted.channel
done_has_none admitted done none does other =
    done_by admitted done (HasNoPlaceOn done.state.volatile admitted.channel)
    (λ form lawful takes it. lawful.without_place (λ is. other (takes.0 ∙ is)) admitted done none it) does

-- where an admitted command leaves none, the card has none
left_by : (state : State) (bytes : List ℕ) (admitted : Admitted) → Admits state bytes admitted → (outcome : Outcome) (left : Volatile)
    → outcome.state.volatile ≡ left
    → (HasNoPlaceOn admitted.at.volatile admitted.channel → admitted.command.ins ≢ GET_STATUS → HasNoPlaceOn left admitted.channel)
    → Of bytes (λ command. command.ins ≢ GET_STATUS → HasNoPlaceOn outcome.state.volatile (channel_of command.class))
left_by state bytes admitted (decoded, (command, short, taken)) outcome left becomes leaves =
    let number : admitted.channel ≡ channel_of command.class = ap (λ (a : Admitted). a.channel) taken.3 in
    let ins : admitted.command.ins ≡ command.ins = ap (λ (a : Admitted). a.command.ins) taken.3 in
    let none = subst (λ (a : Admitted). HasNoPlaceOn a.at.volatile a.channel) (sym taken.3) (admitted_has_none state command taken.0 taken.1) in (
      command,
      short,
      λ other. placeless_same left outcome.state.volatile (channel_of command.class) becomes
          (subst (HasNoPlaceOn left) number (leaves none (λ is. other (sym ins ∙ is)))),
    )

pub places_are_forgotten : PlacesAreForgotten
places_are_forgotten state bytes outcome (inl rejected) later =
    let by : is_later (G rejected.rule) ≡ true =
    subst (λ (o : Outcome). MatchOption o.rule (Unit {0}) (λ rule. is_later rule ≡ true)) rejected.outcome_is later in
    let left = rejected_leaves HasNoPlaceOn state bytes (λ number. passed_has_none state.volatile number false) (ended_has_none state.volatile)
    (λ command short fails other. class_has_none state.volatile command) outcome rejected by in
    (left.0, left.1, λ other. left.2)
places_are_forgotten state bytes outcome (inr (inl refuses)) later =
    left_by state bytes refuses.admitted refuses.admits outcome (refusal_leaves refuses.admitted refuses.rule) (ap (λ (o : Outcome). o.state.volatile) refuses.outcome_is)
    (λ none other. left_has_none refuses.admitted refuses.rule none)
places_are_forgotten state bytes outcome (inr (inr accepts)) later =
    left_by state bytes accepts.admitted accepts.admits outcome accepts.done.state.volatile (ap (λ (o : Outcome). o.state.volatile) accepts.outcome_is)
    (λ none. done_has_none accepts.admitted accepts.done none accepts.does)
