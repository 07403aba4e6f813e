-- For the code inside. What comes of a command.
use Rattle.std.specs.Prelude.{◌≡◌, ℕ, List, [], false, Result, Ok, Err, Some, None, Option}
use Rattle.apdu_core.specs.Apdu.{Apdu}
use Rattle.apdu_core.specs.declared.reply.Status.{Status}
use Rattle.policy_machine.specs.Admission.{Admitted}
use Rattle.card_types.specs.declared.card_life.CardLife.{CardLife}
use Rattle.card_types.specs.declared.card_life.CardLife.TheVariants.{Terminated}
use Rattle.policy_machine.specs.Classes.{is_secure}
use Rattle.policy_machine.specs.Commands.{HasEffect, Judges}
use Rattle.policy_machine.specs.Rules.{status_of}
use Rattle.policy_machine.specs.Sound.{IsSound}
use Rattle.policy_machine.specs.State.{Effect, State}
use Rattle.policy_machine.specs.Step.{Step, refusal_leaves}
use Rattle.policy_machine.specs.declared.class.Class.{Class}
use Rattle.policy_machine.specs.declared.instruction.TheConstants.{GET_DATA, GET_STATUS}
use Rattle.policy_machine.specs.declared.rule.Rule.{Rule}
use Rattle.policy_rules.specs.GetStatusRequests.{IsPlaceBefore}
use Rattle.policy_rules.specs.Requests.{IsRequestOf, form_in}
use Rattle.policy_rules.specs.declared.request.Request.{Request}
use Rattle.policy_slots.specs.declared.live.Place.{Place}
use Rattle.card_core.specs.ChannelEnds.{live_refused}
use Rattle.card_core.specs.Kept.{held_on, without_offer_held, Kept, KeptRepresents, kept_set}

-- one step of the policy machine was made, over these load pages
abbrev pub Serves : (ℕ → List ℕ) → State → List ℕ → Kept → List ℕ → Option Rule → Type 0
Serves page state bytes card reply rule =
    (next : State) × KeptRepresents page card next × IsSound next × Step state bytes (record { state = next; reply = reply; rule = rule })

-- The command that has passed is this one and came on the channel; where it may go on with a listing, it does so at this place.
pub record IsPassed (channel : ℕ) (command : Apdu) (place : Option Place) (admitted : Admitted) : Type 0 where
  pub on : channel ≡ admitted.channel
  pub is : admitted.command ≡ command
  pub goes_on : command.ins ≡ GET_STATUS → IsPlaceBefore place admitted

-- The command that has passed asks for this and came on the channel; it may go on with a listing at this place.
pub record IsAsked (channel : ℕ) (request : Request) (place : Option Place) (admitted : Admitted) : Type 0 where
  pub on : channel ≡ admitted.channel
  pub asks : IsRequestOf request admitted.command
  pub goes_on : (form_in request).instruction ≡ GET_STATUS → IsPlaceBefore place admitted

-- no rule of its own refused an admitted command, and it did what it does
abbrev pub IsDone : (ℕ → List ℕ) → Admitted → Kept → List ℕ → Status → Type 0
IsDone page admitted card body status =
    (done : Effect) × KeptRepresents page card done.state × Judges admitted None × HasEffect admitted done × (body ≡ done.body) × (status.0 ≡ done.status)

-- such a rule refused it, and the card shows what the refusal leaves
abbrev pub IsRefusedBy : (ℕ → List ℕ) → Admitted → Kept → List ℕ → Rule → Type 0
IsRefusedBy page admitted card body rule =
    KeptRepresents page card (record { registry = admitted.at.registry; volatile = refusal_leaves admitted rule }) × Judges admitted (Some rule) × (body ≡ [])

-- a card whose channel has after a refusal no offer, and no load session that the rule does not keep
abbrev pub refused_at : Kept → ℕ → Rule → Kept
refused_at card number rule = kept_set card (live_refused rule number card.live) number (without_offer_held (held_on card.sessions number))

-- an admitted command was carried out, or refused
abbrev pub CarriesOut : (ℕ → List ℕ) → Admitted → Kept → List ℕ → Result Status Rule → Type 0
CarriesOut page admitted card body (Ok status) = IsDone page admitted card body status
CarriesOut page admitted card body (Err rule) = IsRefusedBy page admitted card body rule

-- An admitted command was carried out or refused. Where it was refused, what a refusal ends is still to end.
abbrev pub CarriesOutBut : (ℕ → List ℕ) → Admitted → Kept → List ℕ → Result Status Rule → Type 0
CarriesOutBut page admitted card body (Ok status) = IsDone page admitted card body status
CarriesOutBut page admitted card body (Err rule) = IsRefusedBy page admitted (refused_at card admitted.channel rule) body rule

-- the status word of the reply, and the rule that refused the command
abbrev pub status_word : Result Status Rule → ℕ
status_word (Ok status) = status.0
status_word (Err rule) = status_of rule

abbrev pub rule_of : Result Status Rule → Option Rule
rule_of (Ok status) = None
rule_of (Err rule) = Some rule

-- a terminated card answers GET DATA in plain alone
abbrev pub IsTerminatedFor : CardLife → Class → ℕ → Type 0
IsTerminatedFor life class ins = (life ≡ Terminated) × ((ins ≡ GET_DATA) × (is_secure class ≡ false) → ⊥)
