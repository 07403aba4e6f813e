-- A refused command leaves no offer.
use Rattle.std.proofs.Common.{◌≡◌, ℕ, Bool, false, true, Option, None, Some, refl, sym, subst, inl, inr, ap}
use Rattle.std.specs.Prelude.{MatchOption, not, ◌==◌}
use Rattle.std.proofs.lemmas.Bool.{and_parts, false≢true, not-true}
use Rattle.policy_machine.specs.Prelude.{Admitted, Apdu, Channel, Nothing, Of, Outcome, RefusalsDropOffers, SecureChannel, Volatile, channel_at, channel_of, channel_passed, channel_with, class_of, class_passed, is_later, is_protected, is_secure, keeps_load, offer_in, offer_passed, protects, refusal_leaves, secure_channel_of, with_offer_dropped, with_secure_channel, without_load, without_offer, without_place}
use Rattle.policy_machine.specs.declared.class.Class.{Class}
use Rattle.policy_machine.specs.declared.instruction.TheConstants.{EXTERNAL_AUTHENTICATE}
use Rattle.policy_machine.specs.declared.rule.Rule.{Rule}
use Rattle.policy_machine.specs.declared.rule.Rule.TheVariants.{G}
use Rattle.policy_machine.proofs.OneOutcome.{of_one}
use Rattle.policy_machine.proofs.Passing.{either}
use Rattle.policy_machine.proofs.RejectedLeaves.{rejected_leaves}
use Rattle.policy_machine.proofs.SetChannel.{set_there}

abbrev HasNoOffer : Option Channel → Type 0
HasNoOffer channel = offer_in (secure_channel_of channel) ≡ None

not_offered : (secure_channel : SecureChannel) → offer_in (offer_passed false secure_channel) ≡ None
not_offered Nothing = refl
not_offered _ = refl

channel_has_none : (channel : Option Channel) → HasNoOffer (channel_passed false channel)
channel_has_none None = refl
channel_has_none (Some channel) = not_offered channel.secure_channel

placeless_has_none : (volatile : Volatile) (number : ℕ) → HasNoOffer (channel_at (without_place volatile number false) number)
placeless_has_none volatile number =
    set_there HasNoOffer refl volatile.channels number (channel_passed false (channel_at volatile number)) (channel_has_none (channel_at volatile number))

secure_channel_has_none : (volatile : Volatile) (number : ℕ) (secure_channel : SecureChannel) → offer_in secure_channel ≡ None
    → HasNoOffer (channel_at (with_secure_channel volatile number secure_channel) number)
secure_channel_has_none volatile number secure_channel none =
    set_there HasNoOffer refl volatile.channels number (channel_with secure_channel (channel_at volatile number)) (stands_so (channel_at volatile number))
  where
    stands_so : (channel : Option Channel) → HasNoOffer (channel_with secure_channel channel)
    stands_so None = refl
    stands_so (Some channel) = none

class_has_none : (volatile : Volatile) (command : Apdu) → (command.ins == EXTERNAL_AUTHENTICATE) ≡ false
    → HasNoOffer (channel_at (class_passed volatile command) (channel_of command.class))
class_has_none volatile command other =
    (let number = channel_of command.class in
    subst (λ (keeps : Bool). HasNoOffer (channel_at (without_place volatile number keeps) number)) (sym other) (placeless_has_none volatile number))

-- what a refusal of an admitted command leaves
left_has_none : (admitted : Admitted) (rule : Rule) → HasNoOffer (channel_at (refusal_leaves admitted rule) admitted.channel)
left_has_none admitted rule =
    let secure_channel = secure_channel_of (channel_at admitted.at.volatile admitted.channel) in
    let left = with_offer_dropped admitted.at.volatile admitted.channel in
    let none = secure_channel_has_none admitted.at.volatile admitted.channel (without_offer secure_channel) (not_offered secure_channel) in
    either (λ (v : Volatile). HasNoOffer (channel_at v admitted.channel)) (keeps_load rule) left (without_load left admitted.channel) none none

-- a protected command is not EXTERNAL AUTHENTICATE
protected_is_other : (command : Apdu) → is_protected command ≡ true → (command.ins == EXTERNAL_AUTHENTICATE) ≡ false
protected_is_other command protected = by (class_of command.class) protected
  where
    by : (class : Option Class) → protects class command.ins ≡ true → (command.ins == EXTERNAL_AUTHENTICATE) ≡ false
    by None is = absurd (false≢true is)
    by (Some class) is =
        not-true (command.ins == EXTERNAL_AUTHENTICATE) (and_parts (is_secure class) (not (command.ins == EXTERNAL_AUTHENTICATE)) is).1

pub refusals_drop_offers : RefusalsDropOffers
refusals_drop_offers state bytes outcome (inl rejected) later =
    let by : is_later (G rejected.rule) ≡ true = subst (λ (o : Outcome). MatchOption o.rule ⊥ (λ rule. is_later rule ≡ true)) rejected.outcome_is later in
    rejected_leaves (λ volatile number. HasNoOffer (channel_at volatile number)) state bytes (placeless_has_none state.volatile)
    (λ command. secure_channel_has_none (class_passed state.volatile command) (channel_of command.class) Nothing refl)
    (λ command short fails other. class_has_none state.volatile command (elim (of_one bytes _ command short fails) [
      | inl manages ↦ absurd (other manages)
      | inr protected ↦ protected_is_other command protected.0
    ]))
    outcome rejected by
refusals_drop_offers state bytes outcome (inr (inl refuses)) later =
    let of = refuses.admits.1 in
    let taken = of.2 in
    subst (λ (o : Outcome). Of bytes (λ command. HasNoOffer (channel_at o.state.volatile (channel_of command.class)))) (sym refuses.outcome_is) (
      of.0,
      of.1,
      subst (λ (number : ℕ). HasNoOffer (channel_at (refusal_leaves refuses.admitted refuses.rule) number)) (ap (λ (a : Admitted). a.channel) taken.3)
          (left_has_none refuses.admitted refuses.rule),
    )
refusals_drop_offers state bytes outcome (inr (inr accepts)) later =
    absurd (subst (λ (o : Outcome). MatchOption o.rule ⊥ (λ rule. is_later rule ≡ true)) accepts.outcome_is later)
