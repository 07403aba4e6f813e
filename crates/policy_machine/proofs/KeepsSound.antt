-- A card that is powered on is sound, and each step keeps it so.
use Rattle.std.proofs.Common.{◌≡◌, ℕ, zero, suc, List, Option, false, refl, sym, ap, subst, inl, inr}
use Rattle.std.specs.Prelude.{MatchOption}
use Rattle.policy_machine.specs.Prelude.{Admits, Admitted, Apdu, Channel, Fits, GeneralRefusalLeaves, IsDomainNamed, IsSound, IsWellChannel, Nothing, Outcome, Registry, StartsSound, State, StepsKeepSound, Volatile, Well, channel_at, channel_of, class_passed, first_volatile, keeps_load, refusal_leaves, with_offer_dropped, without_load, without_session}
use Rattle.policy_machine.specs.declared.rule.RuleG.{RuleG}
use Rattle.policy_machine.specs.declared.rule.RuleG.TheVariants.{G1, G2, G3, G4, G5, G6, G7, G8}
use Rattle.policy_machine.proofs.Opened.{passed_protected}
use Rattle.policy_machine.proofs.Passing.{admitted_fits, admitted_loads, admitted_selected, admitted_session, channel_is_low, class_fits, domain_selected, either, placeless_fits}
use Rattle.policy_machine.proofs.SetChannel.{without_load_fits}
use Rattle.policy_machine.proofs.SecureChannelSet.{dropped_fits, secure_channel_fits}
use Rattle.policy_machine.proofs.FormTaken.{accepted_by}
use Rattle.policy_machine.proofs.FreshChannel.{closed_past_first, issuer_is_well}
use Rattle.policy_machine.proofs.Lawful.{IsReady, sound_with}
use Rattle.policy_machine.specs.declared.rule.Rule.{Rule}

first_channels : (registry : Registry) → Well registry → (number : ℕ) → MatchOption (channel_at first_volatile number) (Unit {0}) (IsWellChannel registry)
first_channels registry well zero = issuer_is_well registry well
first_channels registry well (suc number) = subst (λ (c : Option Channel). MatchOption c (Unit {0}) (IsWellChannel registry)) (sym (closed_past_first number)) tt

pub starts_sound : StartsSound
starts_sound registry well ascending = record {
  well = well;
  ascending = ascending;
  fits = record { channels = refl; basic = refl; each = first_channels registry well; load = tt };
}

pub admitted_is_ready : (state : State) (bytes : List ℕ) (admitted : Admitted) → IsSound state → Admits state bytes admitted → IsReady admitted
admitted_is_ready state bytes admitted sound admits =
    let command = admits.1.0 in
    let taken = admits.1.2 in
    subst IsReady (sym taken.3) (record {
      sound = record { well = sound.well; ascending = sound.ascending; fits = admitted_fits state command sound.fits taken.0 taken.1 taken.2 };
      low = channel_is_low command.class;
      loads = admitted_loads state command sound.fits taken.0 taken.1;
      domain = λ selects manages. subst (IsDomainNamed state.registry) (sym (admitted_selected state command sound.fits taken.0 taken.1))
          (domain_selected state bytes command admits.1.1 admits.0 sound.fits selects manages);
      session = λ managed. admitted_session state command sound.fits taken.0 taken.1 taken.2 (passed_protected state bytes command admits.1.1 admits.0 managed);
    })

-- a session ends after the check of the class
ends_fits : (registry : Registry) (volatile : Volatile) (command : Apdu) → Fits registry volatile
    → Fits registry (without_session (class_passed volatile command) (channel_of command.class))
ends_fits registry volatile command fits =
    secure_channel_fits registry (class_passed volatile command) (channel_of command.class) (class_fits registry volatile command fits) (channel_is_low command.class) Nothing tt

leaves_fits : (state : State) (bytes : List ℕ) (rule : RuleG) (left : Volatile) → Fits state.registry state.volatile → GeneralRefusalLeaves state bytes rule left
    → Fits state.registry left
leaves_fits state bytes G1 left fits leaves = subst (Fits state.registry) (sym leaves) fits
leaves_fits state bytes G2 left fits leaves = subst (Fits state.registry) (sym leaves) fits
leaves_fits state bytes G3 left fits leaves = subst (Fits state.registry) (sym leaves) fits
leaves_fits state bytes G4 left fits leaves = subst (Fits state.registry) (sym leaves) fits
leaves_fits state bytes G5 left fits leaves =
    let class = leaves.0.class in
    subst (Fits state.registry) (sym leaves.2) (placeless_fits state.registry state.volatile (channel_of class) false fits (channel_is_low class))
leaves_fits state bytes G6 left fits leaves = elim leaves.2 [
  | inl ends ↦ subst (Fits state.registry) (sym ends.1) (ends_fits state.registry state.volatile leaves.0 fits)
  | inr stays ↦ subst (Fits state.registry) (sym stays.1) (class_fits state.registry state.volatile leaves.0 fits)
]
leaves_fits state bytes G7 left fits leaves = subst (Fits state.registry) (sym leaves.2) (ends_fits state.registry state.volatile leaves.0 fits)
leaves_fits state bytes G8 left fits leaves = subst (Fits state.registry) (sym leaves.2) (ends_fits state.registry state.volatile leaves.0 fits)

refusal_fits : (admitted : Admitted) (rule : Rule) → IsReady admitted → Fits admitted.at.registry (refusal_leaves admitted rule)
refusal_fits admitted rule ready =
    let left = with_offer_dropped admitted.at.volatile admitted.channel in
    let fits = dropped_fits admitted.at.registry admitted.at.volatile admitted.channel ready.sound.fits ready.low in
    either (Fits admitted.at.registry) (keeps_load rule) left (without_load left admitted.channel) fits
    (without_load_fits admitted.at.registry left admitted.channel fits)

pub steps_keep_sound : StepsKeepSound
steps_keep_sound state bytes outcome sound (inl rejected) =
    subst (λ (o : Outcome). IsSound o.state) (sym rejected.outcome_is)
    (sound_with state _ sound refl (leaves_fits state bytes rejected.rule rejected.left sound.fits rejected.leaves))
steps_keep_sound state bytes outcome sound (inr (inl refuses)) =
    let ready = admitted_is_ready state bytes refuses.admitted sound refuses.admits in
    let same : refuses.admitted.at.registry ≡ state.registry = (let taken = refuses.admits.1.2 in ap (λ (a : Admitted). a.at.registry) taken.3) in
    subst (λ (o : Outcome). IsSound o.state) (sym refuses.outcome_is)
    (sound_with state _ sound refl (subst (λ (r : Registry). Fits r (refusal_leaves refuses.admitted refuses.rule)) same (refusal_fits refuses.admitted refuses.rule ready)))
steps_keep_sound state bytes outcome sound (inr (inr accepts)) =
    let ready = admitted_is_ready state bytes accepts.admitted sound accepts.admits in
    subst (λ (o : Outcome). IsSound o.state) (sym accepts.outcome_is)
    (accepted_by accepts.admitted accepts.done (IsSound accepts.done.state) (λ form lawful judged does. lawful.keeps accepts.admitted accepts.done ready judged does)
    accepts.judges accepts.does)
