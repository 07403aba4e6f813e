-- The laws of MANAGE CHANNEL.
use Rattle.std.proofs.Common.{◌≡◌, ◌⊎◌, ℕ, ◌<◌, ◌≤◌, Option, None, Some, refl, sym, ap, subst, ◌∙◌, inl, inr, arith}
use Rattle.std.specs.Prelude.{MatchOption}
use Rattle.card_types.specs.declared.factory.TheConstants.{ISSUER}
use Rattle.policy_machine.specs.Prelude.{Admitted, Channel, Effect, IsClosed, IsClosedAlready, IsOpened, IsSameButCounters, IsSound, Judges, ManageChannelEffect, ManageChannelParameters, TakesCommand, channel_at, fresh, lowest_closed, manage_channel}
use Rattle.policy_machine.proofs.SetChannel.{IsInSession, ended_fits, lowest_is_closed, set_fits}
use Rattle.policy_machine.proofs.SecureChannelSet.{within}
use Rattle.policy_machine.proofs.Lawful.{HasNoPlaceOn, IsLawful, found_so, placeless_set, same_as, sound_with}
use Rattle.policy_machine.proofs.FreshChannel.{issuer_is_well}
use Rattle.policy_machine.proofs.Judging.{judged}
use Rattle.policy_machine.specs.declared.channels.TheConstants.{CHANNELS}
use Rattle.policy_machine.specs.declared.rule.Rule.TheVariants.{MC}
use Rattle.policy_machine.specs.declared.manage_channel.RuleMC.{RuleMC}
use Rattle.policy_machine.specs.declared.manage_channel.RuleMC.TheVariants.{MC1}

-- It opens the lowest closed channel, or it closes the one that is named, which may be closed already.
abbrev Manages : Admitted → Effect → Type 0
Manages admitted done =
    ((number : ℕ) × (lowest_closed admitted.at.volatile.channels ≡ Some number) × IsOpened admitted done number)
    ⊎ ((admitted.command.p1 ≡ 0x80) × (IsClosedAlready admitted done ⊎ IsClosed admitted done))

manages : (admitted : Admitted) (done : Effect) → ManageChannelEffect admitted done → Manages admitted done
manages admitted done (inl opens) = inl (found_so (IsOpened admitted done) (lowest_closed admitted.at.volatile.channels) opens.1)
manages admitted done (inr closes) = inr (closes.0, by (channel_at admitted.at.volatile admitted.command.p2) closes.1)
  where
    by : (channel : Option Channel) → MatchOption channel (IsClosedAlready admitted done) (λ c. IsClosed admitted done)
        → IsClosedAlready admitted done ⊎ IsClosed admitted done
    by None does = inl does
    by (Some channel) does = inr does

-- a channel to be closed is not the first
close_bounds : (p1 p2 : ℕ) → ManageChannelParameters p1 p2 → p1 ≡ 0x80 → (1 ≤ p2) × (p2 < CHANNELS)
close_bounds p1 p2 (inl opens) closes = (let other = opens.0 in absurd (omega arith))
close_bounds p1 p2 (inr bounds) closes = (bounds.1, bounds.2)

manage_channel_keeps : (admitted : Admitted) (done : Effect) → IsSound admitted.at → ManageChannelParameters admitted.command.p1 admitted.command.p2
    → Manages admitted done → IsSound done.state
manage_channel_keeps admitted done sound parameters (inl (number, is, does)) =
    let closed = lowest_is_closed admitted.at.volatile.channels number is in
    let fits = set_fits admitted.at.registry admitted.at.volatile number (Some (fresh ISSUER)) sound.fits closed.0
    (issuer_is_well admitted.at.registry sound.well) (λ first. refl) (λ session. absurd (subst IsInSession closed.1 session)) in
    subst (λ (e : Effect). IsSound e.state) (sym does) (sound_with admitted.at _ sound refl fits)
manage_channel_keeps admitted done sound parameters (inr (closes, inl does)) = subst (λ (e : Effect). IsSound e.state) (sym does) sound
manage_channel_keeps admitted done sound parameters (inr (closes, inr does)) =
    let registry = admitted.at.registry in
    let volatile = admitted.at.volatile in
    let bounds = close_bounds admitted.command.p1 admitted.command.p2 parameters closes in
    let fits = ended_fits registry volatile admitted.command.p2 None sound.fits
    (within registry volatile admitted.command.p2 sound.fits (omega (arith, bounds.1))) tt (λ first. absurd (omega (arith, bounds.0))) in
    subst (λ (e : Effect). IsSound e.state) (sym does) (sound_with admitted.at _ sound refl fits)

channel_opens_one : (admitted : Admitted) (a b : Effect) (found : Option ℕ)
    → MatchOption found ⊥ (IsOpened admitted a) → MatchOption found ⊥ (IsOpened admitted b) → a ≡ b
channel_opens_one admitted a b None one other = absurd one
channel_opens_one admitted a b (Some number) one other = one ∙ sym other

closes_one : (admitted : Admitted) (a b : Effect) (channel : Option Channel)
    → MatchOption channel (IsClosedAlready admitted a) (λ c. IsClosed admitted a)
    → MatchOption channel (IsClosedAlready admitted b) (λ c. IsClosed admitted b) → a ≡ b
closes_one admitted a b None one other = one ∙ sym other
closes_one admitted a b (Some channel) one other = one ∙ sym other

open_not_close : {P : Type 0} (p1 : ℕ) → p1 ≡ 0x00 → p1 ≡ 0x80 → P
open_not_close p1 opens closes = absurd (omega arith)

manage_channel_one : (admitted : Admitted) (a b : Effect) → ManageChannelEffect admitted a → ManageChannelEffect admitted b → a ≡ b
manage_channel_one admitted a b (inl one) (inl other) = channel_opens_one admitted a b _ one.1 other.1
manage_channel_one admitted a b (inl one) (inr other) = open_not_close admitted.command.p1 one.0 other.0
manage_channel_one admitted a b (inr one) (inl other) = open_not_close admitted.command.p1 other.0 one.0
manage_channel_one admitted a b (inr one) (inr other) = closes_one admitted a b _ one.1 other.1

channel_same : (admitted : Admitted) (done : Effect) → Manages admitted done → IsSameButCounters admitted.at.registry done.state.registry
channel_same admitted done (inl (number, is, does)) = same_as admitted.at.registry done.state.registry (ap (λ (e : Effect). e.state.registry) does)
channel_same admitted done (inr (closes, inl does)) = same_as admitted.at.registry done.state.registry (ap (λ (e : Effect). e.state.registry) does)
channel_same admitted done (inr (closes, inr does)) = same_as admitted.at.registry done.state.registry (ap (λ (e : Effect). e.state.registry) does)

channel_placeless : (admitted : Admitted) (done : Effect) → HasNoPlaceOn admitted.at.volatile admitted.channel → Manages admitted done
    → HasNoPlaceOn done.state.volatile admitted.channel
channel_placeless admitted done none (inl (number, is, does)) =
    subst (λ (e : Effect). HasNoPlaceOn e.state.volatile admitted.channel) (sym does)
    (placeless_set admitted.at.volatile number admitted.channel (Some (fresh ISSUER)) refl none)
channel_placeless admitted done none (inr (closes, inl does)) = subst (λ (e : Effect). HasNoPlaceOn e.state.volatile admitted.channel) (sym does) none
channel_placeless admitted done none (inr (closes, inr does)) =
    subst (λ (e : Effect). HasNoPlaceOn e.state.volatile admitted.channel) (sym does)
    (placeless_set admitted.at.volatile admitted.command.p2 admitted.channel None refl none)

pub manage_channel_lawful : IsLawful manage_channel
manage_channel_lawful = record {
  keeps = λ admitted done ready judges does. manage_channel_keeps admitted done ready.sound judges.0.1 (manages admitted done does);
  one = manage_channel_one;
  quiet = λ unmanaged admitted done does. channel_same admitted done (manages admitted done does);
  without_place = λ other admitted done none does. channel_placeless admitted done none (manages admitted done does);
}

-- how it is judged, by what was found
module _ (admitted : Admitted) (takes : TakesCommand manage_channel admitted.command) where
  pub open_passes : (number : ℕ) → lowest_closed admitted.at.volatile.channels ≡ Some number → Judges admitted None
  open_passes number found = judged manage_channel (λ P is. inl is) admitted takes refl None (inr ((λ fails. (let other = sym fails.1 ∙ found in cc)), refl))

  pub open_refused : (rule : RuleMC) → admitted.command.p1 ≡ 0x00 → lowest_closed admitted.at.volatile.channels ≡ None → Judges admitted (Some (MC rule))
  open_refused MC1 opens none = judged manage_channel (λ P is. inl is) admitted takes refl (Some (MC MC1)) (inl ((opens, none), refl))

  pub close_passes : admitted.command.p1 ≡ 0x80 → Judges admitted None
  close_passes closes = judged manage_channel (λ P is. inl is) admitted takes refl None (inr ((λ fails. (let other = fails.0 in absurd (omega arith))), refl))
