-- The laws of GET STATUS.
use Rattle.std.proofs.Common.{◌≡◌, ℕ, ◌<◌, List, [], ◌∷◌, ◌++◌, Some, refl, sym, subst, ◌∙◌, arith}
use Rattle.policy_machine.specs.Prelude.{Admitted, AreTemplates, Effect, Fits, GetStatusEffect, IsFullFor, IsLeftAt, IsSound, Place, Registry, Thing, Volatile, channel_at_place, get_status, with_place}
use Rattle.policy_machine.specs.declared.channels.TheConstants.{CHANNELS}
use Rattle.policy_machine.proofs.Lawful.{IsLawful, IsReady, same_as, sound_with}
use Rattle.policy_machine.proofs.SameEffect.{effect_same, state_same}
use Rattle.policy_machine.proofs.SecureChannelSet.{within}
use Rattle.policy_machine.proofs.SetChannel.{becomes_fits}
use Rattle.policy_machine.proofs.GetStatusParts.{IsFullAfter, one_listing, one_part, one_templates}

-- a channel has what it had, with another place
place_fits : (registry : Registry) (volatile : Volatile) (number : ℕ) (place : Place) → Fits registry volatile → number < CHANNELS
    → Fits registry (with_place volatile number place)
place_fits registry volatile number place fits low =
    becomes_fits registry volatile number (channel_at_place place) (λ channel. record channel { place = Some place }) refl (λ channel. refl)
    (λ channel well. record { selected = well.selected; secure_channel = well.secure_channel }) (λ channel secured. secured)
    fits (within registry volatile number fits low)

left_fits : (admitted : Admitted) (done : Effect) (shown left : List Thing) → Fits admitted.at.registry admitted.at.volatile → admitted.channel < CHANNELS
    → IsLeftAt admitted done shown left → Fits admitted.at.registry done.state.volatile
left_fits admitted done shown [] fits low is = subst (Fits admitted.at.registry) (sym is.0) fits
left_fits admitted done shown (next ∷ left) fits low is =
    subst (Fits admitted.at.registry) (sym is.0) (place_fits admitted.at.registry admitted.at.volatile admitted.channel _ fits low)

listing_keeps : (admitted : Admitted) (done : Effect) → IsReady admitted → GetStatusEffect admitted done → IsSound done.state
listing_keeps admitted done ready does =
    sound_with admitted.at done.state ready.sound does.registry
    (left_fits admitted done does.shown does.left ready.sound.fits ready.low does.left_at)

-- it says the same of what is left
left_one : (admitted : Admitted) (a b : Effect) (shown left : List Thing) → IsLeftAt admitted a shown left → IsLeftAt admitted b shown left
    → (a.state.volatile ≡ b.state.volatile) × (a.status ≡ b.status)
left_one admitted a b shown [] one other = (one.0 ∙ sym other.0, one.1 ∙ sym other.1)
left_one admitted a b shown (next ∷ left) one other = (one.0 ∙ sym other.0, one.1 ∙ sym other.1)

full_from_first : (registry : Registry) (p1 : ℕ) (left : List Thing) (bytes : List ℕ) → IsFullFor registry p1 left bytes → IsFullAfter registry p1 0 left bytes
full_from_first registry p1 [] bytes full = tt
full_from_first registry p1 (next ∷ left) bytes (template, is, above) = (template, is, omega (arith, above))

listing_one : (admitted : Admitted) (a b : Effect) → GetStatusEffect admitted a → GetStatusEffect admitted b → a ≡ b
listing_one admitted a b one other =
    let registry = admitted.at.registry in
    let p1 = admitted.command.p1 in
    let whole = one_listing admitted (one.shown ++ one.left) (other.shown ++ other.left) one.listing other.listing in
    let parts = one_part registry p1 0 one.shown one.left other.shown other.left a.body b.body whole one.body other.body (omega (arith, one.fits)) (omega (arith, other.fits))
    (full_from_first registry p1 one.left a.body one.full) (full_from_first registry p1 other.left b.body other.full) in
    let body = one_templates registry p1 other.shown a.body b.body
    (subst (λ (things : List Thing). AreTemplates registry p1 things a.body) parts.0 one.body) other.body in
    let here : IsLeftAt admitted a other.shown other.left
    = subst (λ (things : List Thing). IsLeftAt admitted a things other.left) parts.0
    (subst (λ (things : List Thing). IsLeftAt admitted a one.shown things) parts.1 one.left_at) in
    let same = left_one admitted a b other.shown other.left here other.left_at in
    effect_same a b (state_same a.state b.state (one.registry ∙ sym other.registry) same.0) body same.1

pub get_status_lawful : IsLawful get_status
get_status_lawful = record {
  keeps = λ admitted done ready judges does. listing_keeps admitted done ready does;
  one = listing_one;
  quiet = λ unmanaged admitted done does. same_as admitted.at.registry done.state.registry does.registry;
  without_place = λ other admitted done none does. absurd (other refl);
}
