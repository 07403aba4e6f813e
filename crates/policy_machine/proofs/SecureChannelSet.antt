-- What is so of channels when the standing of one of them is set.
use Rattle.std.proofs.Common.{◌≡◌, ℕ, ◌<◌, List, Option, None, Some, refl, sym, ap, subst, ◌∙◌, inl, inr, length}
use Rattle.std.specs.Prelude.{IsSome, MatchOption}
use Rattle.std.proofs.lemmas.Bool.Decides.{eqb_tells}
use Rattle.policy_machine.specs.Prelude.{Channel, Fits, FitsSecureChannel, IsSecured, IsWellChannel, IsWellLoad, LoadSession, Nothing, Offer, Registry, SecureChannel, Secured, Session, Volatile, channel_at, channel_with, load_without_channel, offer_in, offer_on, secure_channel_of, selected_of, selected_on, session_in, session_on, with_offer_dropped, with_secure_channel, without_load, without_offer}
use Rattle.policy_machine.specs.declared.channels.TheConstants.{CHANNELS}
use Rattle.policy_machine.specs.State.{Offered}
use Rattle.policy_machine.proofs.SetChannel.{IsInSession, becomes_fits, ended_fits, set_fits}

pub within : (registry : Registry) (volatile : Volatile) (number : ℕ) → Fits registry volatile → number < CHANNELS → number < length volatile.channels
within registry volatile number fits low = subst (λ (n : ℕ). number < n) (sym fits.channels) low

well_so : (registry : Registry) (secure_channel : SecureChannel) (channel : Option Channel) → MatchOption channel (Unit {0}) (IsWellChannel registry)
    → FitsSecureChannel registry (selected_of channel) secure_channel → MatchOption (channel_with secure_channel channel) (Unit {0}) (IsWellChannel registry)
well_so registry secure_channel None well stands = tt
well_so registry secure_channel (Some channel) well stands = record { selected = well.selected; secure_channel = stands }

open_so : (secure_channel : SecureChannel) (channel : Option Channel) → IsSome channel → IsSome (channel_with secure_channel channel)
open_so secure_channel None opened = opened
open_so secure_channel (Some channel) opened = refl

secured_so : (secure_channel : SecureChannel) → IsSecured secure_channel → (channel : Option Channel) → IsInSession channel
    → IsInSession (channel_with secure_channel channel)
secured_so secure_channel secured None has = has
secured_so secure_channel secured (Some channel) has = secured

-- a channel without a session has no load session
pub unloaded : (registry : Registry) (volatile : Volatile) (number : ℕ) → Fits registry volatile → session_on volatile number ≡ None
    → load_without_channel number volatile.load ≡ volatile.load
unloaded registry volatile number fits none = by volatile.load fits.load
  where
    insecure : (channel : Option Channel) → session_in (secure_channel_of channel) ≡ None → IsInSession channel → ⊥
    insecure None none session = session
    insecure (Some channel) none session = no_session channel.secure_channel none session
      where
        no_session : (secure_channel : SecureChannel) → session_in secure_channel ≡ None → IsSecured secure_channel → ⊥
        no_session Nothing none secured = secured
        no_session (Offered offer) none secured = secured
        no_session (Secured session) none secured = cc

    by : (load : Option LoadSession) → MatchOption load (Unit {0}) (IsWellLoad registry volatile) → load_without_channel number load ≡ load
    by None well = refl
    by (Some load) well = elim (eqb_tells load.channel number) [
      | inl same ↦ absurd (insecure (channel_at volatile load.channel) (ap (session_on volatile) same.1 ∙ none) well.session)
      | inr differs ↦ rw differs.0 refl
    ]

-- an offer is dropped
pub well_dropped : (registry : Registry) (aid : List ℕ) (secure_channel : SecureChannel) → FitsSecureChannel registry aid secure_channel → FitsSecureChannel registry aid (without_offer secure_channel)
well_dropped registry aid Nothing well = tt
well_dropped registry aid (Offered offer) well = tt
well_dropped registry aid (Secured session) well = well

pub secured_dropped : (secure_channel : SecureChannel) → IsSecured secure_channel → IsSecured (without_offer secure_channel)
secured_dropped Nothing secured = secured
secured_dropped (Offered offer) secured = absurd secured
secured_dropped (Secured session) secured = secured

is_session : (secure_channel : SecureChannel) (session : Session) → session_in secure_channel ≡ Some session → secure_channel ≡ Secured session
is_session (Secured other) session is = cc
is_session secure_channel session is = absurd cc

is_offer : (secure_channel : SecureChannel) (offer : Offer) → offer_in secure_channel ≡ Some offer → secure_channel ≡ Offered offer
is_offer (Offered other) offer is = cc
is_offer secure_channel offer is = absurd cc

module _ (registry : Registry) (volatile : Volatile) (number : ℕ) (fits : Fits registry volatile) (low : number < CHANNELS) where
  first_so : (secure_channel : SecureChannel) → number ≡ 0 → IsSome (channel_with secure_channel (channel_at volatile number))
  first_so secure_channel first = open_so secure_channel (channel_at volatile number) (subst (λ (n : ℕ). IsSome (channel_at volatile n)) (sym first) fits.basic)

  -- a session stands on the channel
  pub secured_fits : (session : Session) → FitsSecureChannel registry (selected_on volatile number) (Secured session)
      → Fits registry (with_secure_channel volatile number (Secured session))
  secured_fits session stands =
      set_fits registry volatile number (channel_with (Secured session) (channel_at volatile number)) fits (within registry volatile number fits low)
      (well_so registry (Secured session) (channel_at volatile number) (fits.each number) stands) (first_so (Secured session))
      (secured_so (Secured session) tt (channel_at volatile number))

  -- anything stands on it, and its load session ends
  pub secure_channel_fits : (secure_channel : SecureChannel) → FitsSecureChannel registry (selected_on volatile number) secure_channel
      → Fits registry (without_load (with_secure_channel volatile number secure_channel) number)
  secure_channel_fits secure_channel stands =
      ended_fits registry volatile number (channel_with secure_channel (channel_at volatile number)) fits (within registry volatile number fits low)
      (well_so registry secure_channel (channel_at volatile number) (fits.each number) stands) (first_so secure_channel)

  -- where it has no load session, anything stands on it
  pub unloaded_fits : (secure_channel : SecureChannel) → load_without_channel number volatile.load ≡ volatile.load → FitsSecureChannel registry (selected_on volatile number) secure_channel
      → Fits registry (with_secure_channel volatile number secure_channel)
  unloaded_fits secure_channel unloaded stands =
      subst (λ (load : Option LoadSession). Fits registry (record { channels = (with_secure_channel volatile number secure_channel).channels; load = load })) unloaded
      (secure_channel_fits secure_channel stands)

  -- what stands on it goes with what is selected
  stands : FitsSecureChannel registry (selected_on volatile number) (secure_channel_of (channel_at volatile number))
  stands = by (channel_at volatile number) (fits.each number)
    where
      by : (channel : Option Channel) → MatchOption channel (Unit {0}) (IsWellChannel registry) → FitsSecureChannel registry (selected_of channel) (secure_channel_of channel)
      by None well = tt
      by (Some channel) well = well.secure_channel

  -- its offer is dropped
  pub dropped_fits : Fits registry (with_offer_dropped volatile number)
  dropped_fits =
      becomes_fits registry volatile number (λ channel. channel_with (without_offer (secure_channel_of channel)) channel)
      (λ channel. record channel { secure_channel = without_offer channel.secure_channel }) refl (λ channel. refl)
      (λ channel well. record { selected = well.selected; secure_channel = well_dropped registry channel.selected channel.secure_channel well.secure_channel })
      (λ channel. secured_dropped channel.secure_channel) fits (within registry volatile number fits low)

  -- its session stands with what is selected, and its offer
  pub session_stands : (session : Session) → session_on volatile number ≡ Some session → FitsSecureChannel registry (selected_on volatile number) (Secured session)
  session_stands session is = subst (FitsSecureChannel registry (selected_on volatile number)) (is_session (secure_channel_of (channel_at volatile number)) session is) stands

  pub offer_stands : (offer : Offer) → offer_on volatile number ≡ Some offer → FitsSecureChannel registry (selected_on volatile number) (Offered offer)
  offer_stands offer is = subst (FitsSecureChannel registry (selected_on volatile number)) (is_offer (secure_channel_of (channel_at volatile number)) offer is) stands
