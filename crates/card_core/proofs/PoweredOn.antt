-- What a card shows when it was powered on.
use Rattle.std.proofs.Common.{◌≡◌, ℕ, zero, suc, ◌-◌, ◌<◌, List, Option, None, length, refl, sym, ap, subst, ◌∙◌}
use Rattle.std.specs.Prelude.{slice_index_or}
use Rattle.std.specs.Option.{option_map}
use Rattle.card_types.specs.Represents.{HasIssuer, HasLayout, Represents as SaysRegistry}
use Rattle.card_core.specs.Prelude.{IsSelectedIn, KeptRepresents, Registry, RepresentsSecureChannel, RepresentsState, channel_at, first_live, first_volatile, kept_of, no_sessions, place_in, place_of, powered_on, secure_channel_of}
use Rattle.card_types.specs.declared.tables.Entry.{Entry}
use Rattle.card_types.specs.declared.tables.Tables.{Tables}
use Rattle.policy_machine.specs.declared.channels.TheConstants.{CHANNELS}
use Rattle.policy_slots.specs.declared.live.Live.{Live}
use Rattle.card_core.specs.declared.channel_session.ChannelSession.{ChannelSession}
use Rattle.card_core.specs.declared.channels.Channels.{Channels}
use Rattle.card_core.specs.declared.channel_session.ChannelSession.TheVariants as held
use Rattle.policy_machine.proofs.FreshChannel.{closed_past_first, each_alike}
use Rattle.policy_machine.specs.State.{Channel}
use Rattle.card_core.proofs.ChannelChanges.{issuer_selected}

first_selected : (entries : List (Option Entry)) → HasIssuer entries → (number : ℕ) → number < CHANNELS
    → IsSelectedIn entries (slice_index_or first_live.selected number None) (channel_at first_volatile number)
first_selected entries has zero low = issuer_selected entries has
first_selected entries has (suc number) low =
    subst (λ (c : Option Channel). IsSelectedIn entries (slice_index_or first_live.selected (suc number) None) c) (sym (closed_past_first number))
    (subst (λ (slot : Option ℕ). IsSelectedIn entries slot None) (sym (each_alike None (CHANNELS - 1) number)) tt)

first_places : (number : ℕ) → number < CHANNELS → option_map place_of (slice_index_or first_live.places number None) ≡ place_in (channel_at first_volatile number)
first_places zero low = refl
first_places (suc number) low = ap (option_map place_of) (each_alike None (CHANNELS - 1) number) ∙ sym (ap place_in (closed_past_first number))

first_holds : (number : ℕ) → number < CHANNELS → RepresentsSecureChannel (slice_index_or no_sessions number held.Nothing) (secure_channel_of (channel_at first_volatile number))
first_holds zero low = tt
first_holds (suc number) low =
    subst (λ (c : Option Channel). RepresentsSecureChannel (slice_index_or no_sessions (suc number) held.Nothing) (secure_channel_of c)) (sym (closed_past_first number))
    (subst (λ (h : ChannelSession). RepresentsSecureChannel h (secure_channel_of None)) (sym (each_alike held.Nothing (CHANNELS - 1) number)) tt)

-- power on
pub powered_on_shows : (page : ℕ → List ℕ) (tables : Tables) (channels : Channels) (said : Registry) → HasLayout tables → SaysRegistry page tables said
    → channels.live ≡ first_live → channels.sessions ≡ no_sessions → KeptRepresents page (kept_of tables channels) (powered_on said)
powered_on_shows page tables channels said layout says is none = record {
  says = subst (λ (l : Live). RepresentsState page tables l (powered_on said)) (sym is) (record {
    registry = says;
    selected = first_selected tables.entries.items layout.issuer;
    places = first_places;
    load = tt;
  });
  four = ap (λ (all : List ChannelSession). length all) none;
  holds = subst (λ (h : List ChannelSession). (number : ℕ) → number < CHANNELS → RepresentsSecureChannel (slice_index_or h number held.Nothing) (secure_channel_of (channel_at first_volatile number)))
      (sym none) first_holds;
  loading = tt;
}
