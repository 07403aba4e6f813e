-- A card that was just powered on, on which a domain was selected: what is kept of it, and that it is sound.
use Rattle.std.proofs.Common.{◌≡◌, ℕ, zero, suc, ◌-◌, ◌<◌, List, Option, None, Some, refl, sym, ap, subst, ◌∙◌}
use Rattle.std.specs.Prelude.{IsSome, MatchOption, slice_index_or}
use Rattle.std.specs.Option.{option_map}
use Rattle.apdu_core.specs.Apdu.{Apdu}
use Rattle.card_types.proofs.Domains.{domain_aid_is}
use Rattle.card_types.specs.Registry.{Registry, entry_named}
use Rattle.card_types.specs.Represents.{Represents, domain_aid, thing_in}
use Rattle.card_types.specs.Well.{Well}
use Rattle.card_types.specs.declared.tables.Entry.{Entry}
use Rattle.card_types.specs.declared.tables.Tables.{Tables}
use Rattle.policy_machine.proofs.FreshChannel.{closed_past_first, each_alike, fresh_is_well}
use Rattle.policy_machine.specs.Sound.{IsSound, IsWellChannel}
use Rattle.policy_machine.specs.State.{Channel, channel_at, place_in}
use Rattle.policy_machine.specs.declared.channels.TheConstants.{CHANNELS}
use Rattle.policy_slots.proofs.NearestHolder.{slot_named}
use Rattle.policy_slots.specs.StateShown.{ActsIn, place_of, IsSelectedIn, RepresentsState}
use Rattle.policy_slots.specs.LiveEnds.{first_live, live_with_channel}
use Rattle.policy_slots.specs.declared.live.Live.{Live}
use Rattle.access_matrix.specs.There.{judged_there, with_domain}

abbrev pub live_there : ℕ → Live
live_there domain = live_with_channel first_live 0 (Some domain)

module _ (page : ℕ → List ℕ) (tables : Tables) (said : Registry) (says : Represents page tables said) (domain : ℕ) (entry : Entry)
    (at : thing_in tables.entries.items domain ≡ Some entry) where
  abbrev aid : List ℕ
  aid = domain_aid tables.entries.items domain

  selected_there : (number : ℕ) → number < CHANNELS
      → IsSelectedIn tables.entries.items (slice_index_or (live_there domain).selected number None) (channel_at (with_domain said aid).volatile number)
  selected_there zero below = (entry, at, sym (domain_aid_is tables.entries.items domain entry at))
  selected_there (suc number) below =
      subst (λ (c : Option Channel). IsSelectedIn tables.entries.items (slice_index_or (live_there domain).selected (suc number) None) c) (sym (closed_past_first number))
      (subst (λ (slot : Option ℕ). IsSelectedIn tables.entries.items slot None) (sym (each_alike None (CHANNELS - 1) number)) tt)

  places_there : (number : ℕ) → number < CHANNELS
      → option_map place_of (slice_index_or (live_there domain).places number None) ≡ place_in (channel_at (with_domain said aid).volatile number)
  places_there zero below = refl
  places_there (suc number) below = ap (option_map place_of) (each_alike None (CHANNELS - 1) number) ∙ sym (ap place_in (closed_past_first number))

  pub represented_there : RepresentsState page tables (live_there domain) (with_domain said aid)
  represented_there = record { registry = says; selected = selected_there; places = places_there; load = tt }

  named_there : IsSome (entry_named said aid)
  named_there = rw (slot_named page tables said says domain entry at) refl

  channels_there : (number : ℕ) → MatchOption (channel_at (with_domain said aid).volatile number) (Unit {0}) (IsWellChannel said)
  channels_there zero = fresh_is_well said aid named_there
  channels_there (suc number) = subst (λ (c : Option Channel). MatchOption c (Unit {0}) (IsWellChannel said)) (sym (closed_past_first number)) tt

  pub sound_there : Well said → IsSound (with_domain said aid)
  sound_there well = record {
    well = well;
    ascending = says.ascending;
    fits = record { channels = refl; basic = refl; each = channels_there; load = tt };
  }

  pub acts_there : Well said → (command : Apdu) → ActsIn page tables domain (judged_there said aid command)
  acts_there well command = record { says = says; well = well; entry = entry; at = at; on = refl }

-- a slot that is used holds an entry
pub used_entry : (tables : Tables) (slot : ℕ) → IsSome (thing_in tables.entries.items slot) → (entry : Entry) × (thing_in tables.entries.items slot ≡ Some entry)
used_entry tables slot used = by (thing_in tables.entries.items slot) refl used
  where
    by : (o : Option Entry) → thing_in tables.entries.items slot ≡ o → IsSome o → (entry : Entry) × (thing_in tables.entries.items slot ≡ Some entry)
    by None is some = cc
    by (Some entry) is some = (entry, is)
