-- A channel gets a place in a listing, as the code keeps it and in the model.
use Rattle.std.proofs.Common.{◌≡◌, ℕ, zero, suc, ◌<◌, ◌≤◌, List, [], ◌∷◌, Option, None, Some, length, refl, ap, ◌∙◌, arith}
use Rattle.std.specs.Prelude.{IsSome, slice_index_or, slice_set}
use Rattle.std.specs.Option.{option_map}
use Rattle.card_types.proofs.Domains.{well_entry}
use Rattle.card_types.specs.declared.tables.Entry.{Entry}
use Rattle.card_types.specs.declared.tables.Tables.{Tables}
use Rattle.card_core.specs.Prelude.{ActsIn, Admitted, Channel, IsSelectedIn, Place, RepresentsState, channel_at, channel_at_place, live_with_place, place_in, place_of, selected_of, with_place}
use Rattle.policy_machine.specs.declared.channels.TheConstants.{CHANNELS}
use Rattle.policy_slots.proofs.ActingDomain.{acting_aid}
use Rattle.policy_slots.specs.declared.live.Live.{Live}
use Rattle.policy_slots.specs.declared.live.Place.{Place as KeptPlace}
use Rattle.card_core.proofs.SetAt.{same_at, set_at, set_each}

-- where something is at a place, the list goes so far
within : {A : Type 0} (xs : List (Option A)) (number : ℕ) → IsSome (slice_index_or xs number None) → number < length xs
within [] zero there = cc
within [] (suc number) there = cc
within (x ∷ xs) zero there = omega arith
within (x ∷ xs) (suc number) there = (let later = within xs number there in omega (arith, later))

-- a closed channel has nothing selected
opened : (channel : Option Channel) (aid : List ℕ) → selected_of channel ≡ aid → 5 ≤ length aid → IsSome channel
opened None aid is long = absurd (omega (arith, ap length is, long))
opened (Some channel) aid is long = refl

selected_placed : (entries : List (Option Entry)) (place : Place) (slot : Option ℕ) (channel : Option Channel) → IsSelectedIn entries slot channel
    → IsSelectedIn entries slot (channel_at_place place channel)
selected_placed entries place slot None selected = selected
selected_placed entries place None (Some channel) selected = selected
selected_placed entries place (Some slot) (Some channel) selected = selected

place_placed : (place : Place) (channel : Option Channel) → IsSome channel → Some place ≡ place_in (channel_at_place place channel)
place_placed place None open_ = cc
place_placed place (Some channel) open_ = refl

module _ (page : ℕ → List ℕ) (tables : Tables) (domain : ℕ) (admitted : Admitted) (acts : ActsIn page tables domain admitted) (live : Live)
    (says : RepresentsState page tables live admitted.at) (below : admitted.channel < CHANNELS) (fits : admitted.channel < length live.places) where
  abbrev here : Option Channel
  here = channel_at admitted.at.volatile admitted.channel

  -- the channel that a command comes on is open
  is_open : IsSome here
  is_open =
      let aid = (well_entry page tables admitted.at.registry acts.says acts.well domain acts.entry acts.at).proper.aid in
      opened here acts.entry.aid (acting_aid page tables domain admitted acts) aid.0

  pub placed_shows : (kept : KeptPlace) (place : Place) → place_of kept ≡ place
      → RepresentsState page tables (live_with_place live admitted.channel kept)
      (record { registry = admitted.at.registry; volatile = with_place admitted.at.volatile admitted.channel place })
  placed_shows kept place same =
      let few = within admitted.at.volatile.channels admitted.channel is_open in
      let channels = set_at admitted.at.volatile.channels admitted.channel (channel_at_place place here) None few in
      record {
        registry = says.registry;
        selected = λ n low.
            set_each (IsSelectedIn tables.entries.items) live.selected live.selected admitted.at.volatile.channels _ admitted.channel
            (slice_index_or live.selected admitted.channel None) None (channel_at_place place here) None (same_at live.selected admitted.channel None) channels
            (selected_placed tables.entries.items place (slice_index_or live.selected admitted.channel None) here (says.selected admitted.channel below)) n (says.selected n low);
        places = λ n low.
            set_each (λ p c. option_map place_of p ≡ place_in c) live.places (slice_set live.places admitted.channel (Some kept)) admitted.at.volatile.channels _ admitted.channel
            (Some kept) None (channel_at_place place here) None (set_at live.places admitted.channel (Some kept) None fits) channels
            (ap (λ (p : Place). Some p) same ∙ place_placed place here is_open) n (says.places n low);
        load = says.load;
      }
