-- What is selected on a channel, by its slot and by its AID.
use Rattle.std.proofs.Common.{◌≡◌, ℕ, ◌<◌, List, Option, None, Some, sym, ap, subst, ◌∙◌}
use Rattle.std.specs.Prelude.{slice_index_or}
use Rattle.card_types.proofs.Domains.{domain_aid_is}
use Rattle.policy_slots.specs.Prelude.{ActsIn, Admitted, Channel, IsSelectedIn, IsSound, RepresentsState, State, channel_at, domain_aid, selected_of, selected_on, thing_in}
use Rattle.card_types.specs.declared.tables.Entry.{Entry}
use Rattle.card_types.specs.declared.tables.Tables.{Tables}
use Rattle.policy_machine.specs.declared.channels.TheConstants.{CHANNELS}
use Rattle.policy_slots.specs.declared.live.Live.{Live}

by_slot : (entries : List (Option Entry)) (slot : ℕ) (channel : Option Channel) → IsSelectedIn entries (Some slot) channel
    → (entry : Entry) × (thing_in entries slot ≡ Some entry) × (selected_of channel ≡ entry.aid)
by_slot entries slot None selected = absurd selected
by_slot entries slot (Some channel) selected = (selected.0, selected.1, sym selected.2)

pub selected_entry : (page : ℕ → List ℕ) (tables : Tables) (live : Live) (state : State) (number slot : ℕ) → RepresentsState page tables live state → number < CHANNELS
    → slice_index_or live.selected number None ≡ Some slot
    → (entry : Entry) × (thing_in tables.entries.items slot ≡ Some entry) × (selected_on state.volatile number ≡ domain_aid tables.entries.items slot)
selected_entry page tables live state number slot says low is =
    let found = by_slot tables.entries.items slot (channel_at state.volatile number)
    (subst (λ (o : Option ℕ). IsSelectedIn tables.entries.items o (channel_at state.volatile number)) is (says.selected number low)) in
    (found.0, found.1, found.2 ∙ sym (domain_aid_is tables.entries.items slot found.0 found.1))

-- it is the domain that a command on the channel acts for
pub selected_acts : (page : ℕ → List ℕ) (tables : Tables) (live : Live) (admitted : Admitted) (number slot : ℕ) → RepresentsState page tables live admitted.at → IsSound admitted.at
    → number < CHANNELS → slice_index_or live.selected number None ≡ Some slot → number ≡ admitted.channel → ActsIn page tables slot admitted
selected_acts page tables live admitted number slot says sound low is here =
    let found = selected_entry page tables live admitted.at number slot says low is in
    record { says = says.registry; well = sound.well; entry = found.0; at = found.1; on = ap (selected_on admitted.at.volatile) (sym here) ∙ found.2 }
