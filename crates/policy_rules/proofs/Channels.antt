-- The lowest closed channel, by the slots of what is selected.
use Rattle.std.proofs.Common.{◌≡◌, ℕ, suc, ◌+◌, ◌<◌, List, [], ◌∷◌, Option, None, Some, refl, sym, length, arith}
use Rattle.std.specs.Prelude.{cond, nat_lt, not, position, is_none, slice_index_or}
use Rattle.std.specs.List.{position_or_len}
use Rattle.card_types.specs.declared.tables.Entry.{Entry}
use Rattle.policy_rules.specs.Prelude.{Channel, IsSelectedIn, is_closed, lowest_closed}

closed_alike : (entries : List (Option Entry)) (slot : Option ℕ) (channel : Option Channel) → IsSelectedIn entries slot channel → is_closed channel ≡ is_none slot
closed_alike entries None None selected = refl
closed_alike entries None (Some channel) selected = absurd selected
closed_alike entries (Some slot) None selected = absurd selected
closed_alike entries (Some slot) (Some channel) selected = refl

same_place : (entries : List (Option Entry)) (slots : List (Option ℕ)) (channels : List (Option Channel)) → length slots ≡ length channels
    → ((number : ℕ) → number < length channels → IsSelectedIn entries (slice_index_or slots number None) (slice_index_or channels number None))
    → position_or_len is_closed channels ≡ position_or_len is_none slots
same_place entries [] [] long selected = refl
same_place entries [] (channel ∷ channels) long selected = absurd (omega arith)
same_place entries (slot ∷ slots) [] long selected = absurd (omega arith)
same_place entries (slot ∷ slots) (channel ∷ channels) long selected =
    let first = closed_alike entries slot channel (selected 0 (omega arith)) in
    let rest = same_place entries slots channels (omega arith) (λ number low. selected (suc number) (omega arith)) in
    (λ i. cond (not (first i)) (1 + rest i) 0)

pub lowest_is : (entries : List (Option Entry)) (slots : List (Option ℕ)) (channels : List (Option Channel)) → length slots ≡ length channels
    → ((number : ℕ) → number < length channels → IsSelectedIn entries (slice_index_or slots number None) (slice_index_or channels number None))
    → lowest_closed channels ≡ position is_none slots
lowest_is entries slots channels long selected =
    let place = same_place entries slots channels long selected in
    (λ i. cond (nat_lt (place i) (sym long i)) (Some (place i)) None)
