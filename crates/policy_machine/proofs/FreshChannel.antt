-- A channel on which an entry was just selected, and those that nothing was done on since power on.
use Rattle.std.proofs.Common.{◌≡◌, ℕ, zero, suc, ◌-◌, List, Option, None, Some, refl}
use Rattle.std.specs.Prelude.{IsSome, MatchOption, replicate, slice_index_or}
use Rattle.policy_machine.specs.Prelude.{Entry, IsIssuerDomain, IsWellChannel, Registry, Well, channel_at, entry_named, first_volatile, fresh}
use Rattle.card_types.specs.declared.factory.TheConstants.{ISSUER}
use Rattle.policy_machine.specs.declared.channels.TheConstants.{CHANNELS}

issuer_is_named : (registry : Registry) → (found : Option Entry) → MatchOption found ⊥ IsIssuerDomain → IsSome found
issuer_is_named registry None issuer = absurd issuer
issuer_is_named registry (Some entry) issuer = refl

-- a channel on which an entry of the registry was just selected
pub fresh_is_well : (registry : Registry) (aid : List ℕ) → IsSome (entry_named registry aid) → IsWellChannel registry (fresh aid)
fresh_is_well registry aid named = record { selected = named; secure_channel = tt }

pub issuer_is_well : (registry : Registry) → Well registry → IsWellChannel registry (fresh ISSUER)
issuer_is_well registry well = fresh_is_well registry ISSUER (issuer_is_named registry (entry_named registry ISSUER) well.issuer)

-- each item is the same, and so is what stands for one past the end
pub each_alike : {T : Type 0} (item : T) (count number : ℕ) → slice_index_or (replicate count item) number item ≡ item
each_alike item zero number = refl
each_alike item (suc count) zero = refl
each_alike item (suc count) (suc number) = each_alike item count number

-- after power on each channel but the first is closed
pub closed_past_first : (number : ℕ) → channel_at first_volatile (suc number) ≡ None
closed_past_first = each_alike None (CHANNELS - 1)
