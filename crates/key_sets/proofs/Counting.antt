-- The last sequence counter.
use Rattle.std.proofs.Common.{◌≡◌, inl, inr, ◌≤◌, arith}
use Rattle.std.proofs.lemmas.Bool.{cases_Bool}
use Rattle.card_types.specs.Represents.{keeps_counter}
use Rattle.card_types.specs.declared.limits.TheConstants.{COUNTER_LIMIT}
use Rattle.card_types.specs.declared.tables.KeyRec.{KeyRec}
use Rattle.rec_store.specs.KeySlot.{IsRoomyKey}

-- a counter that is not below the last one is the last one
pub last_counter : (key : KeyRec) → IsRoomyKey key → COUNTER_LIMIT ≤ key.counter → key.counter ≡ COUNTER_LIMIT
last_counter key roomy most = elim (cases_Bool (keeps_counter key)) [
  | inl keeps ↦ (let limit = rw keeps at roomy in omega (arith, limit, most))
  | inr keeps_none ↦ (let limit = rw keeps_none at roomy in absurd (omega (arith, limit, most)))
]
