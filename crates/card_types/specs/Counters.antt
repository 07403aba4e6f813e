-- Sequence counters of key sets (GlobalPlatform Amendment D, chapter 6).
use Rattle.std.specs.Prelude.{ℕ, ◌+◌, ◌<◌, ◌==◌, ◌&&◌, ◌≡◌, List, true, Option, MatchOption, cond, map}
use Rattle.card_types.specs.Aid.{same_aid}
use Rattle.card_types.specs.Registry.{Counter, Registry}
use Rattle.card_types.specs.Represents.{keeps_counter, thing_in}
use Rattle.card_types.specs.declared.limits.TheConstants.{COUNTER_LIMIT}
use Rattle.card_types.specs.declared.tables.KeyRec.{KeyRec}

-- the counter, one higher where it is that of this domain's key set with this key version number
abbrev pub raised_counter : List ℕ → ℕ → Counter → Counter
raised_counter owner version counter = record counter {
  number = cond (same_aid counter.owner owner && counter.version == version) (counter.number + 1) counter.number;
}

-- the registry with that counter one higher, and all else as it was
abbrev pub with_counter_raised : Registry → List ℕ → ℕ → Registry
with_counter_raised registry owner version = record registry { counters = map (raised_counter owner version) registry.counters }

-- the key with the next counter in place of the one that it keeps
abbrev pub raised_key : KeyRec → KeyRec
raised_key key = record key { counter = key.counter + 1 }

-- the slot holds a key that keeps a counter, and a next one comes after it
abbrev pub HasNextCounter : List (Option KeyRec) → ℕ → Type 0
HasNextCounter keys slot = MatchOption (thing_in keys slot) ⊥ (λ key. (keeps_counter key ≡ true) × (key.counter < COUNTER_LIMIT))
