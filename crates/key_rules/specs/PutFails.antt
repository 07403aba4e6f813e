-- For the code inside. Why keys are not put.
use Rattle.std.specs.Prelude.{◌≡◌, ◌≢◌, ◌⊎◌, ℕ, ◌+◌, ◌<◌, ◌==◌, List, Bool, true, false, Option, filter, length}
use Rattle.std.specs.List.{list_any}
use Rattle.card_types.specs.Represents.{things_in}
use Rattle.card_types.specs.declared.limits.TheConstants.{DOMAIN_KEYS, KEYS}
use Rattle.card_types.specs.declared.tables.KeyRec.{KeyRec}
use Rattle.key_rules.specs.Staying.{is_of, staying}
use Rattle.key_rules.specs.declared.refusal.PutRefusal.{PutRefusal}
use Rattle.key_rules.specs.declared.refusal.PutRefusal.TheVariants.{Unknown, Taken, Full}

-- the domain has keys with this key version number
abbrev pub has_version : ℕ → ℕ → List (Option KeyRec) → Bool
has_version owner version slots = list_any (is_of owner version) (things_in slots)

-- of these keys, those of the domain
abbrev pub keys_of_owner : ℕ → List KeyRec → List KeyRec
keys_of_owner owner keys = filter (λ key. key.owner == owner) keys

-- This many keys, `added`, are not put in the place of those with the key version number `replaced`.
abbrev pub PutFails : ℕ → ℕ → ℕ → ℕ → List (Option KeyRec) → PutRefusal → Type 0
PutFails owner replaced version added slots Unknown = (replaced ≢ 0) × (has_version owner replaced slots ≡ false)
PutFails owner replaced version added slots Taken = (version ≢ replaced) × (has_version owner version slots ≡ true)
PutFails owner replaced version added slots Full =
    (KEYS < length (staying owner replaced slots) + added) ⊎ (DOMAIN_KEYS < length (keys_of_owner owner (staying owner replaced slots)) + added)

-- none of the refusals holds
abbrev pub NoneHolds : (PutRefusal → Type 0) → Type 0
NoneHolds fails = (refusal : PutRefusal) → fails refusal → ⊥

-- this one holds, and none before it does
abbrev pub HoldsFirst : (PutRefusal → Type 0) → PutRefusal → Type 0
HoldsFirst fails Unknown = fails Unknown
HoldsFirst fails Taken = fails Taken × (fails Unknown → ⊥)
HoldsFirst fails Full = fails Full × (fails Unknown → ⊥) × (fails Taken → ⊥)
