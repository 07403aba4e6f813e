-- For the code inside. Searches through slots and AIDs.
use Rattle.std.specs.Ordering.{is_lt}
use Rattle.std.specs.Prelude.{◌≡◌, ◌≢◌, ℕ, List, Bool, true, Option, Some, ◌&&◌, None, ◌<◌, length}
use Rattle.std.specs.declared.cmp.Ordering.{Ordering}
use Rattle.std.specs.declared.cmp.Ordering.TheVariants.{Greater}
use Rattle.card_types.specs.Aid.{aid_order}
use Rattle.card_types.specs.Represents.{thing_in}
use Rattle.card_types.specs.declared.search.InSlot.{InSlot}

-- the thing is in the slot, it fits, and no other that fits is below it
pub record IsLeast {T : Type 0} (fits : T → Bool) (order : T → T → Ordering) (slots : List (Option T)) (slot : ℕ) (thing : T) : Type 0 where
  pub at : thing_in slots slot ≡ Some thing
  pub fitting : fits thing ≡ true
  pub least : (other : ℕ) (another : T) → thing_in slots other ≡ Some another → fits another ≡ true → order thing another ≢ Greater

-- no slot has a thing that fits
abbrev pub NoneFits : {T : Type 0} → (T → Bool) → List (Option T) → Type 0
NoneFits fits slots = (slot : ℕ) (thing : _) → thing_in slots slot ≡ Some thing → fits thing ≢ true

-- the thing, in its slot, is the least that fits
abbrev pub IsLeastFound : {T : Type 0} → (T → Bool) → (T → T → Ordering) → List (Option T) → InSlot T → Type 0
IsLeastFound fits order slots found = IsLeast fits order slots found.slot found.thing.now

-- the thing fits and is below the least so far
abbrev pub is_nearer : {T : Type 0} → (T → Bool) → (T → T → Ordering) → Option (InSlot T) → T → Bool
is_nearer fits order None thing = fits thing
is_nearer fits order (Some least) thing = fits thing && is_lt (order thing least.thing.now)

-- the thing is in its slot, it fits, and no slot before has one that fits
pub record IsFirstFitting {T : Type 0} (fits : T → Bool) (slots : List (Option T)) (found : InSlot T) : Type 0 where
  pub at : thing_in slots found.slot ≡ Some found.thing.now
  pub fitting : fits found.thing.now ≡ true
  pub first : (other : ℕ) (another : T) → other < found.slot → thing_in slots other ≡ Some another → fits another ≢ true

-- the slot is one of these and free, and none before is free
pub record IsFirstFree {T : Type 0} (slots : List (Option T)) (slot : ℕ) : Type 0 where
  pub within : slot < length slots
  pub free : thing_in slots slot ≡ None
  pub first : (other : ℕ) → other < slot → thing_in slots other ≢ None

-- each slot holds something
abbrev pub NoneFree : {T : Type 0} → List (Option T) → Type 0
NoneFree slots = (slot : ℕ) → slot < length slots → thing_in slots slot ≢ None

-- the AID is above the given one, if one is given
abbrev pub is_above : Option (List ℕ) → List ℕ → Bool
is_above None aid = true
is_above (Some after) aid = is_lt (aid_order after aid)
