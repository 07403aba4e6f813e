-- For the code inside. Key sets: the three keys of one key version number. Key version number 00 asks for any set (GlobalPlatform
-- Card Specification 2.3.1, 11.8; Amendment D, 7.1.1).
use Rattle.std.specs.Prelude.{◌≡◌, ℕ, ◌≤◌, ◌==◌, ◌⊎◌, List, [], ◌∷◌, Bool, ◌&&◌, Option, Some, MatchOption, length}
use Rattle.card_types.specs.Registry.{Registry, counter_named, key_named}
use Rattle.card_types.specs.Represents.{thing_in, counter_of, key_of}
use Rattle.card_types.specs.Well.{IsKeyLength}
use Rattle.card_types.specs.declared.key_set.KeySet.{KeySet}
use Rattle.card_types.specs.declared.tables.Entry.{Entry}
use Rattle.card_types.specs.declared.tables.KeyRec.{KeyRec}

-- the key of this owner with this key version number and key identifier
pub record IsKeyOf (owner version identifier : ℕ) (key : KeyRec) : Type 0 where
  pub same_owner : key.owner ≡ owner
  pub same_version : key.version ≡ version
  pub same_identifier : key.identifier ≡ identifier

-- a test whether a key is the one of this owner with this key version number and key identifier
abbrev pub is_key : ℕ → ℕ → ℕ → KeyRec → Bool
is_key owner version identifier key = key.owner == owner && key.version == version && key.identifier == identifier

-- the slot holds that key
abbrev pub HasKey : List (Option KeyRec) → ℕ → ℕ → ℕ → ℕ → Type 0
HasKey keys owner version identifier slot = MatchOption (thing_in keys slot) ⊥ (IsKeyOf owner version identifier)

-- some slot holds this key, which is that one
pub record HoldsKeyOf (keys : List (Option KeyRec)) (owner version identifier : ℕ) (key : KeyRec) : Type 0 where
  pub slot : ℕ
  pub at : thing_in keys slot ≡ Some key
  pub is : IsKeyOf owner version identifier key

-- the slots hold the three keys of this key version number
pub record HasKeys (keys : List (Option KeyRec)) (owner version : ℕ) (slots : List ℕ) : Type 0 where
  pub first : ℕ
  pub second : ℕ
  pub third : ℕ
  pub are : slots ≡ first ∷ second ∷ third ∷ []
  pub first_key : HasKey keys owner version 1 first
  pub second_key : HasKey keys owner version 2 second
  pub third_key : HasKey keys owner version 3 third

-- a key version number that is asked for: the given one, or any of a key set where 00 is given
pub record IsVersionAsked (given version : ℕ) : Type 0 where
  pub asked : (given ≡ 0) ⊎ (given ≡ version)
  pub least : 0x01 ≤ version
  pub most : version ≤ 0x6F

-- the slots hold the key set asked for, with the lowest key version number
pub record IsSetOf (keys : List (Option KeyRec)) (owner given : ℕ) (slots : List ℕ) : Type 0 where
  pub version : ℕ
  pub asked : IsVersionAsked given version
  pub whole : HasKeys keys owner version slots
  pub lowest : (other : ℕ) (others : List ℕ) → IsVersionAsked given other → HasKeys keys owner other others → version ≤ other

-- there is no key set that was asked for
abbrev pub NoSetOf : List (Option KeyRec) → ℕ → ℕ → Type 0
NoSetOf keys owner given = (version : ℕ) (slots : List ℕ) → IsVersionAsked given version → HasKeys keys owner version slots → ⊥

-- The keys of a key set, by names.

-- they have one length, that of a key
pub record HaveKeyLength (set : KeySet) : Type 0 where
  pub enc : IsKeyLength (length set.enc.now.bytes.items)
  pub mac : length set.mac.now.bytes.items ≡ length set.enc.now.bytes.items
  pub dek : length set.dek.now.bytes.items ≡ length set.enc.now.bytes.items

-- they are the keys of this domain's key set with this key version number, and Key-ENC keeps its counter
pub record AreKeysOf (entries : List (Option Entry)) (said : Registry) (owner : List ℕ) (version : ℕ) (set : KeySet) : Type 0 where
  pub enc : key_named said owner version 1 ≡ Some (key_of entries set.enc.now)
  pub mac : key_named said owner version 2 ≡ Some (key_of entries set.mac.now)
  pub dek : key_named said owner version 3 ≡ Some (key_of entries set.dek.now)
  pub counter : counter_named said owner version ≡ Some (counter_of entries set.enc.now)
