-- The blocks of an Executable Load File that is loaded (GlobalPlatform Card Specification 2.3.1, 11.6 and C.2): the first one announces
-- how many bytes come, and the bytes of the others follow. The limits and the order of the rules are this profile's own.
use Rattle.std.specs.Prelude.{◌≡◌, ◌≢◌, ◌⊎◌, ℕ, ◌+◌, ◌<◌, ◌++◌, List, [], ◌∷◌, Bool, true, Option, None, Some, length}
use Rattle.std.specs.List.{sum_by}
use Rattle.bertlv.specs.Length.{LengthBytes}
use Rattle.card_types.specs.Registry.{Registry}
use Rattle.card_types.specs.Well.{pages_of}
use Rattle.card_types.specs.declared.limits.TheConstants.{FILE_LIMIT, LOAD_PAGES}
use Rattle.policy_machine.specs.State.{LoadSession}
use Rattle.sha1.specs.Sha1.{sha1}
use Rattle.sha2.specs.Sha256.{sha256}

-- a block: its data field, and whether it is the last one
pub record Block : Type 0 where
  pub last : Bool
  pub field : List ℕ

-- a first block begins with the tag C4 and how many bytes come, one at least; after it stand the first of them
pub record Announces (field : List ℕ) (size : ℕ) (bytes : List ℕ) : Type 0 where
  pub length_field : List ℕ
  pub spells : LengthBytes size length_field
  pub some : size ≢ 0
  pub joined : field ≡ 0xC4 ∷ length_field ++ bytes

-- the block brings these bytes to a file of this size, which the first block announces
abbrev pub BringsBytes : Option ℕ → Block → ℕ → List ℕ → Type 0
BringsBytes None block size bytes = Announces block.field size bytes
BringsBytes (Some announced) block size bytes = (size ≡ announced) × (bytes ≡ block.field)

-- how many load pages the Executable Load Files of a registry take
abbrev pub pages_used : Registry → ℕ
pages_used registry = sum_by (λ file. pages_of (length file.bytes)) registry.files

-- the bytes have this hash, SHA-1 or SHA-256, or none was given
abbrev pub HaveHash : List ℕ → List ℕ → Type 0
HaveHash bytes hash = (hash ≡ []) ⊎ (hash ≡ sha1 bytes) ⊎ (hash ≡ sha256 bytes)

-- the first block announces no length
abbrev pub HasNoLength : LoadSession → Block → Type 0
HasNoLength load block = (size : ℕ) (bytes : List ℕ) → BringsBytes load.announced block size bytes → ⊥

-- the file is too long, or there are not load pages enough
abbrev pub HasNoRoom : Registry → LoadSession → Block → Type 0
HasNoRoom registry load block =
    (size : ℕ) × (bytes : List ℕ) × BringsBytes load.announced block size bytes
    × ((FILE_LIMIT < size) ⊎ (LOAD_PAGES < pages_used registry + pages_of size))

-- more bytes have come than were announced, or with the last block fewer
abbrev pub HasOtherCount : LoadSession → Block → Type 0
HasOtherCount load block =
    (size : ℕ) × (bytes : List ℕ) × BringsBytes load.announced block size bytes
    × ((size < length (load.bytes ++ bytes)) ⊎ ((block.last ≡ true) × (length (load.bytes ++ bytes) ≢ size)))

-- with the last block, the bytes have another hash
abbrev pub HasOtherHash : LoadSession → Block → Type 0
HasOtherHash load block =
    (size : ℕ) × (bytes : List ℕ) × BringsBytes load.announced block size bytes × (block.last ≡ true) × (HaveHash (load.bytes ++ bytes) load.hash → ⊥)

-- the load session with what a block brings
abbrev pub with_block : LoadSession → ℕ → List ℕ → LoadSession
with_block load size bytes = record load { announced = Some size; bytes = load.bytes ++ bytes; blocks = load.blocks + 1 }
