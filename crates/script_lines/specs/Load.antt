-- `load FILE DOMAIN HASH HEX` and `load FILE DOMAIN HASH fill N BB` load an Executable Load File (GlobalPlatform Card
-- Specification 2.3.1, 11.5.2.3.1, 11.6).
use Rattle.std.specs.Prelude.{◌≡◌, ◌≤◌, ℕ, zero, suc, ◌+◌, ◌==◌, drop, take, List, [], ◌∷◌, codes, decimal, Option, Some, None, replicate, if◌then◌else◌, length, Bool, nat_lt, ◌/◌, ◌%◌, ◌++◌}
use Rattle.script_lines.specs.Words.{SaysBytes, SpellsAid, SpellsByte}
use Rattle.script_lines.specs.declared.load_file.HashFunction.{HashFunction}
use Rattle.script_lines.specs.declared.load_file.HashFunction.TheVariants.{Sha1, Sha256}
use Rattle.script_lines.specs.declared.load_file.Content.{Content}
use Rattle.script_lines.specs.declared.load_file.Content.TheVariants.{Written, Filled}
use Rattle.script_lines.specs.declared.load_file.LoadFile.{LoadFile}
use Rattle.apdu_core.specs.Apdu.{Apdu}
use Rattle.sha1.specs.Sha1.{sha1}
use Rattle.sha2.specs.Sha256.{sha256}
use Rattle.script_lines.specs.Command.{plain_command}
use Rattle.script_lines.specs.Life.{aid_or_none}
use Rattle.script_lines.specs.Tokens.{install_command}
use Rattle.script_lines.specs.declared.tokens.Tokens.{Tokens}

-- `-` for none, or an AID
unfoldable pub SpellsDomain : List ℕ → Option (List ℕ) → Type 0
SpellsDomain word None = word ≡ codes "-"
SpellsDomain word (Some aid) = SpellsAid word aid

abbrev pub hash_word : Option HashFunction → List ℕ
hash_word None = codes "none"
hash_word (Some Sha1) = codes "sha1"
hash_word (Some Sha256) = codes "sha256"

-- decimal digits without a leading zero, from 1 to 60,000
unfoldable pub SpellsCount : List ℕ → ℕ → Type 0
SpellsCount word count = (word ≡ decimal count) × (1 ≤ count) × (count ≤ 60_000)

-- the bytes themselves, or how many bytes of which value
abbrev pub SaysContent : List (List ℕ) → Content → Type 0
SaysContent words (Written bytes) = SaysBytes words bytes
SaysContent (fill ∷ count ∷ byte ∷ []) (Filled f) = (fill ≡ codes "fill") × SpellsCount count f.count × SpellsByte byte f.byte
SaysContent _ (Filled f) = ⊥

abbrev pub SaysLoad : List (List ℕ) → LoadFile → Type 0
SaysLoad (file ∷ domain ∷ hash ∷ content) l =
    SpellsAid file l.file × SpellsDomain domain l.domain × (hash ≡ hash_word l.hash) × SaysContent content l.content
SaysLoad _ l = ⊥

abbrev pub content_bytes : Content → List ℕ
content_bytes (Written bytes) = bytes.items
content_bytes (Filled fill) = replicate fill.count fill.byte

abbrev pub hash_of : Option HashFunction → List ℕ → List ℕ
hash_of None bytes = []
hash_of (Some Sha1) bytes = sha1 bytes
hash_of (Some Sha256) bytes = sha256 bytes

-- INSTALL for load, without parameters (GlobalPlatform Card Specification 2.3.1, 11.5.2.3.1)
abbrev pub beginning_load : Tokens → LoadFile → Apdu
beginning_load tokens l =
    install_command tokens 0x02 (l.file ∷ aid_or_none l.domain ∷ hash_of l.hash (content_bytes l.content) ∷ [] ∷ [])

-- a length field of BER-TLV, as short as can be
abbrev pub length_field : ℕ → List ℕ
length_field size =
    if nat_lt size 0x80 then size ∷ []
    else if nat_lt size 0x100 then 0x81 ∷ size ∷ []
    else 0x82 ∷ size / 0x100 ∷ size % 0x100 ∷ []

-- the Load File Data Block after its tag (11.6.2.3)
abbrev pub block_element : List ℕ → List ℕ
block_element bytes = 0xC4 ∷ length_field (length bytes) ++ bytes

-- LOAD of the next block, with P1 80 for the last one and the block's number in P2 (11.6.2)
abbrev pub block_command : (last : Bool) (number : ℕ) → List ℕ → Apdu
block_command last number block = plain_command 0xE8 (if last then 0x80 else 0x00) number block

-- the LOAD commands of so many blocks of a size, the first of which has this number
abbrev pub load_blocks : (size left number : ℕ) → List ℕ → List Apdu
load_blocks size zero number bytes = []
load_blocks size (suc left) number bytes = block_command (left == 0) number (take size bytes) ∷ load_blocks size left (number + 1) (drop size bytes)
