-- A registry as text: a line for each thing, and no bytes of keys. And why no more of it is written.
use Rattle.std.specs.Prelude.{◌≡◌, ℕ, List, [], ◌∷◌, ◌++◌, codes, decimal, length, cond}
use Rattle.std.specs.Int.{to_be_bytes, w16}
use Rattle.std.specs.List.{flat_map}
use Rattle.card_types.specs.CardLife.{card_life_code}
use Rattle.card_types.specs.LifeMark.{life_mark_code}
use Rattle.card_types.specs.Privileges.{has, privilege_bytes, security_domain}
use Rattle.card_types.specs.Registry.{Registry, Entry, LoadFile, Key, Counter, Object}
use Rattle.card_types.specs.declared.card_life.CardLife.{CardLife}
use Rattle.card_types.specs.declared.life.LifeMark.{LifeMark}
use Rattle.card_types.specs.declared.privileges.Privileges.{Privileges}
use Rattle.faults.specs.Faults.{Rose}
use Rattle.hex.specs.Hex.{encode_lower}
use Rattle.gp_tool.specs.declared.show.fault.ShowFault.{ShowFault}
use Rattle.gp_tool.specs.declared.show.fault.ShowFault.TheVariants.{Flash, Write}
use Rattle.scp03_card.specs.Offer.{counter_bytes}
use Rattle.sha2.specs.Sha256.{sha256}

abbrev pub card_line : CardLife → List ℕ
card_line life = codes "card " ++ encode_lower (card_life_code life ∷ []) ++ 10 ∷ []

abbrev pub entry_kind : Privileges → List ℕ
entry_kind privileges = cond (has security_domain privileges) (codes "domain ") (codes "app ")

-- an entry's AID, and those of its domain, its Executable Load File and its Module
abbrev pub entry_names : Entry → List ℕ
entry_names entry =
    encode_lower entry.aid ++ codes " in " ++ encode_lower entry.domain ++ codes " from " ++ encode_lower entry.file
    ++ codes " module " ++ encode_lower entry.module_

abbrev pub entry_state : LifeMark → Privileges → ℕ → List ℕ
entry_state life privileges receipts =
    codes " life " ++ encode_lower (life_mark_code life ∷ []) ++ codes " priv " ++ encode_lower (privilege_bytes privileges) ++ codes " receipts "
    ++ encode_lower (to_be_bytes w16 receipts)

abbrev pub entry_line : Entry → List ℕ
entry_line entry = entry_kind entry.privileges ++ entry_names entry ++ entry_state entry.life entry.privileges entry.receipts ++ 10 ∷ []

-- a file's AID and that of its domain
abbrev pub file_names : List ℕ → List ℕ → List ℕ
file_names aid domain = codes "file " ++ encode_lower aid ++ codes " in " ++ encode_lower domain

-- how many bytes it has, and their digest
abbrev pub file_content : ℕ → List ℕ → List ℕ
file_content size digest = codes " bytes " ++ decimal size ++ codes " sha256 " ++ encode_lower digest

abbrev pub file_line : LoadFile → List ℕ
file_line file = file_names file.aid file.domain ++ file_content (length file.bytes) (sha256 file.bytes) ++ 10 ∷ []

abbrev pub key_line : Key → List ℕ
key_line key =
    codes "key " ++ encode_lower key.owner ++ codes " " ++ encode_lower (key.version ∷ []) ++ codes " " ++ encode_lower (key.identifier ∷ [])
    ++ codes " " ++ decimal (length key.bytes) ++ 10 ∷ []

abbrev pub counter_line : Counter → List ℕ
counter_line counter =
    codes "counter " ++ encode_lower counter.owner ++ codes " " ++ encode_lower (counter.version ∷ []) ++ codes " "
    ++ encode_lower (counter_bytes counter.number) ++ 10 ∷ []

abbrev pub object_line : Object → List ℕ
object_line object =
    codes "object " ++ encode_lower object.owner ++ codes " " ++ encode_lower (to_be_bytes w16 object.tag) ++ codes " "
    ++ encode_lower object.value ++ 10 ∷ []

abbrev pub registry_text : Registry → List ℕ
registry_text registry =
    card_line registry.life ++ flat_map entry_line registry.entries ++ flat_map file_line registry.files ++ flat_map key_line registry.keys
    ++ flat_map counter_line registry.counters ++ flat_map object_line registry.objects

-- Whose count of faults has risen, from one number to another: the device's, before a call on the sink was refused, or the
-- sink's.
abbrev pub ShowCause : ℕ → ℕ → ℕ → ℕ → ShowFault → Type 0
ShowCause calls calls' writes writes' Flash = Rose calls calls' × (writes' ≡ writes)
ShowCause calls calls' writes writes' Write = Rose writes writes'
