-- PUT KEY (GlobalPlatform Card Specification 2.3.1, 11.8; Amendment D, 7.2): a key set, a token key or a receipt key of the selected
-- domain is put, in the place of the keys with another key version number, or of none.
use Rattle.std.specs.Prelude.{◌≡◌, ◌≢◌, ◌⊎◌, ℕ, ◌+◌, ◌*◌, ◌/◌, ◌<◌, ◌≤◌, List, [], ◌∷◌, ◌++◌, All, Bool, MatchOption, codes, false, filter, if◌then◌else◌, length, map, nat_lt, replicate, take, true, ◌==◌}
use Rattle.std.specs.List.{concat}
use Rattle.aes_block.specs.Cipher.{cipher}
use Rattle.card_types.specs.Aid.{same_aid}
use Rattle.card_types.specs.Registry.{counter_order, key_order, Counter, Key, Registry}
use Rattle.card_types.specs.Well.{IsKeyLength}
use Rattle.card_types.specs.declared.limits.TheConstants.{DOMAIN_KEYS, KEYS}
use Rattle.cmac_kdf.specs.Blocks.{IsBytes, zero_block}
use Rattle.cmac_kdf.specs.Cbc.{cbc}
use Rattle.policy_machine.specs.Admission.{Admitted}
use Rattle.policy_machine.specs.Arranged.{IsArranged}
use Rattle.policy_machine.specs.KeySets.{counters_but, has_key_version, keys_but, with_keys}
use Rattle.policy_machine.specs.Management.{acting}
use Rattle.policy_machine.specs.State.{session_on}
use Rattle.policy_machine.specs.Refusal.{Refusal, refusal}
use Rattle.policy_machine.specs.declared.put_key.RulePK.{RulePK}
use Rattle.policy_machine.specs.declared.put_key.RulePK.TheVariants.{PK1, PK2, PK3, PK4}
use Rattle.policy_machine.specs.declared.rule.Rule.{Rule}
use Rattle.policy_machine.specs.declared.rule.Rule.TheVariants.{PK}
use Rattle.policy_machine.specs.ManagedForm.{ManagedForm, command_form, content_form, ordered_rules}

-- P1 is the key version number that is replaced, or 00 for none; P2 is the first key identifier, 01, with the high bit where
-- several keys come
abbrev pub PutKeyParameters : ℕ → ℕ → Type 0
PutKeyParameters p1 p2 =
    ((p1 ≤ 0x6F) × (p2 ≡ 0x81)) ⊎ (((p1 ≡ 0x00) ⊎ (p1 ≡ 0x70) ⊎ (p1 ≡ 0x71)) × (p2 ≡ 0x01))

-- a key as it is sent: its length, its enciphered bytes, and its check value
pub record SentKey : Type 0 where
  pub size : ℕ
  pub sealed : List ℕ
  pub check : List ℕ

-- how many bytes a key of this length has once it is enciphered: whole blocks
abbrev pub sealed_size : ℕ → ℕ
sealed_size size = (size + 15) / 16 * 16

-- its key field: the key type AES, the length of the key data (the length of the key and the enciphered bytes), the length of the
-- key, the enciphered bytes, the length of the check value, and that value
abbrev pub key_field : SentKey → List ℕ
key_field key = 0x88 ∷ (sealed_size key.size + 1) ∷ key.size ∷ key.sealed ++ 0x03 ∷ key.check

-- the lengths of its parts
pub record HasFieldLengths (key : SentKey) : Type 0 where
  pub size : IsKeyLength key.size
  pub sealed : length key.sealed ≡ sealed_size key.size
  pub check : length key.check ≡ 3

-- the keys have one length
abbrev pub AreOfOneLength : List SentKey → Type 0
AreOfOneLength keys = (size : ℕ) × All (λ key. key.size ≡ size) keys

-- three keys make a key set, which has a key version number from 01 to 6F; a token key (70) and a receipt key (71) stand alone
abbrev pub key_count : ℕ → ℕ
key_count p2 = if p2 == 0x81 then 3 else 1

abbrev pub IsNewVersion : ℕ → ℕ → Type 0
IsNewVersion p2 version =
    ((p2 ≡ 0x81) × (0x01 ≤ version) × (version ≤ 0x6F)) ⊎ ((p2 ≡ 0x01) × ((version ≡ 0x70) ⊎ (version ≡ 0x71)))

-- the data field is the new key version number and the key fields, of keys of one length
pub record HasKeyFields (p2 : ℕ) (body : List ℕ) (version : ℕ) (keys : List SentKey) : Type 0 where
  pub new : IsNewVersion p2 version
  pub count : length keys ≡ key_count p2
  pub each : All HasFieldLengths keys
  pub alike : AreOfOneLength keys
  pub spelled : body ≡ version ∷ concat (map key_field keys)

-- what is asked for: the new key version number, and the keys as they are sent
pub record KeysAsked : Type 0 where
  pub version : ℕ
  pub sent : List SentKey

abbrev pub AsksToPut : (p1 p2 : ℕ) → List ℕ → KeysAsked → Type 0
AsksToPut p1 p2 body asked = HasKeyFields p2 body asked.version asked.sent

-- The bytes of a key that is sent. With the bytes after it that fill the last block, which are not read, it was enciphered as
-- what was sent, under the static Key-DEK of the session (CBC without padding, from a zero block; Amendment D, 4.1.4).
pub record IsKeySent (dek : List ℕ) (sent : SentKey) (key : List ℕ) : Type 0 where
  pub fill : List ℕ
  pub bytes : IsBytes (key ++ fill)
  pub size : length key ≡ sent.size
  pub whole : length (key ++ fill) ≡ sealed_size sent.size
  pub sealed : cbc dek zero_block (key ++ fill) ≡ sent.sealed

abbrev pub AreKeysSent : List ℕ → List SentKey → List (List ℕ) → Type 0
AreKeysSent dek [] [] = Unit {0}
AreKeysSent dek (one ∷ sent) (key ∷ keys) = IsKeySent dek one key × AreKeysSent dek sent keys
AreKeysSent dek sent keys = ⊥

-- the check value of a key: the first three bytes of the cipher of sixteen bytes 01 (GlobalPlatform Card Specification, B.6)
abbrev pub check_value : List ℕ → List ℕ
check_value key = take 3 (cipher key (replicate 16 0x01))

-- the keys that are sent open to these in the session of the command's channel
abbrev pub AreOpened : Admitted → List SentKey → List (List ℕ) → Type 0
AreOpened admitted sent keys =
    MatchOption (session_on admitted.at.volatile admitted.channel) ⊥ (λ session. AreKeysSent session.offer.dek sent keys)

-- each check value is that of its key
abbrev pub ChecksFit : List SentKey → List (List ℕ) → Type 0
ChecksFit sent keys = map check_value keys ≡ map (λ one. one.check) sent

abbrev pub put_key_refusal : RulePK → Refusal
put_key_refusal PK1 = refusal (codes "PK1") 0x6A88
put_key_refusal PK2 = refusal (codes "PK2") 0x6A80
put_key_refusal PK3 = refusal (codes "PK3") 0x6A80
put_key_refusal PK4 = refusal (codes "PK4") 0x6A84

-- the keys that stay, on the card and with the domain
abbrev pub keys_left : Admitted → List Key
keys_left admitted = keys_but (acting admitted) admitted.command.p1 admitted.at.registry.keys

abbrev pub own_keys_left : Admitted → List Key
own_keys_left admitted = filter (λ key. same_aid key.owner (acting admitted)) (keys_left admitted)

abbrev pub PuttingKeyFails : Admitted → KeysAsked → RulePK → Type 0
-- the key version number that is to be replaced is not there
PuttingKeyFails admitted asked PK1 =
    (admitted.command.p1 ≢ 0x00) × (has_key_version admitted.at.registry (acting admitted) admitted.command.p1 ≡ false)
-- the new one is there already, and is not the one replaced
PuttingKeyFails admitted asked PK2 =
    (asked.version ≢ admitted.command.p1) × (has_key_version admitted.at.registry (acting admitted) asked.version ≡ true)
-- a check value is another
PuttingKeyFails admitted asked PK3 = (keys : List (List ℕ)) × AreOpened admitted asked.sent keys × (ChecksFit asked.sent keys → ⊥)
-- the card or the domain would have too many keys
PuttingKeyFails admitted asked PK4 =
    (KEYS < length (keys_left admitted) + key_count admitted.command.p2)
    ⊎ (DOMAIN_KEYS < length (own_keys_left admitted) + key_count admitted.command.p2)

-- the keys that are put, with key identifiers from the one given on
abbrev pub keys_from : List ℕ → ℕ → ℕ → List (List ℕ) → List Key
keys_from owner version identifier [] = []
keys_from owner version identifier (bytes ∷ keys) =
    record { owner = owner; version = version; identifier = identifier; bytes = bytes } ∷ keys_from owner version (identifier + 1) keys

-- the sequence counter that comes with a key set, of 000000
abbrev pub counters_from : List ℕ → ℕ → List Counter
counters_from owner version = if nat_lt version 0x70 then record { owner = owner; version = version; number = 0 } ∷ [] else []

-- The keys are put, with a new sequence counter for a key set.
pub record AreKeysPut (admitted : Admitted) (asked : KeysAsked) (changed : Registry) : Type 0 where
  pub bytes : List (List ℕ)
  pub opened : AreOpened admitted asked.sent bytes
  pub keys : List Key
  pub counters : List Counter
  pub keys_put : IsArranged key_order (keys_from (acting admitted) asked.version 1 bytes ++ keys_left admitted) keys
  pub counters_put : IsArranged counter_order (counters_from (acting admitted) asked.version ++ counters_but (acting admitted) admitted.command.p1 admitted.at.registry.counters) counters
  pub registry : changed ≡ with_keys admitted.at.registry keys counters

-- the reply is the new key version number and the check values
abbrev pub managed_put_key : ManagedForm
managed_put_key = record {
  judged = record (content_form 0xD8 PutKeyParameters AsksToPut) { own = ordered_rules PK (PK1 ∷ PK2 ∷ PK3 ∷ PK4 ∷ []) PuttingKeyFails };
  becomes = AreKeysPut;
  reply = λ asked. asked.version ∷ concat (map (λ one. one.check) asked.sent);
}

abbrev pub PutKeyFails : Admitted → Rule → Type 0
PutKeyFails = (command_form managed_put_key).fails

-- whether the check values fit, as a flag says it
abbrev pub SaysChecks : Bool → Admitted → Type 0
SaysChecks true admitted = PutKeyFails admitted (PK PK3) → ⊥
SaysChecks false admitted = PutKeyFails admitted (PK PK3)

-- the flag says of a PUT KEY whether its check values fit, and nothing of other commands
abbrev pub TellsChecks : Bool → Admitted → Type 0
TellsChecks flag admitted = admitted.command.ins ≡ managed_put_key.judged.instruction → SaysChecks flag admitted
