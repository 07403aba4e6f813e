-- `putkey OLD NEW KEY [KEY KEY]` is PUT KEY (GlobalPlatform Card Specification 2.3.1, 11.8; Amendment D, 7.2).
use Rattle.std.specs.Prelude.{ℕ, List, [], ◌∷◌, length, ◌++◌, ◌-◌, replicate}
use Rattle.script_lines.specs.Keys.{SpellTrio}
use Rattle.script_lines.specs.Words.{SpellsByte, SpellsSome}
use Rattle.script_lines.specs.declared.keys.OfSize.{OfSize}
use Rattle.script_lines.specs.declared.keys.OfSize.TheVariants.{Aes128, Aes192, Aes256}
use Rattle.script_lines.specs.declared.put_key.NewKeys.{NewKeys}
use Rattle.script_lines.specs.declared.put_key.NewKeys.TheVariants.{One, Three}
use Rattle.script_lines.specs.declared.put_key.Putting.{Putting}
use Rattle.std.specs.List.{flat_map}
use Rattle.apdu_core.specs.Apdu.{Apdu}
use Rattle.cmac_kdf.specs.Blocks.{zero_block}
use Rattle.cmac_kdf.specs.Cbc.{cbc}
use Rattle.policy_machine.specs.PutKey.{SentKey, check_value, key_field, sealed_size}
use Rattle.script_lines.specs.Command.{plain_command}

abbrev pub SpellOne : (size : ℕ) → List (List ℕ) → List ℕ → Type 0
SpellOne size (word ∷ []) key = SpellsSome size word key
SpellOne size _ key = ⊥

-- one key or three, of so many bytes each
abbrev pub SpellNewKeys : (size : ℕ) → List (List ℕ) → NewKeys size → Type 0
SpellNewKeys size words (One key) = SpellOne size words key
SpellNewKeys size words (Three keys) = SpellTrio size words keys

abbrev pub SpellSized : List (List ℕ) → OfSize (NewKeys 16) (NewKeys 24) (NewKeys 32) → Type 0
SpellSized words (Aes128 keys) = SpellNewKeys 16 words keys
SpellSized words (Aes192 keys) = SpellNewKeys 24 words keys
SpellSized words (Aes256 keys) = SpellNewKeys 32 words keys

-- the key version number that is replaced, the new one, and the keys
abbrev pub SaysPutKey : List (List ℕ) → Putting → Type 0
SaysPutKey (old ∷ new ∷ keys) p = SpellsByte old p.replaced × SpellsByte new p.version × SpellSized keys p.keys
SaysPutKey _ p = ⊥

-- the keys, of one length
abbrev pub key_list : {size : ℕ} → NewKeys size → List (List ℕ)
key_list (One key) = key ∷ []
key_list (Three keys) = keys.enc ∷ keys.mac ∷ keys.dek ∷ []

abbrev pub new_keys : OfSize (NewKeys 16) (NewKeys 24) (NewKeys 32) → List (List ℕ)
new_keys (Aes128 keys) = key_list keys
new_keys (Aes192 keys) = key_list keys
new_keys (Aes256 keys) = key_list keys

-- a key as it is sent under Key-DEK: zeros fill its last block (Amendment D, 4.1.4)
abbrev pub sent_under : List ℕ → List ℕ → SentKey
sent_under dek key = record {
  size = length key;
  sealed = cbc dek zero_block (key ++ replicate (sealed_size (length key) - length key) 0);
  check = check_value key;
}

-- P2: the key identifier 01, and whether several keys come
abbrev pub put_key_p2 : List (List ℕ) → ℕ
put_key_p2 (key ∷ []) = 0x01
put_key_p2 keys = 0x81

-- PUT KEY, with keys that are enciphered under Key-DEK (GlobalPlatform Card Specification 2.3.1, 11.8.2)
abbrev pub putting_keys : List ℕ → Putting → Apdu
putting_keys dek p =
    let keys = new_keys p.keys in
    plain_command 0xD8 p.replaced (put_key_p2 keys) (p.version ∷ flat_map (λ key. key_field (sent_under dek key)) keys)
