-- Privileges (GlobalPlatform Card Specification 2.3.1, 11.1.2).
use Rattle.std.specs.Prelude.{◌≡◌, ℕ, Bool, ◌/◌, ◌%◌, ◌⊎◌, List, [], ◌∷◌, ◌++◌, codes, ◌==◌}
use Rattle.std.specs.Int.RustNames.{bit_and}
use Rattle.card_types.specs.declared.privileges.Privileges.{Privileges}

-- each privilege by its name and its bit
abbrev pub privilege_table : List (List ℕ × ℕ)
privilege_table =
    (codes "SECURITY_DOMAIN", 0x800000)
    ∷ (codes "DAP_VERIFICATION", 0x400000)
    ∷ (codes "DELEGATED_MANAGEMENT", 0x200000)
    ∷ (codes "CARD_LOCK", 0x100000)
    ∷ (codes "CARD_TERMINATE", 0x080000)
    ∷ (codes "CARD_RESET", 0x040000)
    ∷ (codes "CVM_MANAGEMENT", 0x020000)
    ∷ (codes "MANDATED_DAP", 0x010000)
    ∷ (codes "TRUSTED_PATH", 0x008000)
    ∷ (codes "AUTHORIZED_MANAGEMENT", 0x004000)
    ∷ (codes "TOKEN_VERIFICATION", 0x002000)
    ∷ (codes "GLOBAL_DELETE", 0x001000)
    ∷ (codes "GLOBAL_LOCK", 0x000800)
    ∷ (codes "GLOBAL_REGISTRY", 0x000400)
    ∷ (codes "FINAL_APPLICATION", 0x000200)
    ∷ (codes "GLOBAL_SERVICE", 0x000100)
    ∷ (codes "RECEIPT_GENERATION", 0x000080)
    ∷ (codes "CIPHERED_LOAD_FILE_DATA_BLOCK", 0x000040)
    ∷ (codes "CONTACTLESS_ACTIVATION", 0x000020)
    ∷ (codes "CONTACTLESS_SELF_ACTIVATION", 0x000010)
    ∷ []

-- each bit with a name: all but the low four of the third byte
abbrev pub named_bits : ℕ
named_bits = 0xFFFFF0

-- the number that the three bytes are, the first byte highest
abbrev pub bits_of : Privileges → ℕ
bits_of privileges = privileges.0

-- the privilege of a bit stands
abbrev pub has : ℕ → Privileges → Bool
has bit privileges = bit_and (bits_of privileges) bit == bit

-- the privileges that a security domain alone may hold, after the one that makes it a domain
abbrev pub security_domain : ℕ
security_domain = 0x800000

abbrev pub delegated_management : ℕ
delegated_management = 0x200000

abbrev pub authorized_management : ℕ
authorized_management = 0x004000

abbrev pub token_verification : ℕ
token_verification = 0x002000

abbrev pub receipt_generation : ℕ
receipt_generation = 0x000080

-- the three bytes
abbrev pub privilege_bytes : Privileges → List ℕ
privilege_bytes privileges =
    let bits = bits_of privileges in bits / 65536 % 256 ∷ bits / 256 % 256 ∷ bits % 256 ∷ []

-- each bit has a name
abbrev pub IsNamed : Privileges → Type 0
IsNamed privileges = bit_and (bits_of privileges) named_bits ≡ bits_of privileges

-- the bytes spell privileges that have names: their three bytes, or the first where the others are 0
pub record ArePrivilegeBytes (privileges : Privileges) (bytes : List ℕ) : Type 0 where
  pub named : IsNamed privileges
  pub spelling : (bytes ≡ privilege_bytes privileges) ⊎ (bytes ++ 0 ∷ 0 ∷ [] ≡ privilege_bytes privileges)
