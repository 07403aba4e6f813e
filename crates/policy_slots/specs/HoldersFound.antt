-- For the code inside. Domains above that hold a privilege and a key, by slots, and what the code found of them.
use Rattle.std.specs.Prelude.{◌≡◌, ◌≢◌, ◌⊎◌, ℕ, Bool, false, Option, None, Some, MatchOption, ◌&&◌}
use Rattle.std.specs.List.{list_any}
use Rattle.card_types.specs.KeySets.{HasKey, is_key}
use Rattle.card_types.specs.Represents.{thing_in, domain_aid, key_of}
use Rattle.card_types.specs.declared.limits.TheConstants.{RECEIPT_LIMIT}
use Rattle.card_types.specs.declared.privileges.Privileges.{Privileges}
use Rattle.card_types.specs.declared.tables.KeyRec.{KeyRec}
use Rattle.card_types.specs.declared.tables.Tables.{Tables}
use Rattle.domain_tree.specs.Holders.{entry_has}
use Rattle.policy_machine.specs.Admission.{Admitted}
use Rattle.policy_machine.specs.Delegation.{Approval, IsReceipter, NoReceipter}
use Rattle.policy_machine.specs.Management.{acting}
use Rattle.policy_slots.specs.declared.delegation.Signed.{Signed}

-- the slot holds the owner's key with this key version number and key identifier 01
abbrev pub holds_lone_key : ℕ → ℕ → Option KeyRec → Bool
holds_lone_key owner version None = false
holds_lone_key owner version (Some key) = is_key owner version 1 key

-- the entry in the slot holds the privilege and such a key
abbrev pub has_with_key_in : Tables → Privileges → ℕ → ℕ → Bool
has_with_key_in tables privilege version slot = entry_has privilege (thing_in tables.entries.items slot) && list_any (holds_lone_key slot version) tables.keys.items

-- the approval that a command brings, as the code has it
abbrev pub approval_of : Signed → Approval
approval_of signed = record { before = signed.before.now; token = signed.token.now }

-- it is that of this command
abbrev pub IsSignedFor : Admitted → Signed → Type 0
IsSignedFor admitted signed = (signed.p1 ≡ admitted.command.p1) × (signed.p2 ≡ admitted.command.p2)

-- the entry in the slot has a receipt key, and its last receipt has not the highest number
pub record MayReceipt (tables : Tables) (slot : ℕ) : Type 0 where
  pub below : MatchOption (thing_in tables.entries.items slot) ⊥ (λ entry. entry.receipts ≢ RECEIPT_LIMIT)
  pub key : (place : ℕ) × HasKey tables.keys.items slot 0x71 1 place

-- The receipter in the slot may make another receipt, or there is none.
pub record IsReceipterIn (tables : Tables) (admitted : Admitted) (slot : ℕ) : Type 0 where
  pub key : KeyRec
  pub is : IsReceipter admitted.at.registry (acting admitted) (domain_aid tables.entries.items slot) (key_of tables.entries.items key)
  pub below : MatchOption (thing_in tables.entries.items slot) ⊥ (λ entry. entry.receipts ≢ RECEIPT_LIMIT)

abbrev pub FindsReceipter : Tables → Admitted → Option ℕ → Type 0
FindsReceipter tables admitted None = NoReceipter admitted.at.registry (acting admitted)
FindsReceipter tables admitted (Some slot) = IsReceipterIn tables admitted slot

-- a delegated command is confirmed by the domain in the slot or by none, and another by none
abbrev pub FindsConfirmer : Type 0 → Tables → Admitted → Option ℕ → Type 0
FindsConfirmer delegated tables admitted found = (delegated × FindsReceipter tables admitted found) ⊎ ((delegated → ⊥) × (found ≡ None))
