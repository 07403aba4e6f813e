-- Delegated management (GlobalPlatform Card Specification 2.3.1, 9.2 to 9.4): a command of a provider has a token, by which a domain
-- above it approved the command, and is confirmed by a receipt. Which domain verifies and which one confirms, what a receipt
-- covers and that its number rises within the command's own commit are this profile's own.
use Rattle.std.specs.Prelude.{◌≡◌, ◌≢◌, ◌⊎◌, ℕ, ◌+◌, ◌++◌, List, [], ◌∷◌, Bool, Option, None, Some, MatchOption, codes, is_some, length, ◌&&◌}
use Rattle.card_types.specs.Privileges.{authorized_management, delegated_management, receipt_generation, token_verification}
use Rattle.card_types.specs.Registry.{Entry, Key, Object, Registry, domain_of, entry_named, key_named, object_named}
use Rattle.card_types.specs.RegistryChange.{with_receipts}
use Rattle.card_types.specs.declared.data_objects.TheConstants.{IMAGE_NUMBER, ISSUER_NUMBER}
use Rattle.card_types.specs.declared.factory.TheConstants.{ISSUER}
use Rattle.card_types.specs.declared.limits.TheConstants.{RECEIPT_LIMIT}
use Rattle.domain_tree.specs.Above.{IsFirstAbove, NoneAbove}
use Rattle.tokens_receipts.specs.Receipt.{receipt}
use Rattle.tokens_receipts.specs.Token.{token}
use Rattle.policy_machine.specs.Admission.{Admitted}
use Rattle.policy_machine.specs.Charge.{HoldsPrivilege, is_privileged}
use Rattle.policy_machine.specs.Management.{acting}
use Rattle.policy_machine.specs.State.{Effect}
use Rattle.policy_machine.specs.Refusal.{Refusal, refusal}
use Rattle.policy_machine.specs.declared.delegation.RuleRC.{RuleRC}
use Rattle.policy_machine.specs.declared.delegation.RuleRC.TheVariants.{RC1}
use Rattle.policy_machine.specs.declared.delegation.RuleTK.{RuleTK}
use Rattle.policy_machine.specs.declared.delegation.RuleTK.TheVariants.{TK1, TK2, TK3}
use Rattle.policy_machine.specs.declared.rule.Rule.{Rule}
use Rattle.policy_machine.specs.declared.rule.Rule.TheVariants.{RC, TK}

-- the acting domain holds this privilege
abbrev pub Holds : Admitted → ℕ → Type 0
Holds admitted privilege = HoldsPrivilege admitted.at.registry privilege (acting admitted)

-- it manages content in its own right, or as it is delegated to
abbrev pub MayManage : Admitted → Type 0
MayManage admitted = Holds admitted authorized_management ⊎ Holds admitted delegated_management

-- the entry holds the privilege, and a key of its own with this key version number
abbrev pub has_with_key : Registry → ℕ → ℕ → List ℕ → Bool
has_with_key registry privilege version aid =
    is_privileged privilege (entry_named registry aid) && is_some (key_named registry aid version 1)

-- the nearest domain above that holds the privilege and such a key, and the key
pub record IsNearestHolder (registry : Registry) (privilege version : ℕ) (domain holder : List ℕ) (key : Key) : Type 0 where
  pub above : IsFirstAbove (domain_of registry) (has_with_key registry privilege version) domain holder
  pub key_is : key_named registry holder version 1 ≡ Some key

abbrev pub NoHolder : Registry → ℕ → ℕ → List ℕ → Type 0
NoHolder registry privilege version = NoneAbove (domain_of registry) (has_with_key registry privilege version)

-- the verifier has Token Verification and a token key (70), and the receipter Receipt Generation and a receipt key (71)
abbrev pub IsVerifier : Registry → List ℕ → List ℕ → Key → Type 0
IsVerifier registry = IsNearestHolder registry token_verification 0x70

abbrev pub NoVerifier : Registry → List ℕ → Type 0
NoVerifier registry = NoHolder registry token_verification 0x70

abbrev pub IsReceipter : Registry → List ℕ → List ℕ → Key → Type 0
IsReceipter registry = IsNearestHolder registry receipt_generation 0x71

abbrev pub NoReceipter : Registry → List ℕ → Type 0
NoReceipter registry = NoHolder registry receipt_generation 0x71

-- what a command brings: the bytes of its data field before the token, and the token
pub record Approval : Type 0 where
  pub before : List ℕ
  pub token : List ℕ

abbrev pub token_refusal : RuleTK → Refusal
token_refusal TK1 = refusal (codes "TK1") 0x6A80
token_refusal TK2 = refusal (codes "TK2") 0x6982
token_refusal TK3 = refusal (codes "TK3") 0x6982

abbrev pub receipt_refusal : RuleRC → Refusal
receipt_refusal RC1 = refusal (codes "RC1") 0x6985

abbrev pub token_rules : List RuleTK
token_rules = TK1 ∷ TK2 ∷ TK3 ∷ []

abbrev pub delegation_rules : List Rule
delegation_rules = TK TK1 ∷ TK TK2 ∷ TK TK3 ∷ RC RC1 ∷ []

abbrev pub TokenFails : Admitted → Approval → RuleTK → Type 0
-- the token has another length than a token
TokenFails admitted approval TK1 = length approval.token ≢ 16
-- there is nobody to verify it
TokenFails admitted approval TK2 = NoVerifier admitted.at.registry (acting admitted)
-- it is not the one under the verifier's token key
TokenFails admitted approval TK3 =
    (verifier : List ℕ) × (key : Key) × IsVerifier admitted.at.registry (acting admitted) verifier key
    × (approval.token ≢ token key.bytes admitted.command.p1 admitted.command.p2 approval.before)

-- the number of the receipter's last receipt is the highest one
abbrev pub ReceiptFails : Admitted → RuleRC → Type 0
ReceiptFails admitted RC1 =
    (receipter : List ℕ) × (key : Key) × IsReceipter admitted.at.registry (acting admitted) receipter key
    × MatchOption (entry_named admitted.at.registry receipter) ⊥ (λ entry. entry.receipts ≡ RECEIPT_LIMIT)

-- the card's unique data: Issuer Identification Number and Card Image Number of the Issuer Security Domain, as far as there are such
abbrev pub value_of : Option Object → List ℕ
value_of None = []
value_of (Some object) = object.value

abbrev pub unique_data : Registry → List ℕ
unique_data registry = value_of (object_named registry ISSUER ISSUER_NUMBER) ++ value_of (object_named registry ISSUER IMAGE_NUMBER)

-- The command is confirmed: the receipter's number is one higher, and the reply is the receipt with that number.
pub record IsConfirmed (admitted : Admitted) (aids : List (List ℕ)) (changed : Registry) (done : Effect) : Type 0 where
  pub receipter : List ℕ
  pub entry : Entry
  pub key : Key
  pub is_receipter : IsReceipter admitted.at.registry (acting admitted) receipter key
  pub named : entry_named admitted.at.registry receipter ≡ Some entry
  pub registry : done.state.registry ≡ with_receipts changed receipter (entry.receipts + 1)
  pub body : done.body ≡ receipt key.bytes (entry.receipts + 1) (unique_data admitted.at.registry) aids

-- nobody confirms it, and this is the reply
pub record IsUnconfirmed (changed : Registry) (reply : List ℕ) (done : Effect) : Type 0 where
  pub registry : done.state.registry ≡ changed
  pub body : done.body ≡ reply

-- the reply of a command that could be confirmed, and is not
abbrev pub no_confirmation : List ℕ
no_confirmation = 0x00 ∷ []

-- A command that was about these things, and left this registry but for a receipt number, is answered: by a receipt, or by this reply.
abbrev pub IsAnswered : Type 0 → Admitted → List (List ℕ) → Registry → List ℕ → Effect → Type 0
IsAnswered delegated admitted aids changed reply done =
    (delegated × IsConfirmed admitted aids changed done)
    ⊎ ((delegated → NoReceipter admitted.at.registry (acting admitted)) × IsUnconfirmed changed reply done)
