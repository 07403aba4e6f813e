-- For the code inside. How a command of card content management is answered: by a receipt of the domain that confirms it, or by
-- 00.
use Rattle.std.specs.Prelude.{◌≡◌, ◌⊎◌, ◌↔◌, ℕ, ◌++◌, List, [], Option, None, Some, IfSome}
use Rattle.card_types.specs.KeySets.{HoldsKeyOf}
use Rattle.card_types.specs.Represents.{HasIssuer, Represents, thing_in}
use Rattle.card_types.specs.Search.{NoneFits}
use Rattle.card_types.specs.Registry.{Registry}
use Rattle.card_types.specs.declared.data_objects.TheConstants.{IMAGE_NUMBER, ISSUER_NUMBER}
use Rattle.card_types.specs.declared.tables.Entry.{Entry}
use Rattle.card_types.specs.declared.tables.KeyRec.{KeyRec}
use Rattle.card_types.specs.declared.tables.Object.{Object}
use Rattle.card_types.specs.declared.tables.Tables.{Tables}
use Rattle.card_types.specs.declared.tables.TheConstants.{ISSUER_SLOT}
use Rattle.policy_machine.specs.Admission.{Admitted}
use Rattle.policy_machine.specs.Delegation.{IsConfirmed, IsUnconfirmed, no_confirmation}
use Rattle.policy_slots.specs.ObjectsHeld.{is_tagged_in}
use Rattle.policy_machine.specs.State.{Effect}
use Rattle.policy_slots.specs.StateShown.{ActsIn}
use Rattle.policy_slots.specs.HoldersFound.{IsReceipterIn, MayReceipt}
use Rattle.tokens_receipts.specs.Receipt.{aids_of, receipt}
use Rattle.card_core.specs.declared.confirm.Aids.{Aids}

-- the AIDs, in their order
abbrev pub aid_list : Aids → List (List ℕ)
aid_list aids = aids_of aids.first aids.second aids.third

-- the slot holds an entry with the AID and the receipt number that it had
abbrev pub KeepsNumber : Tables → Tables → ℕ → Type 0
KeepsNumber before after slot =
    (entry : Entry) → thing_in before.entries.items slot ≡ Some entry
    → (other : Entry) × (thing_in after.entries.items slot ≡ Some other) × (other.aid ≡ entry.aid) × (other.receipts ≡ entry.receipts)

-- What a receipt is made from is as it was: the AID and the receipt number of who confirms, the keys that are left, and the data objects of
-- the Issuer Security Domain.
pub record KeepsReceipts (before after : Tables) (receipter : Option ℕ) : Type 0 where
  pub entry : IfSome receipter (KeepsNumber before after)
  pub keys : (slot : ℕ) (key : KeyRec) → thing_in after.keys.items slot ≡ Some key → thing_in before.keys.items slot ≡ Some key
  pub objects : (slot : ℕ) (object : Object) → object.owner ≡ ISSUER_SLOT
      → (thing_in after.objects.items slot ≡ Some object ↔ thing_in before.objects.items slot ≡ Some object)

-- who confirms the command does so from what was there before a change, and may still make a receipt
abbrev pub KeepsConfirmer : Tables → Tables → Admitted → Type 0
KeepsConfirmer before after admitted =
    (receipter : Option ℕ) → IfSome receipter (IsReceipterIn before admitted)
    → KeepsReceipts before after receipter × (IfSome receipter (MayReceipt before) → IfSome receipter (MayReceipt after))

-- A command of the domain in a slot has changed the registry to this one, and the domain in the other slot confirms it, or nobody.
pub record HasChanged (page : ℕ → List ℕ) (before after : Tables) (domain : ℕ) (receipter : Option ℕ) (admitted : Admitted) (changed : Registry) : Type 0 where
  pub acts : ActsIn page before domain admitted
  pub issuer : HasIssuer before.entries.items
  pub finds : IfSome receipter (IsReceipterIn before admitted)
  pub keeps : KeepsReceipts before after receipter
  pub says : Represents page after changed

-- the command leaves this registry, nothing else is changed, and it is answered by these bytes
abbrev pub leaves : Admitted → Registry → List ℕ → Effect
leaves admitted registry body = record { state = record { registry = registry; volatile = admitted.at.volatile }; body = body; status = 0x9000 }

-- the domain in the slot confirms a command that was about these things, or nobody does
abbrev pub IsAnsweredBy : Option ℕ → Admitted → List (List ℕ) → Registry → Effect → Type 0
IsAnsweredBy None admitted aids changed done = IsUnconfirmed changed no_confirmation done
IsAnsweredBy (Some slot) admitted aids changed done = IsConfirmed admitted aids changed done

-- The command is answered by these bytes, confirmed or not, and the tables say the registry that it leaves.
abbrev pub AnswersFor : (ℕ → List ℕ) → Tables → Option ℕ → Admitted → List (List ℕ) → Registry → List ℕ → Type 0
AnswersFor page tables receipter admitted aids changed body =
    (left : Registry) × Represents page tables left × IsAnsweredBy receipter admitted aids changed (leaves admitted left body)

-- each command whose change led to the first tables is answered by these bytes, and the second tables are left
abbrev pub Confirms : Tables → Tables → Option ℕ → List (List ℕ) → List ℕ → Type 0
Confirms tables tables' receipter aids body =
    (page : ℕ → List ℕ) (admitted : Admitted) (before : Tables) (domain : ℕ) (changed : Registry)
    → HasChanged page before tables domain receipter admitted changed → AnswersFor page tables' receipter admitted aids changed body

-- the value of the data object of the Issuer Security Domain with this tag, or nothing where it has none
abbrev pub IsValueIn : List (Option Object) → ℕ → List ℕ → Type 0
IsValueIn objects tag value =
    ((slot : ℕ) × (object : Object) × (thing_in objects slot ≡ Some object) × (object.owner ≡ ISSUER_SLOT) × (object.tag ≡ tag) × (value ≡ object.value.items))
    ⊎ (NoneFits (λ object. is_tagged_in ISSUER_SLOT tag (Some object)) objects × (value ≡ []))

-- the card's unique data, as these slots have them
pub record IsUniqueIn (objects : List (Option Object)) (unique : List ℕ) : Type 0 where
  pub issuer_number : List ℕ
  pub image_number : List ℕ
  pub first : IsValueIn objects ISSUER_NUMBER issuer_number
  pub second : IsValueIn objects IMAGE_NUMBER image_number
  pub are : unique ≡ issuer_number ++ image_number

-- a receipt with this number, under the receipt key of the domain in a slot
pub record IsReceiptIn (tables : Tables) (slot number : ℕ) (aids : List (List ℕ)) (bytes : List ℕ) : Type 0 where
  pub key : KeyRec
  pub holds : HoldsKeyOf tables.keys.items slot 0x71 1 key
  pub unique : List ℕ
  pub unique_is : IsUniqueIn tables.objects.items unique
  pub are : bytes ≡ receipt key.bytes.items number unique aids
