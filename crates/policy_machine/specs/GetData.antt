-- GET DATA (ISO/IEC 7816-4:2013, chapter 11; GlobalPlatform Card Specification 2.3.1, 11.3; Amendment D, chapter 7 for the
-- sequence counter).
use Rattle.std.specs.Prelude.{◌≡◌, ◌≢◌, ◌⊎◌, ℕ, ◌+◌, ◌*◌, List, [], ◌∷◌, map, length, Some, codes}
use Rattle.bertlv.specs.Spelling.{AreElements, Element, Spelling}
use Rattle.card_types.specs.Registry.{Key, Counter, Object, Registry, keys_of, object_named}
use Rattle.scp03_card.specs.Offer.{counter_bytes}
use Rattle.policy_machine.specs.Admission.{Admitted}
use Rattle.policy_machine.specs.CommandForm.{CommandForm, unreceipted_form}
use Rattle.policy_machine.specs.KeySets.{UsesCounter}
use Rattle.policy_machine.specs.State.{Effect, selected_on}
use Rattle.policy_machine.specs.Refusal.{Refusal, refusal}
use Rattle.policy_machine.specs.declared.rule.Rule.{Rule}
use Rattle.policy_machine.specs.declared.rule.Rule.TheVariants.{GD}
use Rattle.policy_machine.specs.declared.get_data.RuleGD.{RuleGD}
use Rattle.policy_machine.specs.declared.get_data.RuleGD.TheVariants.{GD1}

-- P1 and P2 are the tag, of any value
abbrev pub GetDataField : List ℕ → Type 0
GetDataField body = body ≡ []

abbrev pub tag_of : ℕ → ℕ → ℕ
tag_of p1 p2 = p1 * 256 + p2

-- what the key information template says of a key (11.3.3.1): identifier, version, AES, and length
abbrev pub key_information : Key → Element
key_information key = record { tag = 0xC0; value = key.identifier ∷ key.version ∷ 0x88 ∷ length key.bytes ∷ [] }

-- the key information template, of a domain that has a key
abbrev pub IsKeyInformation : Registry → List ℕ → List ℕ → Type 0
IsKeyInformation registry domain value =
    (keys_of registry domain ≢ []) × AreElements (map key_information (keys_of registry domain)) value

-- the sequence counter of the key set that a session would use, in three bytes
abbrev pub IsSequenceCounter : Registry → List ℕ → List ℕ → Type 0
IsSequenceCounter registry domain value = (counter : Counter) × UsesCounter registry domain counter × (value ≡ counter_bytes counter.number)

-- a data object of the domain
abbrev pub IsDataObject : Registry → List ℕ → ℕ → List ℕ → Type 0
IsDataObject registry domain tag value = (object : Object) × (object_named registry domain tag ≡ Some object) × (value ≡ object.value)

-- the value is that of a tag, for the domain
abbrev pub HasData : Registry → List ℕ → ℕ → List ℕ → Type 0
HasData registry domain tag value =
    ((tag ≡ 0xE0) × IsKeyInformation registry domain value)
    ⊎ ((tag ≡ 0xC1) × IsSequenceCounter registry domain value)
    ⊎ ((tag ≢ 0xE0) × (tag ≢ 0xC1) × IsDataObject registry domain tag value)

-- the data that the command asks for: of the domain that is selected on its channel
abbrev pub AsksFor : Admitted → List ℕ → Type 0
AsksFor admitted value =
    HasData admitted.at.registry (selected_on admitted.at.volatile admitted.channel) (tag_of admitted.command.p1 admitted.command.p2) value

abbrev pub get_data_refusal : RuleGD → Refusal
get_data_refusal GD1 = refusal (codes "GD1") 0x6A88

abbrev pub get_data_rules : List Rule
get_data_rules = GD GD1 ∷ []

abbrev pub GetDataFails : Admitted → Rule → Type 0
-- there is no such data
GetDataFails admitted (GD GD1) = (value : List ℕ) → AsksFor admitted value → ⊥
GetDataFails admitted rule = ⊥

-- GET DATA answers the data as an element, and changes nothing
pub record GetDataEffect (admitted : Admitted) (done : Effect) : Type 0 where
  pub value : List ℕ
  pub asked : AsksFor admitted value
  pub state : done.state ≡ admitted.at
  pub body : Spelling (tag_of admitted.command.p1 admitted.command.p2) value done.body
  pub status : done.status ≡ 0x9000

-- GET DATA, of any P1 and P2
abbrev pub get_data : CommandForm
get_data = unreceipted_form 0xCA (λ p1 p2. Unit {0}) (λ p1 p2. GetDataField) get_data_rules GetDataFails GetDataEffect
