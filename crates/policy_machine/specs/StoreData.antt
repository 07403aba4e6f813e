-- STORE DATA (GlobalPlatform Card Specification 2.3.1, 11.11): data objects of the selected domain are put, each in the place of
-- the one with its tag.
use Rattle.std.specs.Prelude.{◌≡◌, ◌≢◌, ◌⊎◌, ℕ, ◌<◌, List, [], ◌∷◌, All, codes, length}
use Rattle.bertlv.specs.Spelling.{AreElements, Element}
use Rattle.card_types.specs.Registry.{object_order, Object, Registry}
use Rattle.card_types.specs.Well.{IsObject}
use Rattle.card_types.specs.declared.limits.TheConstants.{OBJECTS}
use Rattle.policy_machine.specs.Admission.{Admitted}
use Rattle.policy_machine.specs.Arranged.{IsArranged}
use Rattle.policy_machine.specs.DataObjects.{with_data, with_objects}
use Rattle.policy_machine.specs.Management.{acting}
use Rattle.policy_machine.specs.Refusal.{Refusal, refusal}
use Rattle.policy_machine.specs.declared.rule.Rule.TheVariants.{SD}
use Rattle.policy_machine.specs.declared.store_data.RuleSD.{RuleSD}
use Rattle.policy_machine.specs.declared.store_data.RuleSD.TheVariants.{SD1}
use Rattle.policy_machine.specs.ManagedForm.{ManagedForm, content_form, ordered_rules}

-- P1 says whether more blocks come, and that the data are BER-TLV or of no said form; P2 is any block number
abbrev pub StoreDataParameters : ℕ → Type 0
StoreDataParameters p1 = (p1 ≡ 0x00) ⊎ (p1 ≡ 0x80) ⊎ (p1 ≡ 0x10) ⊎ (p1 ≡ 0x90)

-- the data field is one or more of the data objects that a domain may have
pub record HasObjects (body : List ℕ) (elements : List Element) : Type 0 where
  pub spelled : AreElements elements body
  pub some : elements ≢ []
  pub each : All (λ element. IsObject element.tag (length element.value)) elements

abbrev pub StoreDataField : List ℕ → Type 0
StoreDataField body = (elements : List Element) × HasObjects body elements

abbrev pub store_data_refusal : RuleSD → Refusal
store_data_refusal SD1 = refusal (codes "SD1") 0x6A84

-- the objects that the card has with those of the data field
abbrev pub objects_stored : Admitted → List Element → List Object
objects_stored admitted elements = with_objects (acting admitted) admitted.at.registry.objects elements

abbrev pub StoringFails : Admitted → List Element → RuleSD → Type 0
-- the card would have too many data objects
StoringFails admitted elements SD1 = OBJECTS < length (objects_stored admitted elements)

-- the objects are put
pub record AreObjectsPut (admitted : Admitted) (elements : List Element) (changed : Registry) : Type 0 where
  pub objects : List Object
  pub arranged : IsArranged object_order (objects_stored admitted elements) objects
  pub registry : changed ≡ with_data admitted.at.registry objects

abbrev pub managed_store_data : ManagedForm
managed_store_data = record {
  judged = record (content_form 0xE2 (λ p1 p2. StoreDataParameters p1) (λ p1 p2. HasObjects)) { own = ordered_rules SD (SD1 ∷ []) StoringFails };
  becomes = AreObjectsPut;
  reply = λ elements. [];
}
