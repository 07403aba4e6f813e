-- INITIALIZE UPDATE (GlobalPlatform Amendment D, 7.1.1): the card offers a session.
use Rattle.std.specs.Prelude.{◌≡◌, ◌≢◌, ℕ, List, ◌∷◌, ◌++◌, [], true, Option, None, Some, length, replicate, codes}
use Rattle.card_types.specs.Counters.{with_counter_raised}
use Rattle.card_types.specs.Registry.{Counter, Key, Object, Registry, key_named, object_named}
use Rattle.card_types.specs.declared.data_objects.TheConstants.{DIVERSIFICATION}
use Rattle.card_types.specs.declared.factory.TheConstants.{ISSUER}
use Rattle.card_types.specs.declared.limits.TheConstants.{COUNTER_LIMIT}
use Rattle.scp03_card.specs.Offer.{Offer, card_cryptogram, counter_bytes, new_offer}
use Rattle.policy_machine.specs.Admission.{Admitted}
use Rattle.policy_machine.specs.CommandForm.{CommandForm, unreceipted_form}
use Rattle.policy_machine.specs.KeySets.{UsesSet}
use Rattle.policy_machine.specs.Management.{ManagementFails, acting}
use Rattle.policy_machine.specs.Select.{is_card_locked}
use Rattle.policy_machine.specs.State.{Effect, Offered, with_secure_channel}
use Rattle.policy_machine.specs.Refusal.{Refusal, refusal}
use Rattle.policy_machine.specs.declared.initialize_update.RuleIU.{RuleIU}
use Rattle.policy_machine.specs.declared.initialize_update.RuleIU.TheVariants.{IU1, IU2, IU3}
use Rattle.policy_machine.specs.declared.management.RuleM.TheVariants.{M2}
use Rattle.policy_machine.specs.declared.rule.Rule.{Rule}
use Rattle.policy_machine.specs.declared.rule.Rule.TheVariants.{M, IU}

-- P1 is the key version number, of any value
abbrev pub InitializeUpdateParameters : ℕ → Type 0
InitializeUpdateParameters p2 = p2 ≡ 0x00

-- the host challenge
abbrev pub InitializeUpdateField : List ℕ → Type 0
InitializeUpdateField body = length body ≡ 8

abbrev pub initialize_update_refusal : RuleIU → Refusal
initialize_update_refusal IU1 = refusal (codes "IU1") 0x6985
initialize_update_refusal IU2 = refusal (codes "IU2") 0x6A88
initialize_update_refusal IU3 = refusal (codes "IU3") 0x6985

abbrev pub offer_rules : List Rule
offer_rules = M M2 ∷ IU IU1 ∷ IU IU2 ∷ IU IU3 ∷ []

-- the key set that the command asks for, by its owner and its counter
abbrev pub AsksForSet : Admitted → List ℕ → Counter → Type 0
AsksForSet admitted owner counter = UsesSet admitted.at.registry (acting admitted) admitted.command.p1 owner counter

abbrev pub InitializeUpdateFails : Admitted → Rule → Type 0
InitializeUpdateFails admitted (M rule) = ManagementFails admitted rule
-- the card is locked, and another domain is selected
InitializeUpdateFails admitted (IU IU1) = (is_card_locked admitted.at.registry.life ≡ true) × (acting admitted ≢ ISSUER)
-- there is no such key set
InitializeUpdateFails admitted (IU IU2) = (owner : List ℕ) (counter : Counter) → AsksForSet admitted owner counter → ⊥
-- its sequence counter has come to its end
InitializeUpdateFails admitted (IU IU3) = (owner : List ℕ) × (counter : Counter) × AsksForSet admitted owner counter × (counter.number ≡ COUNTER_LIMIT)
InitializeUpdateFails admitted rule = ⊥

-- the key diversification data of a domain: its data object CF, or ten 00
abbrev pub diversification_of : Option Object → List ℕ
diversification_of None = replicate 10 0
diversification_of (Some object) = object.value

-- The keys of the set make an offer, whose card challenge comes from the counter as it stood.
pub record IsOfferOf (admitted : Admitted) (owner : List ℕ) (counter : Counter) (offer : Offer) : Type 0 where
  pub enc : Key
  pub mac : Key
  pub dek : Key
  pub key_enc : key_named admitted.at.registry owner counter.version 1 ≡ Some enc
  pub key_mac : key_named admitted.at.registry owner counter.version 2 ≡ Some mac
  pub key_dek : key_named admitted.at.registry owner counter.version 3 ≡ Some dek
  pub is : offer ≡ new_offer enc.bytes mac.bytes dek.bytes counter.number (acting admitted) admitted.command.body

-- the reply: diversification data, key version number, SCP03 with the i parameter 70, challenge, cryptogram and counter
abbrev pub offer_body : Registry → List ℕ → Counter → Offer → List ℕ
offer_body registry owner counter offer =
    diversification_of (object_named registry owner DIVERSIFICATION) ++ counter.version ∷ 0x03 ∷ 0x70 ∷ offer.card
    ++ card_cryptogram offer ++ counter_bytes counter.number

-- The channel has the offer then, in place of any session, and the counter is one higher.
pub record InitializeUpdateEffect (admitted : Admitted) (done : Effect) : Type 0 where
  pub owner : List ℕ
  pub counter : Counter
  pub offer : Offer
  pub asked : AsksForSet admitted owner counter
  pub is_offer : IsOfferOf admitted owner counter offer
  pub registry : done.state.registry ≡ with_counter_raised admitted.at.registry owner counter.version
  pub volatile : done.state.volatile ≡ with_secure_channel admitted.at.volatile admitted.channel (Offered offer)
  pub body : done.body ≡ offer_body admitted.at.registry owner counter offer
  pub status : done.status ≡ 0x9000

-- INITIALIZE UPDATE, of any P1
abbrev pub initialize_update : CommandForm
initialize_update = unreceipted_form 0x50 (λ p1. InitializeUpdateParameters) (λ p1 p2. InitializeUpdateField) offer_rules InitializeUpdateFails InitializeUpdateEffect
