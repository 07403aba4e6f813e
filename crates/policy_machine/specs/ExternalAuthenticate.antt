-- EXTERNAL AUTHENTICATE (GlobalPlatform Amendment D, 7.1.2): the host answers an offer, and the session begins.
use Rattle.std.specs.Prelude.{◌≡◌, ℕ, List, [], ◌∷◌, None, Some, length, codes, if◌then◌else◌, ◌==◌}
use Rattle.card_types.specs.Level.{code_of}
use Rattle.card_types.specs.declared.level.Level.{Level}
use Rattle.scp03_card.specs.Offer.{Offer}
use Rattle.scp03_card.specs.Session.{HasCryptogram, HasMac, session_from}
use Rattle.policy_machine.specs.Admission.{Admitted}
use Rattle.policy_machine.specs.CommandForm.{CommandForm, unreceipted_form}
use Rattle.policy_machine.specs.State.{Effect, Secured, offer_on, with_secure_channel}
use Rattle.policy_machine.specs.Refusal.{Refusal, refusal}
use Rattle.policy_machine.specs.declared.external_authenticate.RuleEA.{RuleEA}
use Rattle.policy_machine.specs.declared.external_authenticate.RuleEA.TheVariants.{EA1, EA2, EA3}
use Rattle.policy_machine.specs.declared.rule.Rule.{Rule}
use Rattle.policy_machine.specs.declared.rule.Rule.TheVariants.{EA}

-- P1 is a security level
abbrev pub ExternalAuthenticateParameters : ℕ → ℕ → Type 0
ExternalAuthenticateParameters p1 p2 = ((level : Level) × (code_of level ≡ p1)) × (p2 ≡ 0x00)

-- the host cryptogram and the C-MAC
abbrev pub ExternalAuthenticateField : List ℕ → Type 0
ExternalAuthenticateField body = length body ≡ 16

abbrev pub external_authenticate_refusal : RuleEA → Refusal
external_authenticate_refusal EA1 = refusal (codes "EA1") 0x6985
external_authenticate_refusal EA2 = refusal (codes "EA2") 0x6300
external_authenticate_refusal EA3 = refusal (codes "EA3") 0x6982

abbrev pub external_authenticate_rules : List Rule
external_authenticate_rules = EA EA2 ∷ EA EA3 ∷ []

-- that there is an offer is judged before the form
abbrev pub rules_before_form : ℕ → List Rule
rules_before_form ins = if ins == 0x82 then EA EA1 ∷ [] else []

-- the offer that the command answers, and the level that it asks for
abbrev pub AnswersOffer : Admitted → Offer → Level → Type 0
AnswersOffer admitted offer level = (offer_on admitted.at.volatile admitted.channel ≡ Some offer) × (code_of level ≡ admitted.command.p1)

abbrev pub ExternalAuthenticateFails : Admitted → Rule → Type 0
-- the channel has no offer
ExternalAuthenticateFails admitted (EA EA1) = offer_on admitted.at.volatile admitted.channel ≡ None
-- the host cryptogram is another
ExternalAuthenticateFails admitted (EA EA2) =
    (offer : Offer) × (level : Level) × AnswersOffer admitted offer level × (HasCryptogram offer admitted.command.body → ⊥)
-- the C-MAC is another
ExternalAuthenticateFails admitted (EA EA3) =
    (offer : Offer) × (level : Level) × AnswersOffer admitted offer level × (HasMac offer level admitted.command.body → ⊥)
ExternalAuthenticateFails admitted rule = ⊥

-- The offer becomes a session at that level.
pub record ExternalAuthenticateEffect (admitted : Admitted) (done : Effect) : Type 0 where
  pub offer : Offer
  pub level : Level
  pub answers : AnswersOffer admitted offer level
  pub registry : done.state.registry ≡ admitted.at.registry
  pub volatile : done.state.volatile ≡ with_secure_channel admitted.at.volatile admitted.channel (Secured (session_from offer level))
  pub body : done.body ≡ []
  pub status : done.status ≡ 0x9000

-- EXTERNAL AUTHENTICATE
abbrev pub external_authenticate : CommandForm
external_authenticate = unreceipted_form 0x82 ExternalAuthenticateParameters (λ p1 p2. ExternalAuthenticateField) external_authenticate_rules ExternalAuthenticateFails ExternalAuthenticateEffect
