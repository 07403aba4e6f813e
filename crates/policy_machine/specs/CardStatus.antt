-- SET STATUS of the card (GlobalPlatform Card Specification 2.3.1, 5.1 and 11.10): the card goes to another life cycle state. Who may
-- take which step is this profile's own.
use Rattle.std.specs.Prelude.{◌≡◌, ◌≢◌, ◌⊎◌, ℕ, [], ◌∷◌, codes}
use Rattle.card_types.specs.CardLife.{card_life_code}
use Rattle.card_types.specs.RegistryChange.{with_card_life}
use Rattle.card_types.specs.declared.card_life.CardLife.{CardLife}
use Rattle.card_types.specs.declared.card_life.CardLife.TheVariants.{OpReady, Initialized, Secured, Locked}
use Rattle.card_types.specs.declared.factory.TheConstants.{ISSUER}
use Rattle.policy_machine.specs.Admission.{Admitted}
use Rattle.policy_machine.specs.Delegation.{Holds}
use Rattle.policy_machine.specs.Management.{acting}
use Rattle.policy_machine.specs.Refusal.{Refusal, refusal}
use Rattle.policy_machine.specs.declared.card_status.RuleSC.{RuleSC}
use Rattle.policy_machine.specs.declared.card_status.RuleSC.TheVariants.{SC1, SC2}
use Rattle.policy_machine.specs.declared.rule.Rule.TheVariants.{SC}
use Rattle.policy_machine.specs.ManagedForm.{ManagedForm, content_form, ordered_rules}
use Rattle.card_types.specs.Registry.{Registry}
use Rattle.policy_machine.specs.declared.management.RuleM.TheVariants.{M2, M3}

-- P1 is 80, and P2 the code of the new life cycle state; the data field is not read
abbrev pub CardStatusParameters : ℕ → ℕ → Type 0
CardStatusParameters p1 p2 = p1 ≡ 0x80

-- the privileges Card Lock and Card Terminate (11.1.2)
abbrev pub card_lock : ℕ
card_lock = 0x100000

abbrev pub card_terminate : ℕ
card_terminate = 0x080000

-- from OP_READY to INITIALIZED, and from there to SECURED
abbrev pub IsPreparing : CardLife → ℕ → Type 0
IsPreparing life code = ((life ≡ OpReady) × (code ≡ 0x07)) ⊎ ((life ≡ Initialized) × (code ≡ 0x0F))

-- from SECURED to CARD_LOCKED, and back
abbrev pub IsLocking : CardLife → ℕ → Type 0
IsLocking life code = ((life ≡ Secured) × (code ≡ 0x7F)) ⊎ ((life ≡ Locked) × (code ≡ 0x0F))

-- from any state to TERMINATED
abbrev pub IsTerminating : ℕ → Type 0
IsTerminating code = code ≡ 0xFF

-- the steps of a card's life cycle; what is sent again is none
abbrev pub IsCardStep : CardLife → ℕ → Type 0
IsCardStep life code = IsPreparing life code ⊎ IsLocking life code ⊎ IsTerminating code

abbrev pub card_status_refusal : RuleSC → Refusal
card_status_refusal SC1 = refusal (codes "SC1") 0x6985
card_status_refusal SC2 = refusal (codes "SC2") 0x6982

abbrev pub SettingCardFails : Admitted → RuleSC → Type 0
-- there is no such step
SettingCardFails admitted SC1 = IsCardStep admitted.at.registry.life admitted.command.p2 → ⊥
-- the Issuer Security Domain prepares the card, a holder of Card Lock locks and unlocks it, one of Card Terminate terminates it
SettingCardFails admitted SC2 =
    (IsPreparing admitted.at.registry.life admitted.command.p2 × (acting admitted ≢ ISSUER))
    ⊎ (IsLocking admitted.at.registry.life admitted.command.p2 × (Holds admitted card_lock → ⊥))
    ⊎ (IsTerminating admitted.command.p2 × (Holds admitted card_terminate → ⊥))

-- the card is in the state with the code in P2
pub record CardIsSet (admitted : Admitted) (changed : Registry) : Type 0 where
  pub life : CardLife
  pub code : card_life_code life ≡ admitted.command.p2
  pub registry : changed ≡ with_card_life admitted.at.registry life

-- what is asked for stands in P2 alone
abbrev pub managed_card_status : ManagedForm
managed_card_status = record {
  judged = record (content_form {Asked = Unit {0}} 0xF0 CardStatusParameters (λ p1 p2 body asked. Unit {0})) {
    first_rules = M2 ∷ M3 ∷ [];
    own = ordered_rules SC (SC1 ∷ SC2 ∷ []) (λ admitted asked. SettingCardFails admitted);
  };
  becomes = λ admitted asked. CardIsSet admitted;
  reply = λ asked. [];
}
