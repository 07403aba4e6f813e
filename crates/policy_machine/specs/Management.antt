-- The rules that the commands of card content management and INITIALIZE UPDATE have in common (GlobalPlatform Card Specification
-- 2.3.1, chapter 9).
use Rattle.std.specs.Prelude.{◌≡◌, ◌≢◌, ◌⊎◌, ℕ, List, true, MatchOption, codes}
use Rattle.card_types.specs.Registry.{entry_named}
use Rattle.card_types.specs.declared.factory.TheConstants.{ISSUER}
use Rattle.policy_machine.specs.Admission.{Admitted}
use Rattle.policy_machine.specs.Select.{is_card_locked}
use Rattle.policy_machine.specs.State.{selected_on}
use Rattle.policy_machine.specs.Refusal.{Refusal, refusal}
use Rattle.policy_machine.specs.declared.management.RuleM.{RuleM}
use Rattle.policy_machine.specs.declared.management.RuleM.TheVariants.{M1, M2, M3}

abbrev pub management_refusal : RuleM → Refusal
management_refusal M1 = refusal (codes "M1") 0x6985
management_refusal M2 = refusal (codes "M2") 0x6985
management_refusal M3 = refusal (codes "M3") 0x6985

-- the security domain that the command acts for: the one that is selected on its channel
abbrev pub acting : Admitted → List ℕ
acting admitted = selected_on admitted.at.volatile admitted.channel

abbrev pub ManagementFails : Admitted → RuleM → Type 0
-- the card is locked
ManagementFails admitted M1 = is_card_locked admitted.at.registry.life ≡ true
-- the domain is locked
ManagementFails admitted M2 = MatchOption (entry_named admitted.at.registry (acting admitted)) ⊥ (λ entry. entry.life.locked ≡ true)
-- the card is locked, and it is not the Issuer Security Domain that sets the card's own life cycle state
ManagementFails admitted M3 =
    (is_card_locked admitted.at.registry.life ≡ true) × ((admitted.command.p1 ≢ 0x80) ⊎ (acting admitted ≢ ISSUER))
