-- INITIALIZE UPDATE: what the laws over all commands need of the form.
use Rattle.std.proofs.Common.{inl, refl}
use Rattle.policy_machine.specs.Prelude.{InitializeUpdateFails, initialize_update}
use Rattle.policy_machine.specs.declared.initialize_update.RuleIU.TheVariants.{IU1}
use Rattle.policy_machine.specs.declared.rule.Rule.TheVariants.{IU, M}
use Rattle.policy_machine.proofs.Alike.{IsAlikeForm, by_seen, management_alike, unchanged}
use Rattle.policy_machine.proofs.ChangingBytes.{other_byte}
use Rattle.policy_machine.proofs.FormLaws.{FormLaws, plain_laws}
use Rattle.policy_machine.proofs.InitializeUpdateLaws.{initialize_update_lawful}

initialize_update_alike : IsAlikeForm initialize_update
initialize_update_alike (M rule) a b alike fails = management_alike rule a b alike fails
initialize_update_alike (IU rule) a b alike fails = by_seen (λ x. InitializeUpdateFails x (IU rule)) (λ x. elim rule [ IU1 ↦ unchanged | _ ↦ unchanged ]) a b alike fails
initialize_update_alike rule a b alike fails = absurd fails

pub initialize_update_laws : FormLaws initialize_update
initialize_update_laws = plain_laws initialize_update initialize_update_lawful (λ admitted aids so. so) (other_byte 0x50 refl) (inl initialize_update_alike)
