-- SELECT: what the laws over all commands need of the form.
use Rattle.std.proofs.Common.{inl, refl}
use Rattle.policy_machine.specs.Prelude.{SelectFails, select}
use Rattle.policy_machine.specs.declared.rule.Rule.TheVariants.{SE}
use Rattle.policy_machine.specs.declared.select.RuleSE.TheVariants.{SE1}
use Rattle.policy_machine.proofs.Alike.{IsAlikeForm, by_seen, unchanged}
use Rattle.policy_machine.proofs.ChangingBytes.{other_byte}
use Rattle.policy_machine.proofs.FormLaws.{FormLaws, plain_laws}
use Rattle.policy_machine.proofs.SelectLaws.{select_lawful}

select_alike : IsAlikeForm select
select_alike (SE SE1) a b alike fails = by_seen (λ x. SelectFails x (SE SE1)) (λ x. unchanged) a b alike fails
select_alike rule a b alike fails = absurd fails

pub select_laws : FormLaws select
select_laws = plain_laws select select_lawful (λ admitted aids so. so) (other_byte 0xA4 refl) (inl select_alike)
