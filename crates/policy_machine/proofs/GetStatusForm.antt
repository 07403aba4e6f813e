-- GET STATUS: what the laws over all commands need of the form.
use Rattle.std.proofs.Common.{inl}
use Rattle.policy_machine.specs.Prelude.{ListingFails, get_status}
use Rattle.policy_machine.specs.declared.get_status.RuleGS.TheVariants.{GS1}
use Rattle.policy_machine.specs.declared.rule.Rule.TheVariants.{GS, M}
use Rattle.policy_machine.proofs.Alike.{IsAlikeForm, by_seen, management_alike, unchanged}
use Rattle.policy_machine.proofs.FormLaws.{FormLaws, quiet_laws}
use Rattle.policy_machine.proofs.GetStatusLaws.{get_status_lawful}
use Rattle.policy_machine.proofs.Lawful.{same_as}

get_status_alike : IsAlikeForm get_status
get_status_alike (M rule) a b alike fails = management_alike rule a b alike fails
get_status_alike (GS rule) a b alike fails = by_seen (λ x. ListingFails x rule) (λ x. elim rule [ GS1 ↦ unchanged | _ ↦ unchanged ]) a b alike fails
get_status_alike rule a b alike fails = absurd fails

pub get_status_laws : FormLaws get_status
get_status_laws =
    quiet_laws get_status get_status_lawful (λ admitted aids so. so)
    (λ admitted done does. same_as admitted.at.registry done.state.registry does.registry) (inl get_status_alike)
