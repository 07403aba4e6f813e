-- GET DATA: what the laws over all commands need of the form.
use Rattle.std.proofs.Common.{inl, refl}
use Rattle.policy_machine.specs.Prelude.{GetDataFails, get_data}
use Rattle.policy_machine.specs.declared.get_data.RuleGD.TheVariants.{GD1}
use Rattle.policy_machine.specs.declared.rule.Rule.TheVariants.{GD}
use Rattle.policy_machine.proofs.Alike.{IsAlikeForm, by_seen, unchanged}
use Rattle.policy_machine.proofs.ChangingBytes.{other_byte}
use Rattle.policy_machine.proofs.FormLaws.{FormLaws, plain_laws}
use Rattle.policy_machine.proofs.GetDataLaws.{get_data_lawful}

get_data_alike : IsAlikeForm get_data
get_data_alike (GD GD1) a b alike fails = by_seen (λ x. GetDataFails x (GD GD1)) (λ x. unchanged) a b alike fails
get_data_alike rule a b alike fails = absurd fails

pub get_data_laws : FormLaws get_data
get_data_laws = plain_laws get_data get_data_lawful (λ admitted aids so. so) (other_byte 0xCA refl) (inl get_data_alike)
