-- DELETE of keys: what the laws over all commands need of the form.
use Rattle.std.proofs.Common.{ap, inl, refl}
use Rattle.policy_machine.specs.Prelude.{Registry, changing, command_form, managed_delete_key}
use Rattle.policy_machine.specs.declared.delete_key.RuleDK.TheVariants.{DK1}
use Rattle.policy_machine.proofs.Alike.{IsAlikeForm, unchanged}
use Rattle.policy_machine.proofs.AlikeManaged.{nobody_alike, looking_alike}
use Rattle.policy_machine.proofs.DeleteKeyLaws.{managed_delete_key_lawful}
use Rattle.policy_machine.proofs.DeleteKeySpares.{delete_key_sparing}
use Rattle.policy_machine.proofs.FormLaws.{FormLaws, managed_laws}
use Rattle.policy_machine.proofs.Instructed.{among}
use Rattle.policy_machine.proofs.NumbersKept.{same_numbers}
use Rattle.policy_machine.proofs.RisingForms.{KeepsAllNumbers}

delete_key_alike : IsAlikeForm (command_form managed_delete_key)
delete_key_alike = looking_alike managed_delete_key.judged nobody_alike (λ asked rule a. elim rule [ DK1 ↦ unchanged | _ ↦ unchanged ])

delete_key_numbers : KeepsAllNumbers managed_delete_key
delete_key_numbers admitted chosen changed passed becomes = same_numbers admitted.at.registry changed (ap (λ (r : Registry). r.entries) becomes)

pub delete_key_laws : FormLaws (command_form managed_delete_key)
delete_key_laws = managed_laws managed_delete_key managed_delete_key_lawful (among changing 0xE4 refl) delete_key_numbers delete_key_sparing (inl delete_key_alike)
