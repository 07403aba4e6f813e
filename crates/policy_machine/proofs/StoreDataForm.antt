-- STORE DATA: what the laws over all commands need of the form.
use Rattle.std.proofs.Common.{ap, inl, refl}
use Rattle.policy_machine.specs.Prelude.{Registry, changing, command_form, managed_store_data}
use Rattle.policy_machine.specs.declared.store_data.RuleSD.TheVariants.{SD1}
use Rattle.policy_machine.proofs.Alike.{IsAlikeForm, unchanged}
use Rattle.policy_machine.proofs.AlikeManaged.{nobody_alike, looking_alike}
use Rattle.policy_machine.proofs.FormLaws.{FormLaws, managed_laws}
use Rattle.policy_machine.proofs.Instructed.{among}
use Rattle.policy_machine.proofs.NumbersKept.{same_numbers}
use Rattle.policy_machine.proofs.RisingForms.{KeepsAllNumbers}
use Rattle.policy_machine.proofs.StoreDataLaws.{managed_store_data_lawful}
use Rattle.policy_machine.proofs.StoreDataSpares.{store_data_sparing}

store_data_alike : IsAlikeForm (command_form managed_store_data)
store_data_alike = looking_alike managed_store_data.judged nobody_alike (λ asked rule a. elim rule [ SD1 ↦ unchanged ])

store_data_numbers : KeepsAllNumbers managed_store_data
store_data_numbers admitted elements changed passed put = same_numbers admitted.at.registry changed (ap (λ (r : Registry). r.entries) put.registry)

pub store_data_laws : FormLaws (command_form managed_store_data)
store_data_laws = managed_laws managed_store_data managed_store_data_lawful (among changing 0xE2 refl) store_data_numbers store_data_sparing (inl store_data_alike)
