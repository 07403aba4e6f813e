-- PUT KEY: what the laws over all commands need of the form.
use Rattle.std.proofs.Common.{ap, inl, inr, refl}
use Rattle.policy_machine.specs.Prelude.{Registry, changing, command_form, managed_put_key}
use Rattle.policy_machine.proofs.FormLaws.{FormLaws, managed_laws}
use Rattle.policy_machine.proofs.Instructed.{among}
use Rattle.policy_machine.proofs.NumbersKept.{same_numbers}
use Rattle.policy_machine.proofs.PutKeyLaws.{managed_put_key_lawful}
use Rattle.policy_machine.proofs.PutKeySpares.{put_key_sparing}
use Rattle.policy_machine.proofs.RisingForms.{KeepsAllNumbers}

put_key_numbers : KeepsAllNumbers managed_put_key
put_key_numbers admitted asked changed passed put = same_numbers admitted.at.registry changed (ap (λ (r : Registry). r.entries) put.registry)

pub put_key_laws : FormLaws (command_form managed_put_key)
put_key_laws = managed_laws managed_put_key managed_put_key_lawful (among changing 0xD8 refl) put_key_numbers put_key_sparing (inr (inl refl))
