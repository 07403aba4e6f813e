-- INSTALL [for install]: what the laws over all commands need of the form.
use Rattle.std.proofs.Common.{[], ◌∷◌, arith, inl, inr, refl, sym}
use Rattle.policy_machine.specs.Prelude.{changing, command_form, entry_made, managed_install}
use Rattle.policy_machine.specs.declared.install_application.RuleII.TheVariants.{II1}
use Rattle.policy_machine.proofs.Alike.{IsAlikeForm, unchanged}
use Rattle.policy_machine.proofs.AlikeManaged.{held_alike, looking_alike}
use Rattle.policy_machine.proofs.ByP1.{TakesP1}
use Rattle.policy_machine.proofs.FormLaws.{FormLaws, managed_laws}
use Rattle.policy_machine.proofs.InstallApplicationLaws.{managed_install_lawful, may_be_added}
use Rattle.policy_machine.proofs.InstallApplicationSpares.{install_sparing}
use Rattle.policy_machine.proofs.Instructed.{among}
use Rattle.policy_machine.proofs.Lawful.{sound_of_card}
use Rattle.policy_machine.proofs.NumbersKept.{added_numbers}
use Rattle.policy_machine.proofs.RisingForms.{KeepsAllNumbers}

install_alike : IsAlikeForm (command_form managed_install)
install_alike = looking_alike managed_install.judged held_alike (λ asked rule a. elim rule [ II1 ↦ unchanged | _ ↦ unchanged ])

install_numbers : KeepsAllNumbers managed_install
install_numbers admitted asked changed passed added =
    let may = may_be_added admitted asked passed.own passed.asks passed.domain in
    added_numbers (entry_made admitted asked) admitted.at.registry changed (sound_of_card passed.sound) may.free added

pub install_laws : FormLaws (command_form managed_install)
install_laws = managed_laws managed_install managed_install_lawful (among changing 0xE6 refl) install_numbers install_sparing (inl install_alike)

pub install_p1 : TakesP1 (0x04 ∷ 0x0C ∷ []) (command_form managed_install)
install_p1 = record { of = λ p1 p2 takes. elim takes.0 [ inl four ↦ (0, omega arith, sym four) | inr twelve ↦ (1, omega arith, sym twelve) ] }
