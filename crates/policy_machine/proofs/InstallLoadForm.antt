-- INSTALL [for load]: what the laws over all commands need of the form.
use Rattle.std.proofs.Common.{[], ◌∷◌, arith, inl, refl, sym}
use Rattle.policy_machine.specs.Prelude.{install_load, judged_install_load, managing}
use Rattle.policy_machine.specs.declared.install_load.RuleIL.TheVariants.{IL1}
use Rattle.policy_machine.proofs.Alike.{IsAlikeForm, unchanged}
use Rattle.policy_machine.proofs.AlikeManaged.{held_alike, looking_alike}
use Rattle.policy_machine.proofs.ByP1.{TakesP1}
use Rattle.policy_machine.proofs.FormLaws.{FormLaws, quiet_laws}
use Rattle.policy_machine.proofs.InstallLoadLaws.{install_load_lawful}
use Rattle.policy_machine.proofs.Instructed.{among}
use Rattle.policy_machine.proofs.Lawful.{same_as}

install_load_alike : IsAlikeForm install_load
install_load_alike = looking_alike judged_install_load held_alike (λ asked rule a. elim rule [ IL1 ↦ unchanged | _ ↦ unchanged ])

pub install_load_laws : FormLaws install_load
install_load_laws =
    quiet_laws install_load (install_load_lawful (among managing 0xE6 refl)) (λ admitted aids so. so)
    (λ admitted done does. same_as admitted.at.registry done.state.registry does.registry) (inl install_load_alike)

pub install_load_p1 : TakesP1 (0x02 ∷ []) install_load
install_load_p1 = record { of = λ p1 p2 takes. (0, omega arith, sym takes.0) }
