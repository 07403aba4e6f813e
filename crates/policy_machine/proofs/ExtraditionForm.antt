-- INSTALL [for extradition]: what the laws over all commands need of the form.
use Rattle.std.proofs.Common.{[], ◌∷◌, ap, arith, inl, refl, sym}
use Rattle.policy_machine.specs.Prelude.{Registry, changing, command_form, managed_extradition, same_aid}
use Rattle.policy_machine.specs.declared.extradition.RuleEX.TheVariants.{EX1}
use Rattle.policy_machine.proofs.Alike.{IsAlikeForm, unchanged}
use Rattle.policy_machine.proofs.AlikeManaged.{held_alike, looking_alike}
use Rattle.policy_machine.proofs.ByP1.{TakesP1}
use Rattle.policy_machine.proofs.ExtraditionLaws.{managed_extradition_lawful}
use Rattle.policy_machine.proofs.ExtraditionSpares.{extradition_sparing}
use Rattle.policy_machine.proofs.FormLaws.{FormLaws, managed_laws}
use Rattle.policy_machine.proofs.Instructed.{among}
use Rattle.policy_machine.proofs.NumbersKept.{some_changed}
use Rattle.policy_machine.proofs.RisingForms.{KeepsAllNumbers}

extradition_alike : IsAlikeForm (command_form managed_extradition)
extradition_alike = looking_alike managed_extradition.judged held_alike (λ asked rule a. elim rule [ EX1 ↦ unchanged | _ ↦ unchanged ])

extradition_numbers : KeepsAllNumbers managed_extradition
extradition_numbers admitted given changed passed becomes =
    some_changed admitted.at.registry changed (λ other. same_aid other given.third) (λ entry. record entry { domain = given.first })
    (ap (λ (r : Registry). r.entries) becomes) (λ entry. (refl, refl))

pub extradition_laws : FormLaws (command_form managed_extradition)
extradition_laws = managed_laws managed_extradition managed_extradition_lawful (among changing 0xE6 refl) extradition_numbers extradition_sparing (inl extradition_alike)

pub extradition_p1 : TakesP1 (0x10 ∷ []) (command_form managed_extradition)
extradition_p1 = record { of = λ p1 p2 takes. (0, omega arith, sym takes.0) }
