-- INSTALL [for make selectable]: what the laws over all commands need of the form.
use Rattle.std.proofs.Common.{[], ◌∷◌, ap, arith, false, inl, refl, sym}
use Rattle.policy_machine.specs.Prelude.{Registry, changing, command_form, managed_selectable, same_aid}
use Rattle.card_types.specs.declared.life.Life.TheVariants.{Selectable}
use Rattle.policy_machine.specs.declared.make_selectable.RuleMS.TheVariants.{MS1}
use Rattle.policy_machine.proofs.Alike.{IsAlikeForm, unchanged}
use Rattle.policy_machine.proofs.AlikeManaged.{held_alike, looking_alike}
use Rattle.policy_machine.proofs.ByP1.{TakesP1}
use Rattle.policy_machine.proofs.FormLaws.{FormLaws, managed_laws}
use Rattle.policy_machine.proofs.Instructed.{among}
use Rattle.policy_machine.proofs.MakeSelectableLaws.{managed_selectable_lawful}
use Rattle.policy_machine.proofs.MakeSelectableSpares.{selectable_sparing}
use Rattle.policy_machine.proofs.NumbersKept.{some_changed}
use Rattle.policy_machine.proofs.RisingForms.{KeepsAllNumbers}

selectable_alike : IsAlikeForm (command_form managed_selectable)
selectable_alike = looking_alike managed_selectable.judged held_alike (λ asked rule a. elim rule [ MS1 ↦ unchanged | _ ↦ unchanged ])

selectable_numbers : KeepsAllNumbers managed_selectable
selectable_numbers admitted given changed passed becomes =
    some_changed admitted.at.registry changed (λ other. same_aid other given.third) (λ entry. record entry { life = record { life = Selectable; locked = false } })
    (ap (λ (r : Registry). r.entries) becomes) (λ entry. (refl, refl))

pub selectable_laws : FormLaws (command_form managed_selectable)
selectable_laws = managed_laws managed_selectable managed_selectable_lawful (among changing 0xE6 refl) selectable_numbers selectable_sparing (inl selectable_alike)

pub selectable_p1 : TakesP1 (0x08 ∷ []) (command_form managed_selectable)
selectable_p1 = record { of = λ p1 p2 takes. (0, omega arith, sym takes.0) }
