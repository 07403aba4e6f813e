-- SET STATUS of the card: what the laws over all commands need of the form.
use Rattle.std.proofs.Common.{[], ◌∷◌, ap, arith, inl, refl, sym}
use Rattle.policy_machine.specs.Prelude.{Registry, changing, command_form, managed_card_status}
use Rattle.policy_machine.specs.declared.card_status.RuleSC.TheVariants.{SC1}
use Rattle.policy_machine.proofs.Alike.{IsAlikeForm, unchanged}
use Rattle.policy_machine.proofs.AlikeManaged.{nobody_alike, looking_alike}
use Rattle.policy_machine.proofs.ByP1.{TakesP1}
use Rattle.policy_machine.proofs.CardStatusLaws.{managed_card_status_lawful}
use Rattle.policy_machine.proofs.CardStatusSpares.{card_status_sparing}
use Rattle.policy_machine.proofs.FormLaws.{FormLaws, managed_laws}
use Rattle.policy_machine.proofs.Instructed.{among}
use Rattle.policy_machine.proofs.NumbersKept.{same_numbers}
use Rattle.policy_machine.proofs.RisingForms.{KeepsAllNumbers}

card_status_alike : IsAlikeForm (command_form managed_card_status)
card_status_alike = looking_alike managed_card_status.judged nobody_alike (λ asked rule a. elim rule [ SC1 ↦ unchanged | _ ↦ unchanged ])

card_status_numbers : KeepsAllNumbers managed_card_status
card_status_numbers admitted asked changed passed set = same_numbers admitted.at.registry changed (ap (λ (r : Registry). r.entries) set.registry)

pub card_status_laws : FormLaws (command_form managed_card_status)
card_status_laws = managed_laws managed_card_status managed_card_status_lawful (among changing 0xF0 refl) card_status_numbers card_status_sparing (inl card_status_alike)

pub card_status_p1 : TakesP1 (0x80 ∷ []) (command_form managed_card_status)
card_status_p1 = record { of = λ p1 p2 is. (0, omega arith, sym is) }
