-- SET STATUS of an entry: what the laws over all commands need of the form.
use Rattle.std.proofs.Common.{[], ◌∷◌, ◌⊎◌, ap, arith, inl, inr, refl, sym}
use Rattle.policy_machine.specs.Prelude.{OneIsSet, PersonalizesItself, Registry, SettingStatusFails, TreeIsSet, changing, command_form, managed_entry_status, same_aid}
use Rattle.policy_machine.specs.declared.entry_status.RuleSS.{RuleSS}
use Rattle.policy_machine.specs.declared.entry_status.RuleSS.TheVariants.{SS3}
use Rattle.policy_machine.proofs.Alike.{IsAlikeForm, LooksAtSeen, unchanged}
use Rattle.policy_machine.proofs.AlikeManaged.{looking_alike, nobody_alike}
use Rattle.policy_machine.proofs.ByP1.{TakesP1}
use Rattle.policy_machine.proofs.EntryStatusLaws.{managed_entry_status_lawful}
use Rattle.policy_machine.proofs.EntryStatusSpares.{entry_status_sparing}
use Rattle.policy_machine.proofs.FormLaws.{FormLaws, managed_laws}
use Rattle.policy_machine.proofs.Instructed.{among}
use Rattle.policy_machine.proofs.NumbersKept.{KeepsNumbers, some_changed}
use Rattle.policy_machine.proofs.RisingForms.{KeepsAllNumbers}

itself_looks : LooksAtSeen PersonalizesItself
itself_looks a = (
  (λ is. record { itself = is.itself; one = is.one; code = is.code }),
  (λ is. record { itself = is.itself; one = is.one; code = is.code }),
)

setting_status_looks : (rule : RuleSS) → LooksAtSeen (λ x. SettingStatusFails x rule)
setting_status_looks SS3 a = (
  (λ fails. (fails.0, fails.1, (λ is. fails.2 ((itself_looks a).1 is)))),
  (λ fails. (fails.0, fails.1, (λ is. fails.2 ((itself_looks a).0 is)))),
)
setting_status_looks rule a = unchanged

entry_status_alike : IsAlikeForm (command_form managed_entry_status)
entry_status_alike = looking_alike managed_entry_status.judged nobody_alike (λ asked. setting_status_looks)

entry_status_numbers : KeepsAllNumbers managed_entry_status
entry_status_numbers admitted asked changed passed set = by set
  where
    by : OneIsSet admitted changed ⊎ TreeIsSet admitted changed → KeepsNumbers admitted.at.registry changed
    by (inl one) =
        some_changed admitted.at.registry changed (λ other. same_aid other admitted.command.body) (λ entry. record entry { life = one.life })
        (ap (λ (r : Registry). r.entries) one.registry) (λ entry. (refl, refl))
    by (inr tree) =
        some_changed admitted.at.registry changed tree.these (λ entry. record entry { life = record { life = entry.life.life; locked = tree.locked } })
        (ap (λ (r : Registry). r.entries) tree.registry) (λ entry. (refl, refl))

pub entry_status_laws : FormLaws (command_form managed_entry_status)
entry_status_laws = managed_laws managed_entry_status managed_entry_status_lawful (among changing 0xF0 refl) entry_status_numbers entry_status_sparing (inl entry_status_alike)

pub entry_status_p1 : TakesP1 (0x40 ∷ 0x60 ∷ []) (command_form managed_entry_status)
entry_status_p1 = record { of = λ p1 p2 takes. elim takes [ inl one ↦ (0, omega arith, sym one) | inr all ↦ (1, omega arith, sym all) ] }
