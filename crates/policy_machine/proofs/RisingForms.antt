-- What is asked of the form of a command, by which receipt numbers rise as they should.
use Rattle.std.proofs.Common.{◌≡◌, ℕ, List, None, refl, ◌∙◌, ap}
use Rattle.std.specs.Prelude.{Contains}
use Rattle.policy_machine.specs.Prelude.{Admitted, CommandForm, Effect, IsSameButCounters, JudgesAs, ManagedForm, Registry, command_form, managing}
use Rattle.policy_machine.proofs.AnsweredRises.{AllRise, answered_rises, none_rises}
use Rattle.policy_machine.proofs.Lawful.{IsReady}
use Rattle.policy_machine.proofs.ManagedLawful.{IsManagedLawful, IsPassedFor, passed_for}
use Rattle.policy_machine.proofs.NumbersKept.{KeepsNumbers, same_numbers}

-- an accepted command raises the number of the domain that confirms it, and answers 9000 then
pub record IsRising (form : CommandForm) : Type 0 where
  pub rises : (admitted : Admitted) (done : Effect) → IsReady admitted → JudgesAs form admitted None → form.does admitted done → AllRise admitted (form.confirms admitted) done
  pub status : (admitted : Admitted) (done : Effect) (aids : List (List ℕ)) → form.does admitted done → form.confirms admitted aids → done.status ≡ 0x9000

-- what is never confirmed, and changes no more than the numbers of sequence counters
pub quiet_rising : (form : CommandForm) → ((admitted : Admitted) (aids : List (List ℕ)) → form.confirms admitted aids → ⊥)
    → ((admitted : Admitted) (done : Effect) → form.does admitted done → IsSameButCounters admitted.at.registry done.state.registry) → IsRising form
quiet_rising form never quiet = record {
  rises = λ admitted done ready judges does.
      none_rises admitted (form.confirms admitted) done (λ aids domain key so receipter. never admitted aids so)
      (same_numbers admitted.at.registry done.state.registry (quiet admitted done does).entries);
  status = λ admitted done aids does so. absurd (never admitted aids so);
}

-- what a form of card content management makes of the registry changes no number
abbrev pub KeepsAllNumbers : ManagedForm → Type 0
KeepsAllNumbers form =
    (admitted : Admitted) (asked : form.judged.Asked) (changed : Registry) → IsPassedFor form.judged admitted asked → form.becomes admitted asked changed
    → KeepsNumbers admitted.at.registry changed

pub managed_rising : (form : ManagedForm) → IsManagedLawful form → Contains managing form.judged.instruction → KeepsAllNumbers form → IsRising (command_form form)
managed_rising form lawful managed keeps = record {
  rises = λ admitted done ready judges does.
      answered_rises (form.judged.delegation.is_delegated admitted) admitted (form.judged.delegation.about admitted does.asked) does.changed (form.reply does.asked) done
      ((command_form form).confirms admitted)
      (λ aids so. (
        so.0,
        so.1.2 ∙ ap (form.judged.delegation.about admitted)
            (lawful.judgeable.one_asked admitted.command.p1 admitted.command.p2 admitted.command.body so.1.0 does.asked so.1.1 does.asks),
      ))
      (λ so. (so, (does.asked, does.asks, refl)))
      (keeps admitted does.asked does.changed (passed_for form lawful managed admitted done ready judges does) does.becomes)
      does.answered;
  status = λ admitted done aids does so. does.status;
}
