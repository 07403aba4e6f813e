-- What is shown of the form of a command, from which the laws over all commands follow.
use Rattle.std.proofs.Common.{◌≡◌, ◌⊎◌, ℕ, List}
use Rattle.std.specs.Prelude.{Contains}
use Rattle.policy_machine.specs.Prelude.{Admitted, CommandForm, Effect, IsSameButCounters, ManagedForm, OneOf, Takes, changing, command_form, managing}
use Rattle.policy_machine.specs.declared.instruction.TheConstants.{EXTERNAL_AUTHENTICATE, PUT_KEY}
use Rattle.policy_machine.proofs.Alike.{IsAlikeForm}
use Rattle.policy_machine.proofs.ChangingBytes.{manages}
use Rattle.policy_machine.proofs.Lawful.{IsLawful}
use Rattle.policy_machine.proofs.ManagedLawful.{IsManagedLawful, managed_lawful}
use Rattle.policy_machine.proofs.RisingForms.{IsRising, KeepsAllNumbers, managed_rising, quiet_rising}
use Rattle.policy_machine.proofs.SparingForms.{IsManagedSparing, IsSparing, managed_sparing, quiet_sparing}

-- what its own rules look at is so of commands that are alike, or it is one of the two that are judged by keys and cryptograms
abbrev pub LooksAlike : CommandForm → Type 0
LooksAlike form = IsAlikeForm form ⊎ (form.instruction ≡ PUT_KEY) ⊎ (form.instruction ≡ EXTERNAL_AUTHENTICATE)

-- none of the forms takes a command that this one takes
abbrev pub AreApart : CommandForm → List CommandForm → Type 0
AreApart form forms = (ins p1 p2 : ℕ) (body : List ℕ) → Takes form ins p1 p2 body → OneOf (λ other. Takes other ins p1 p2 body) forms → ⊥

pub record FormLaws (form : CommandForm) : Type 0 where
  pub lawful : IsLawful form
  pub rising : IsRising form
  pub sparing : IsSparing form
  pub alike : LooksAlike form

-- one that is never confirmed, and changes no more than the numbers of sequence counters
pub quiet_laws : (form : CommandForm) → IsLawful form → ((admitted : Admitted) (aids : List (List ℕ)) → form.confirms admitted aids → ⊥)
    → ((admitted : Admitted) (done : Effect) → form.does admitted done → IsSameButCounters admitted.at.registry done.state.registry) → LooksAlike form → FormLaws form
quiet_laws form lawful never quiet alike = record {
  lawful = lawful;
  rising = quiet_rising form never quiet;
  sparing = quiet_sparing form quiet;
  alike = alike;
}

-- one that manages no content does
pub plain_laws : (form : CommandForm) → IsLawful form → ((admitted : Admitted) (aids : List (List ℕ)) → form.confirms admitted aids → ⊥)
    → (Contains managing form.instruction → ⊥) → LooksAlike form → FormLaws form
plain_laws form lawful never other alike = quiet_laws form lawful never (λ admitted done does. lawful.quiet other admitted done does) alike

-- one of card content management
pub managed_laws : (form : ManagedForm) → IsManagedLawful form → Contains changing form.judged.instruction → KeepsAllNumbers form → IsManagedSparing form
    → LooksAlike (command_form form) → FormLaws (command_form form)
managed_laws form lawful changes numbers sparing alike =
    let managed = manages form.judged.instruction changes in
    record {
      lawful = managed_lawful form lawful managed;
      rising = managed_rising form lawful managed numbers;
      sparing = managed_sparing form lawful changes sparing;
      alike = alike;
    }
