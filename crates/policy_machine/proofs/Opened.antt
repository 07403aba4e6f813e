-- What changes more than a sequence counter opens in a session.
use Rattle.std.proofs.Common.{◌≡◌, ℕ, List, true, false, Option, None, Some, refl, sym, ap, subst, ◌∙◌, inl, inr, arith}
use Rattle.std.specs.Prelude.{not, ◌==◌, Contains, MatchOption}
use Rattle.policy_machine.specs.Prelude.{Admits, Admitted, Apdu, Changes, ChangesAreOpened, Effect, GeneralFails, HasEffect, IsFirst, IsSameButCounters, IsTakenAs, Opens, OpensInSession, Outcome, Registry, Session, Short, State, accepting, class_of, general_rules, instructions_of, is_protected, managing, protects, session_for}
use Rattle.policy_machine.specs.declared.class.Class.{Class}
use Rattle.policy_machine.specs.declared.class.Class.TheVariants.{Interindustry, Plain, Secure}
use Rattle.policy_machine.specs.declared.rule.RuleG.TheVariants.{G4, G6}
use Rattle.policy_machine.proofs.FirstUnique.{none_fails}
use Rattle.std.proofs.lemmas.Bool.{cases_Bool, true≢false}
use Rattle.std.specs.List.{list_any}
use Rattle.policy_machine.proofs.Instructed.{each_byte, found_among}
use Rattle.policy_machine.proofs.Lawful.{same_as}
use Rattle.policy_machine.proofs.FormTaken.{done_by}

-- Card content management outside of secure messaging does not pass.
abbrev IsOfClass : Option Class → ℕ → Type 0
IsOfClass class ins = MatchOption class ⊥ (λ c. Contains (instructions_of c) ins)

never_interindustry : (ins : ℕ) → Contains managing ins → Contains (instructions_of Interindustry) ins → ⊥
never_interindustry ins managed known =
    let apart = each_byte (λ n. not (list_any (λ one. one == n) (instructions_of Interindustry))) managing refl ins managed in
    (let clash = found_among (instructions_of Interindustry) ins known in true≢false (sym apart ∙ ap not clash))

always_protected : (ins : ℕ) → Contains managing ins → protects (Some Secure) ins ≡ true
always_protected ins managed = each_byte (protects (Some Secure)) managing refl ins managed

pub managed_protected : (class : Option Class) (ins : ℕ) → IsOfClass class ins → (class ≡ Some Plain → ⊥) → Contains managing ins → protects class ins ≡ true
managed_protected None ins known other managed = absurd known
managed_protected (Some Interindustry) ins known other managed = absurd (never_interindustry ins managed known)
managed_protected (Some Plain) ins known other managed = absurd (other refl)
managed_protected (Some Secure) ins known other managed = always_protected ins managed

pub passed_protected : (state : State) (bytes : List ℕ) (command : Apdu) → Short command bytes → IsFirst (GeneralFails state bytes) general_rules None
    → Contains managing command.ins → is_protected command ≡ true
passed_protected state bytes command short first managed = elim (cases_Bool (is_protected command)) [
  | inl protected ↦ protected
  | inr plain ↦ absurd (none_fails (GeneralFails state bytes) general_rules G4 (3, omega arith, refl) first (
    command,
    short,
    inl (λ known.
        (let protected = managed_protected (class_of command.class) command.ins known
        (λ class. none_fails (GeneralFails state bytes) general_rules G6 (5, omega arith, refl) first (command, short, inl (class, managed)))
        managed in
        let clash = sym protected ∙ plain in cc)),
  ))
]

module _ (state : State) (bytes : List ℕ) (admitted : Admitted) (done : Effect) (admits : Admits state bytes admitted) (does : HasEffect admitted done)
    (changes : Changes state.registry done.state.registry) where
  abbrev command : Apdu
  command = admits.1.0

  unprotected : is_protected command ≡ false → ⊥
  unprotected plain =
      let taken = admits.1.2 in
      let ins : admitted.command.ins ≡ command.ins = ap (λ (a : Admitted). a.command.ins) taken.3 in
      let at : admitted.at.registry ≡ state.registry = ap (λ (a : Admitted). a.at.registry) taken.3 in
      let managed_not : Contains managing admitted.command.ins → ⊥ = λ managed.
      (let clash = sym (passed_protected state bytes command admits.1.1 admits.0 (subst (Contains managing) ins managed)) ∙ plain in cc) in
      changes (subst (λ (r : Registry). IsSameButCounters r done.state.registry) at
      (done_by admitted done (IsSameButCounters admitted.at.registry done.state.registry) (λ form lawful takes it. lawful.quiet
      (λ managed. managed_not (subst (Contains managing) (sym takes.0) managed)) admitted done it) does))

  opened : OpensInSession state bytes
  opened = by admits.1.2.0 admits.1.2.1 admits.1.2.2
    where
      some : (plain : List ℕ) (accepted : Session) (found : Option Session)
          → MatchOption found ⊥ (λ session. Opens session command plain × (accepted ≡ accepting session command))
          → MatchOption found ⊥ (λ session. (p : List ℕ) × Opens session command p)
      some plain accepted None opens = absurd opens
      some plain accepted (Some session) opens = (plain, opens.0)

      by : (session : Option Session) (plain : List ℕ) → IsTakenAs state command session plain → OpensInSession state bytes
      by None plain taken = absurd (unprotected taken.0)
      by (Some accepted) plain taken = (command, admits.1.1, (taken.0, some plain accepted (session_for state command) taken.1))

pub changes_are_opened : ChangesAreOpened
changes_are_opened state bytes outcome (inl rejected) changes =
    absurd (changes (same_as state.registry outcome.state.registry (ap (λ (o : Outcome). o.state.registry) rejected.outcome_is)))
changes_are_opened state bytes outcome (inr (inl refuses)) changes =
    absurd (changes (same_as state.registry outcome.state.registry (ap (λ (o : Outcome). o.state.registry) refuses.outcome_is)))
changes_are_opened state bytes outcome (inr (inr accepts)) changes = (
  ap (λ (o : Outcome). o.rule) accepts.outcome_is,
  opened state bytes accepts.admitted accepts.done accepts.admits accepts.does
      (subst (λ (o : Outcome). Changes state.registry o.state.registry) accepts.outcome_is changes),
)
