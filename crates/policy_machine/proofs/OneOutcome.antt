-- From one state the same bytes have at most one outcome.
use Rattle.std.proofs.Common.{◌≡◌, ◌⊎◌, ℕ, List, [], ◌∷◌, false, Option, None, Some, refl, sym, ap, subst, ◌∙◌, inl, inr}
use Rattle.std.specs.Prelude.{MatchOption}
use Rattle.apdu_core.proofs.OneSpelling.{one_command}
use Rattle.policy_machine.specs.Prelude.{Admits, Admitted, Apdu, DoesAs, Effect, FormFails, GeneralFails, GeneralRefusalLeaves, HasEffect, IsAccepted, IsPlainManagement, IsRefused, IsRejected, IsTakenAs, Judges, JudgesAs, Of, OneOf, OneOutcome, OneRun, Opens, Outcome, Run, Session, SessionEnds, Short, State, Volatile, accepting, admitted_as, channel_of, class_passed, form_rules, forms_of, general_rules, outcome_of_effect, outcome_of_refusal, powered_on, refusal_leaves, session_for, without_place, without_session}
use Rattle.policy_machine.specs.declared.rule.Rule.{Rule}
use Rattle.policy_machine.specs.declared.rule.Rule.TheVariants.{G}
use Rattle.policy_machine.specs.declared.rule.RuleG.{RuleG}
use Rattle.policy_machine.specs.declared.rule.RuleG.TheVariants.{G1, G2, G3, G4, G5, G6, G7, G8}
use Rattle.policy_machine.proofs.FirstUnique.{one_first}
use Rattle.scp03_card.proofs.GivesLemmas.{opens_one}
use Rattle.policy_machine.proofs.FormTaken.{by_form}
use Rattle.policy_machine.proofs.Lawful.{some_same}
use Rattle.policy_machine.specs.Run as run
use Rattle.std.proofs.lemmas.Bool.{true≢false}

-- the bytes are one command
pub of_one : (bytes : List ℕ) (holds : Apdu → Type 0) (command : Apdu) → Short command bytes → Of bytes holds → holds command
of_one bytes holds command short of = subst holds (one_command of.0 command bytes of.1 short) of.2

-- a command of card content management ends a session, and any other that G6 refuses has none
refused_session_one : (command : Apdu) (volatile a b : Volatile)
    → (IsPlainManagement command × (a ≡ without_session (class_passed volatile command) (channel_of command.class)))
    ⊎ ((IsPlainManagement command → ⊥) × (a ≡ class_passed volatile command))
    → (IsPlainManagement command × (b ≡ without_session (class_passed volatile command) (channel_of command.class)))
    ⊎ ((IsPlainManagement command → ⊥) × (b ≡ class_passed volatile command)) → a ≡ b
refused_session_one command volatile a b (inl one) (inl other) = one.1 ∙ sym other.1
refused_session_one command volatile a b (inl one) (inr other) = absurd (other.0 one.0)
refused_session_one command volatile a b (inr one) (inl other) = absurd (one.0 other.0)
refused_session_one command volatile a b (inr one) (inr other) = one.1 ∙ sym other.1

session_ends_one : (state : State) (bytes : List ℕ) (a b : Volatile) → SessionEnds state bytes a → SessionEnds state bytes b → a ≡ b
session_ends_one state bytes a b one other =
    one.2
    ∙ sym (of_one bytes (λ command. b ≡ without_session (class_passed state.volatile command) (channel_of command.class)) one.0 one.1 other)

leaves_one : (state : State) (bytes : List ℕ) (rule : RuleG) (a b : Volatile) → GeneralRefusalLeaves state bytes rule a → GeneralRefusalLeaves state bytes rule b → a ≡ b
leaves_one state bytes G1 a b one other = one ∙ sym other
leaves_one state bytes G2 a b one other = one ∙ sym other
leaves_one state bytes G3 a b one other = one ∙ sym other
leaves_one state bytes G4 a b one other = one ∙ sym other
leaves_one state bytes G5 a b one other =
    one.2 ∙ sym (of_one bytes (λ command. b ≡ without_place state.volatile (channel_of command.class) false) one.0 one.1 other)
leaves_one state bytes G6 a b one other = refused_session_one one.0 state.volatile a b one.2 (of_one bytes _ one.0 one.1 other)
leaves_one state bytes G7 a b one other = session_ends_one state bytes a b one other
leaves_one state bytes G8 a b one other = session_ends_one state bytes a b one other

-- in its session a command opens to one data field
opened_one : (command : Apdu) (found : Option Session) (a b : Session) (p q : List ℕ)
    → MatchOption found ⊥ (λ session. Opens session command p × (a ≡ accepting session command))
    → MatchOption found ⊥ (λ session. Opens session command q × (b ≡ accepting session command)) → (a ≡ b) × (p ≡ q)
opened_one command None a b p q one other = absurd one
opened_one command (Some session) a b p q one other = (one.1 ∙ sym other.1, opens_one session command p q one.0 other.0)

-- a command is taken in one way
taken_one : (state : State) (command : Apdu) (a b : Option Session) (p q : List ℕ) → IsTakenAs state command a p → IsTakenAs state command b q → (a ≡ b) × (p ≡ q)
taken_one state command None None p q one other = (refl, one.1 ∙ sym other.1)
taken_one state command None (Some b) p q one other = absurd (true≢false (sym other.0 ∙ one.0))
taken_one state command (Some a) None p q one other = absurd (true≢false (sym one.0 ∙ other.0))
taken_one state command (Some a) (Some b) p q one other =
    (let same = opened_one command (session_for state command) a b p q one.1 other.1 in (ap Some same.0, same.1))

pub admits_one : (state : State) (bytes : List ℕ) (a b : Admitted) → Admits state bytes a → Admits state bytes b → a ≡ b
admits_one state bytes a b one other =
    let command = one.1.0 in
    let first = one.1.2 in
    let second = of_one bytes
    (λ command. (session : Option Session) × (plain : List ℕ) × IsTakenAs state command session plain × (b ≡ admitted_as state command session plain))
    command one.1.1 other.1 in
    let same = taken_one state command first.0 second.0 first.1 second.1 first.2 second.2 in
    first.3 ∙ (λ i. admitted_as state command (same.0 i) (same.1 i)) ∙ sym second.3

own_one : (admitted : Admitted) (a b : Option Rule) → OneOf (λ form. JudgesAs form admitted a) (forms_of admitted.command.ins)
    → OneOf (λ form. JudgesAs form admitted b) (forms_of admitted.command.ins) → a ≡ b
own_one admitted a b =
    by_form admitted (λ form. JudgesAs form admitted a) (λ form. JudgesAs form admitted b) (λ form one. one.0) (λ form one. one.0) (a ≡ b)
    (λ form lawful one other. one_first (form.fails admitted) form.rules a b one.1 other.1)

pub judges_one : (admitted : Admitted) (a b : Option Rule) → Judges admitted a → Judges admitted b → a ≡ b
judges_one admitted a b (inl one) (inl other) =
    one.found_is ∙ one_first (FormFails admitted) (form_rules admitted.command.ins) (Some one.rule) (Some other.rule) one.first other.first ∙ sym other.found_is
judges_one admitted a b (inl one) (inr other) =
    (let clash = one_first (FormFails admitted) (form_rules admitted.command.ins) (Some one.rule) None one.first other.0 in cc)
judges_one admitted a b (inr one) (inl other) =
    (let clash = one_first (FormFails admitted) (form_rules admitted.command.ins) (Some other.rule) None other.first one.0 in cc)
judges_one admitted a b (inr one) (inr other) = own_one admitted a b one.1 other.1

pub does_one : (admitted : Admitted) (a b : Effect) → HasEffect admitted a → HasEffect admitted b → a ≡ b
does_one admitted a b =
    by_form admitted (λ form. DoesAs form admitted a) (λ form. DoesAs form admitted b) (λ form one. one.0) (λ form one. one.0) (a ≡ b)
    (λ form lawful one other. lawful.one admitted a b one.1 other.1)

-- what is barred is not admitted
rejected_or_admitted : {P : Type 0} (state : State) (bytes : List ℕ) (a : Outcome) (admitted : Admitted) → IsRejected state bytes a → Admits state bytes admitted → P
rejected_or_admitted state bytes a admitted rejected admits =
    (let clash = one_first (GeneralFails state bytes) general_rules (Some rejected.rule) None rejected.first admits.0 in cc)

rejected_one : (state : State) (bytes : List ℕ) (a b : Outcome) → IsRejected state bytes a → IsRejected state bytes b → a ≡ b
rejected_one state bytes a b one other =
    let rules = some_same one.rule other.rule (one_first (GeneralFails state bytes) general_rules (Some one.rule) (Some other.rule) one.first other.first) in
    let left = leaves_one state bytes other.rule one.left other.left (subst (λ (r : RuleG). GeneralRefusalLeaves state bytes r one.left) rules one.leaves) other.leaves in
    one.outcome_is ∙ (λ i. outcome_of_refusal state (left i) None (G (rules i))) ∙ sym other.outcome_is

refused_one : (state : State) (bytes : List ℕ) (a b : Outcome) → IsRefused state bytes a → IsRefused state bytes b → a ≡ b
refused_one state bytes a b one other =
    let same = admits_one state bytes one.admitted other.admitted one.admits other.admits in
    let judged = subst (λ (x : Admitted). Judges x (Some one.rule)) same one.judges in
    let rules = some_same one.rule other.rule (judges_one other.admitted (Some one.rule) (Some other.rule) judged other.judges) in
    one.outcome_is ∙ (λ i. (let x : Admitted = same i in outcome_of_refusal state (refusal_leaves x (rules i)) x.session (rules i))) ∙ sym other.outcome_is

refused_or_accepted : {P : Type 0} (state : State) (bytes : List ℕ) (a b : Outcome) → IsRefused state bytes a → IsAccepted state bytes b → P
refused_or_accepted state bytes a b one other =
    let same = admits_one state bytes one.admitted other.admitted one.admits other.admits in
    let judged = subst (λ (x : Admitted). Judges x (Some one.rule)) same one.judges in
    (let clash = judges_one other.admitted (Some one.rule) None judged other.judges in cc)

accepted_one : (state : State) (bytes : List ℕ) (a b : Outcome) → IsAccepted state bytes a → IsAccepted state bytes b → a ≡ b
accepted_one state bytes a b one other =
    let same = admits_one state bytes one.admitted other.admitted one.admits other.admits in
    let done = does_one other.admitted one.done other.done (subst (λ (x : Admitted). HasEffect x one.done) same one.does) other.does in
    one.outcome_is ∙ (λ i. outcome_of_effect (same i) (done i)) ∙ sym other.outcome_is

pub one_outcome : OneOutcome
one_outcome state bytes a b (inl one) (inl other) = rejected_one state bytes a b one other
one_outcome state bytes a b (inl one) (inr (inl other)) = rejected_or_admitted state bytes a other.admitted one other.admits
one_outcome state bytes a b (inl one) (inr (inr other)) = rejected_or_admitted state bytes a other.admitted one other.admits
one_outcome state bytes a b (inr (inl one)) (inl other) = rejected_or_admitted state bytes b one.admitted other one.admits
one_outcome state bytes a b (inr (inl one)) (inr (inl other)) = refused_one state bytes a b one other
one_outcome state bytes a b (inr (inl one)) (inr (inr other)) = refused_or_accepted state bytes a b one other
one_outcome state bytes a b (inr (inr one)) (inl other) = rejected_or_admitted state bytes b one.admitted other one.admits
one_outcome state bytes a b (inr (inr one)) (inr (inl other)) = refused_or_accepted state bytes b a other one
one_outcome state bytes a b (inr (inr one)) (inr (inr other)) = accepted_one state bytes a b one other

pub one_run : OneRun
one_run state [] some others last another run other = (run.0 ∙ sym other.0, run.1 ∙ sym other.1)
one_run state (run.Command bytes ∷ inputs) [] others last another run other = absurd run
one_run state (run.Command bytes ∷ inputs) (a ∷ some) [] last another run other = absurd other
one_run state (run.Command bytes ∷ inputs) (a ∷ some) (b ∷ others) last another run other =
    let same = one_outcome state bytes a b run.0 other.0 in
    let rest = one_run b.state inputs some others last another
    (subst (λ (o : Outcome). Run o.state inputs some last) same run.1) other.1 in
    ((λ i. same i ∷ rest.0 i), rest.1)
one_run state (run.Reset ∷ inputs) some others last another run other = one_run (powered_on state.registry) inputs some others last another run other
