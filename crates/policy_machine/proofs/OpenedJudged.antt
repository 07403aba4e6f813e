-- What opens in the session of its channel comes to its own rules.
use Rattle.std.proofs.Common.{◌≡◌, ◌≢◌, ℕ, List, true, false, Option, None, Some, refl, sym, ap, subst, ◌∙◌, inl, inr}
use Rattle.std.specs.Prelude.{MatchOption}
use Rattle.std.proofs.lemmas.Bool.{false≢true, true≢false}
use Rattle.policy_machine.specs.Prelude.{Admits, Admitted, Apdu, Channel, Entry, GeneralFails, Gives, InSession, IsAuthentic, IsFirst, IsKnown, IsPlainManagement, IsSound, IsTakenAs, IsToApplication, Judges, Of, OpenedAreJudged, Opens, Outcome, Session, Short, State, Step, accepting, admitted_as, channel_at, channel_of, class_of, entry_named, field_of, general_rules, is_domain, is_protected, protects, secure_channel_of, selected_on, session_for, session_in}
use Rattle.card_types.specs.declared.card_life.CardLife.TheVariants.{Terminated}
use Rattle.policy_machine.specs.declared.class.Class.{Class}
use Rattle.policy_machine.specs.declared.class.Class.TheVariants.{Plain}
use Rattle.policy_machine.specs.declared.rule.Rule.{Rule}
use Rattle.policy_machine.specs.declared.rule.RuleG.{RuleG}
use Rattle.policy_machine.specs.declared.rule.RuleG.TheVariants.{G1, G2, G3, G4, G5, G6, G7, G8}
use Rattle.policy_machine.proofs.FirstLike.{none_first}
use Rattle.policy_machine.proofs.FirstUnique.{one_first}
use Rattle.policy_machine.proofs.OneOutcome.{admits_one, of_one}
use Rattle.policy_machine.proofs.Passing.{channel_is_low}
use Rattle.policy_machine.proofs.SecureChannelSet.{session_stands}

-- a security domain is no application
apart : (found : Option Entry) → MatchOption found ⊥ (λ entry. is_domain entry ≡ true) → MatchOption found ⊥ (λ entry. is_domain entry ≡ false) → ⊥
apart None domain application = application
apart (Some entry) domain application = true≢false (sym domain ∙ application)

module _ (state : State) (sound : IsSound state) (alive : state.registry.life ≢ Terminated) (bytes : List ℕ) (sent : Apdu) (session : Session)
    (field : List ℕ) (short : Short sent bytes) (protected : is_protected sent ≡ true) (on : session_for state sent ≡ Some session)
    (opens : Opens session sent field) (known : IsKnown sent.class sent.ins) where
  abbrev number : ℕ
  number = channel_of sent.class

  -- the class is that of secure messaging
  of_class : (class : Option Class) → class_of sent.class ≡ class → protects class sent.ins ≡ true
  of_class class is = subst (λ (c : Option Class). protects c sent.ins ≡ true) is protected

  unclassed : class_of sent.class ≡ None → ⊥
  unclassed none = false≢true (of_class None none)

  unmanaged : IsPlainManagement sent → ⊥
  unmanaged plain = false≢true (of_class (Some Plain) plain.0)

  -- the channel has a session, so it is open, and a security domain is selected on it
  sessionless : session_for state sent ≡ None → ⊥
  sessionless none = (let clash = sym none ∙ on in cc)

  closed : channel_at state.volatile number ≡ None → ⊥
  closed none = sessionless (ap (λ (c : Option Channel). session_in (secure_channel_of c)) none)

  to_application : IsToApplication state sent → ⊥
  to_application application =
      let stands = session_stands state.registry state.volatile number sound.fits (channel_is_low sent.class) session on in
      apart (entry_named state.registry (selected_on state.volatile number)) stands.0 application

  -- what is so of the session of its channel is so of this one
  in_session : (holds : Session → Type 0) → InSession state sent holds → holds session
  in_session holds is = subst (λ (found : Option Session). MatchOption found ⊥ holds) on is.1

  here : (holds : Apdu → Type 0) → Of bytes holds → holds sent
  here holds of = of_one bytes holds sent short of

  passes : (rule : RuleG) → GeneralFails state bytes rule → ⊥
  passes G1 none = none sent short
  passes G2 fails = unclassed (here (λ command. class_of command.class ≡ None) fails)
  passes G3 fails = closed (here (λ command. channel_at state.volatile (channel_of command.class) ≡ None) fails)
  passes G4 fails = elim (here _ fails) [
    | inl unknown ↦ unknown known
    | inr application ↦ to_application application.0
  ]
  passes G5 fails = (let ends = here _ fails in alive ends.0)
  passes G6 fails = elim (here _ fails) [
    | inl plain ↦ unmanaged plain
    | inr none ↦ sessionless none.1
  ]
  passes G7 fails = in_session (λ one. IsAuthentic one sent → ⊥) (here _ fails) opens.authentic
  passes G8 fails = in_session (λ one. (plain : List ℕ) → Gives (accepting one sent) (field_of sent) plain → ⊥) (here _ fails) field opens.gives

  first : IsFirst (GeneralFails state bytes) general_rules None
  first = none_first (GeneralFails state bytes) passes general_rules

  abbrev opened : Admitted
  opened = admitted_as state sent (Some (accepting session sent)) field

  taken : IsTakenAs state sent (Some (accepting session sent)) field
  taken = (
    protected,
    subst (λ (found : Option Session). MatchOption found ⊥ (λ one. Opens one sent field × (accepting session sent ≡ accepting one sent))) (sym on) (opens, refl),
  )

  pub admits : Admits state bytes opened
  admits = (first, (sent, short, (Some (accepting session sent), field, taken, refl)))

  -- the rule of an outcome is that by which the command is judged
  judged_so : (admitted : Admitted) (found : Option Rule) (outcome : Outcome) → Admits state bytes admitted → Judges admitted found → outcome.rule ≡ found
      → Judges opened outcome.rule
  judged_so admitted found outcome passed judges is =
      let same = subst (λ (x : Admitted). Judges x found) (admits_one state bytes admitted opened passed admits) judges in
      subst (Judges opened) (sym is) same

  comes_to_rules : (outcome : Outcome) → Step state bytes outcome → Judges opened outcome.rule
  comes_to_rules outcome (inl rejected) =
      (let clash = one_first (GeneralFails state bytes) general_rules (Some rejected.rule) None rejected.first first in cc)
  comes_to_rules outcome (inr (inl refuses)) =
      judged_so refuses.admitted (Some refuses.rule) outcome refuses.admits refuses.judges (ap (λ (o : Outcome). o.rule) refuses.outcome_is)
  comes_to_rules outcome (inr (inr accepts)) =
      judged_so accepts.admitted None outcome accepts.admits accepts.judges (ap (λ (o : Outcome). o.rule) accepts.outcome_is)

pub opened_are_judged : OpenedAreJudged
opened_are_judged state sound alive bytes sent session field short protected on opens known outcome step =
    comes_to_rules state sound alive bytes sent session field short protected on opens known outcome step
