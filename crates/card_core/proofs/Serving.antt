-- What comes of a command is one step of the policy machine.
use Rattle.std.proofs.Common.{◌≡◌, ◌⊎◌, ℕ, List, [], ◌∷◌, Bool, true, false, Option, None, Some, Result, Ok, Err, refl, sym, ap, subst, ◌∙◌, inl, inr}
use Rattle.std.specs.Prelude.{◌↔◌, All, Contains, IsTrue, MatchOption}
use Rattle.std.proofs.lemmas.Bool.{true≢false}
use Rattle.std.proofs.lemmas.List.Elements.{All-contains, All-from_recursion}
use Rattle.card_core.specs.Prelude.{Admits, Admitted, Apdu, CarriesOut, GeneralFails, GeneralRefusalLeaves, Gives, InSession, IsAuthentic, IsBuilt, IsFirst, IsKnown, IsPlainGetData, IsPlainManagement, IsSound, Kept, KeptRepresents, Of, Opens, Serves, Session, Short, State, Volatile, accepting, admitted_as, class_of, command_rules, field_of, general_rules, instructions_of, is_protected, is_secure, managing, protects, refusal_leaves, reply_bytes, rule_of, session_for, status_bytes, status_of, status_word}
use Rattle.apdu_core.specs.declared.reply.Status.{Status}
use Rattle.card_types.proofs.Members.{contains_cases}
use Rattle.card_types.specs.declared.card_life.CardLife.TheVariants.{Terminated}
use Rattle.policy_machine.proofs.KeepsSound.{steps_keep_sound}
use Rattle.policy_machine.proofs.OneOutcome.{of_one}
use Rattle.policy_machine.proofs.Opened.{managed_protected}
use Rattle.policy_machine.proofs.FirstUnique.{behind}
use Rattle.policy_machine.specs.declared.class.Class.{Class}
use Rattle.policy_machine.specs.declared.class.Class.TheVariants.{Interindustry, Plain, Secure}
use Rattle.policy_machine.specs.declared.instruction.TheConstants.{GET_DATA, EXTERNAL_AUTHENTICATE}
use Rattle.policy_machine.specs.declared.rule.Rule.{Rule}
use Rattle.policy_machine.specs.declared.rule.Rule.TheVariants.{G}
use Rattle.policy_machine.specs.declared.rule.RuleG.{RuleG}
use Rattle.policy_machine.specs.declared.rule.RuleG.TheVariants.{G5, G6, G7, G8}

-- a general rule bars the bytes
pub rejected : (page : ℕ → List ℕ) (card : Kept) (state : State) (bytes reply : List ℕ) (rule : RuleG) (left : Volatile) → IsSound state
    → IsFirst (GeneralFails state bytes) general_rules (Some rule) → GeneralRefusalLeaves state bytes rule left
    → KeptRepresents page card (record { registry = state.registry; volatile = left }) → reply ≡ status_bytes (status_of (G rule))
    → Serves page state bytes card reply (Some (G rule))
rejected page card state bytes reply rule left sound first leaves shows is =
    let step = inl (record {
      rule = rule;
      left = left;
      first = first;
      leaves = leaves;
      outcome_is = ap (λ (r : List ℕ). record { state = record { registry = state.registry; volatile = left }; reply = r; rule = Some (G rule) }) is;
    }) in
    (record { registry = state.registry; volatile = left }, shows, steps_keep_sound state bytes _ sound step, step)

-- a command that was carried out, or refused by a rule of its own
pub carried_out : (page : ℕ → List ℕ) (state : State) (bytes : List ℕ) (command : Apdu) (session : Option Session) (plain : List ℕ) (card : Kept) (body reply : List ℕ)
    (result : Result Status Rule) → IsSound state → Admits state bytes (admitted_as state command session plain)
    → CarriesOut page (admitted_as state command session plain) card body result → reply ≡ reply_bytes session body (status_word result)
    → Serves page state bytes card reply (rule_of result)
carried_out page state bytes command session plain card body reply (Ok status) sound admits (done, shows, judges, does, body_is, word) is =
    let step = inr (inr (record {
      admitted = admitted_as state command session plain;
      done = done;
      admits = admits;
      judges = judges;
      does = does;
      outcome_is = ap (λ (r : List ℕ). record { state = done.state; reply = r; rule = None }) (is ∙ (λ i. reply_bytes session (body_is i) (word i)));
    })) in
    (done.state, shows, steps_keep_sound state bytes _ sound step, step)
carried_out page state bytes command session plain card body reply (Err rule) sound admits (shows, judges, empty) is =
    let admitted : Admitted = admitted_as state command session plain in
    let left = refusal_leaves (admitted_as state command session plain) rule in
    let step = inr (inl (record {
      admitted = admitted_as state command session plain;
      rule = rule;
      admits = admits;
      judges = judges;
      outcome_is = ap (λ (r : List ℕ). record { state = record { registry = state.registry; volatile = left }; reply = r; rule = Some rule })
          (is ∙ ap (λ (b : List ℕ). reply_bytes session b (status_of rule)) empty);
    })) in
    (record { registry = state.registry; volatile = left }, shows, steps_keep_sound state bytes _ sound step, step)

-- what a class takes is built
is_built_all : (class : Class) → All IsBuilt (instructions_of class)
is_built_all Interindustry = All-from_recursion IsBuilt (instructions_of Interindustry) (inl tt, (inl tt, (inl tt, tt)))
is_built_all Plain = All-from_recursion IsBuilt (instructions_of Plain) (inl tt, (inl tt, (inl tt, (inl tt, (inl tt, (inl tt, (inl tt, (inl tt, (inl tt, tt)))))))))
is_built_all Secure = All-from_recursion IsBuilt (instructions_of Secure) (inl tt, (inl tt, (inl tt, (inl tt, (inl tt, (inl tt, (inl tt, (inl tt, (inl tt, tt)))))))))

pub is_built : (class : Option Class) (ins : ℕ) → MatchOption class ⊥ (λ c. Contains (instructions_of c) ins) → IsBuilt ins
is_built None ins known = absurd known
is_built (Some class) ins known = All-contains IsBuilt (instructions_of class) ins (is_built_all class) known

-- a protected command is GET DATA, or one of card content management
pub protected_one : (class : Option Class) (ins : ℕ) → MatchOption class ⊥ (λ c. Contains (instructions_of c) ins) → protects class ins ≡ true
    → (ins ≡ GET_DATA) ⊎ Contains managing ins
protected_one None ins known protected = absurd known
protected_one (Some Interindustry) ins known protected = cc
protected_one (Some Plain) ins known protected = cc
protected_one (Some Secure) ins known protected = elim (contains_cases EXTERNAL_AUTHENTICATE (GET_DATA ∷ managing) ins known) [
  | inl answer ↦ (let clash = subst (λ (n : ℕ). protects (Some Secure) n ≡ true) (sym answer) protected in cc)
  | inr more ↦ elim (contains_cases GET_DATA managing ins more) [
    | inl get ↦ inl (sym get)
    | inr managed ↦ inr managed
  ]
]

-- a protected command has secure messaging, so it is no management in plain
pub protected_unmanaged : (command : Apdu) → is_protected command ≡ true → IsPlainManagement command → ⊥
protected_unmanaged command protected (plain, managed) = (let clash = subst (λ (c : Option Class). protects c command.ins ≡ true) plain protected in cc)

-- without secure messaging, a command that passes is none of card content management
pub unprotected_unmanaged : (command : Apdu) → IsKnown command.class command.ins → (IsPlainManagement command → ⊥) → is_protected command ≡ false
    → Contains managing command.ins → ⊥
unprotected_unmanaged command known unmanaged plain managed =
    let protected = managed_protected (class_of command.class) command.ins known (λ class. unmanaged (class, managed)) managed in
    true≢false (sym protected ∙ plain)

-- whether it is card content management in plain, as the code answers it
module _ (command : Apdu) (class : Class) (answer : Bool) (is_class : class_of command.class ≡ Some class)
    (answers : IsTrue answer ↔ ((class ≡ Plain) × Contains managing command.ins)) where
  pub is_managed : answer ≡ true → IsPlainManagement command
  is_managed it_is = (is_class ∙ ap Some (answers.0 it_is).0, (answers.0 it_is).1)

  pub not_managed : answer ≡ false → IsPlainManagement command → ⊥
  not_managed is_not (plain, managed) = true≢false (sym (answers.1 (one (sym is_class ∙ plain), managed)) ∙ is_not)
    where
      one : Some class ≡ Some Plain → class ≡ Plain
      one same = cc

module _ (state : State) (bytes : List ℕ) (command : Apdu) (short : Short command bytes) (known : IsKnown command.class command.ins)
    (class : Class) (is_class : class_of command.class ≡ Some class) (front : IsFirst (GeneralFails state bytes) command_rules None) where
  not_of : (holds : Apdu → Type 0) → (holds command → ⊥) → Of bytes holds → ⊥
  not_of holds never of = never (of_one bytes holds command short of)

  -- the card is terminated
  abbrev IsTerminatedFor : Type 0
  IsTerminatedFor = (state.registry.life ≡ Terminated) × ((command.ins ≡ GET_DATA) × (is_secure class ≡ false) → ⊥)

  ended : IsTerminatedFor → (state.registry.life ≡ Terminated) × (IsPlainGetData command → ⊥)
  ended over = (over.0, λ plain. over.1 (plain.0, subst (λ (c : Option Class). MatchOption c ⊥ (λ k. is_secure k ≡ false)) is_class plain.1))

  goes_on : (state.registry.life ≡ Terminated) × (IsPlainGetData command → ⊥) → IsTerminatedFor
  goes_on over = (over.0, λ plain. over.1 (plain.0, subst (λ (c : Option Class). MatchOption c ⊥ (λ k. is_secure k ≡ false)) (sym is_class) plain.1))

  pub over_first : IsTerminatedFor → IsFirst (GeneralFails state bytes) general_rules (Some G5)
  over_first over = behind (GeneralFails state bytes) command_rules (G5 ∷ G6 ∷ G7 ∷ G8 ∷ []) (Some G5) front (inl ((command, short, ended over), refl))

  module _ (not_over : IsTerminatedFor → ⊥) where
    after_over : (found : Option RuleG) → IsFirst (GeneralFails state bytes) (G6 ∷ G7 ∷ G8 ∷ []) found → IsFirst (GeneralFails state bytes) general_rules found
    after_over found first =
        behind (GeneralFails state bytes) command_rules (G5 ∷ G6 ∷ G7 ∷ G8 ∷ []) found front
        (inr (not_of (λ c. (state.registry.life ≡ Terminated) × (IsPlainGetData c → ⊥)) (λ over. not_over (goes_on over)), first))

    -- card content management in plain
    pub managed_first : IsPlainManagement command → IsFirst (GeneralFails state bytes) general_rules (Some G6)
    managed_first managed = after_over (Some G6) (inl ((command, short, inl managed), refl))

    pub no_session_first : is_protected command ≡ true → session_for state command ≡ None → IsFirst (GeneralFails state bytes) general_rules (Some G6)
    no_session_first protected none = after_over (Some G6) (inl ((command, short, inr (protected, none)), refl))

    -- any other command in plain passes
    pub plain_passes : (IsPlainManagement command → ⊥) → is_protected command ≡ false → IsFirst (GeneralFails state bytes) general_rules None
    plain_passes unmanaged plain =
        after_over None (inr (
          not_of (λ c. IsPlainManagement c ⊎ ((is_protected c ≡ true) × (session_for state c ≡ None))) g6,
          inr (
            not_of (λ c. InSession state c (λ session. IsAuthentic session c → ⊥)) (λ fails. true≢false (sym fails.0 ∙ plain)),
            inr (
              not_of (λ c. InSession state c (λ session. (p : List ℕ) → Gives (accepting session c) (field_of c) p → ⊥))
                  (λ fails. true≢false (sym fails.0 ∙ plain)),
              refl,
            ),
          ),
        ))
      where
        g6 : IsPlainManagement command ⊎ ((is_protected command ≡ true) × (session_for state command ≡ None)) → ⊥
        g6 (inl managed) = unmanaged managed
        g6 (inr unsecured) = true≢false (sym unsecured.0 ∙ plain)

    module _ (protected : is_protected command ≡ true) (session : Session) (is_session : session_for state command ≡ Some session) where
      has_session : IsPlainManagement command ⊎ ((is_protected command ≡ true) × (session_for state command ≡ None)) → ⊥
      has_session (inl managed) = protected_unmanaged command protected managed
      has_session (inr unsecured) = (let none = unsecured.1 in let clash = sym none ∙ is_session in cc)

      in_session : (holds : Session → Type 0) → holds session → InSession state command holds
      in_session holds is = (protected, subst (λ (o : Option Session). MatchOption o ⊥ holds) (sym is_session) is)

      of_session : (holds : Session → Type 0) → InSession state command holds → holds session
      of_session holds is = subst (λ (o : Option Session). MatchOption o ⊥ holds) is_session is.1

      after_session : (found : Option RuleG) → IsFirst (GeneralFails state bytes) (G7 ∷ G8 ∷ []) found → IsFirst (GeneralFails state bytes) general_rules found
      after_session found first =
          after_over found (inr (not_of (λ c. IsPlainManagement c ⊎ ((is_protected c ≡ true) × (session_for state c ≡ None))) has_session, first))

      pub wrong_mac_first : (IsAuthentic session command → ⊥) → IsFirst (GeneralFails state bytes) general_rules (Some G7)
      wrong_mac_first wrong = after_session (Some G7) (inl ((command, short, in_session (λ s. IsAuthentic s command → ⊥) wrong), refl))

      after_mac : (found : Option RuleG) → IsAuthentic session command → IsFirst (GeneralFails state bytes) (G8 ∷ []) found → IsFirst (GeneralFails state bytes) general_rules found
      after_mac found authentic first =
          after_session found (inr (
            not_of (λ c. InSession state c (λ s. IsAuthentic s c → ⊥)) (λ fails. of_session (λ s. IsAuthentic s command → ⊥) fails authentic),
            first,
          ))

      pub wrong_padding_first : IsAuthentic session command → ((p : List ℕ) → Gives (accepting session command) (field_of command) p → ⊥)
          → IsFirst (GeneralFails state bytes) general_rules (Some G8)
      wrong_padding_first authentic wrong =
          after_mac (Some G8) authentic
          (inl ((command, short, in_session (λ s. (p : List ℕ) → Gives (accepting s command) (field_of command) p → ⊥) wrong), refl))

      -- a command that opens passes
      pub opened_passes : (plain : List ℕ) → Opens session command plain → IsFirst (GeneralFails state bytes) general_rules None
      opened_passes plain opens =
          after_mac None opens.authentic
          (inr (
            not_of (λ c. InSession state c (λ s. (p : List ℕ) → Gives (accepting s c) (field_of c) p → ⊥))
                (λ fails. of_session (λ s. (p : List ℕ) → Gives (accepting s command) (field_of command) p → ⊥) fails plain opens.gives),
            refl,
          ))

      pub admits_opened : (plain : List ℕ) → Opens session command plain
          → Admits state bytes (admitted_as state command (Some (accepting session command)) plain)
      admits_opened plain opens = (
        opened_passes plain opens,
        (command, short, (Some (accepting session command), plain, in_session (λ s. Opens s command plain × (accepting session command ≡ accepting s command)) (opens, refl), refl)),
      )

    pub admits_plain : (IsPlainManagement command → ⊥) → is_protected command ≡ false → Admits state bytes (admitted_as state command None command.body)
    admits_plain unmanaged plain = (plain_passes unmanaged plain, (command, short, (None, command.body, (plain, refl), refl)))
