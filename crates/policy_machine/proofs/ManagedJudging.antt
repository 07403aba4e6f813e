-- How a form of card content management is judged: a command asks for one thing, so the rules on that are the command's.
use Rattle.std.proofs.Common.{◌≡◌, List, [], ◌∷◌, ◌++◌, Option, None, Some, inl, inr, refl, sym, ap, subst, ◌∙◌, arith}
use Rattle.std.specs.Prelude.{Contains, map}
use Rattle.std.proofs.lemmas.List.Elements.{Contains-append_left, Contains-append_right}
use Rattle.card_types.proofs.Members.{contains_cases, contains_map}
use Rattle.policy_machine.specs.Prelude.{Admitted, AskedFails, CommandAsks, IsFirst, IsJudgeable, IsOnAsked, IsOwn, JudgedFails, JudgedForm, ManagementFails, OfEach, OwnFirst, delegation_rules}
use Rattle.policy_machine.specs.declared.management.RuleM.{RuleM}
use Rattle.policy_machine.specs.declared.rule.Rule.{Rule}
use Rattle.policy_machine.specs.declared.rule.Rule.TheVariants.{M, RC, TK}
use Rattle.policy_machine.proofs.FirstJoined.{first_after, first_within}
use Rattle.policy_machine.proofs.FirstUnique.{none_fails}
use Rattle.std.specs.Option.{option_map}

of_each : {R : Type 0} (holds : R → Type 0) (rules : List R) (rule : R) → OfEach holds rules → Contains rules rule → holds rule
of_each holds [] rule each (k, within, is) = absurd (omega arith)
of_each holds (next ∷ rules) rule each there = elim (contains_cases next rules rule there) [
  | inl same ↦ subst holds same each.0
  | inr later ↦ of_each holds rules rule each.1 later
]

-- two rules pass
pub two_pass : {A B : Type 0} → A × B → A × (B × Unit {0})
two_pass both = (both.0, (both.1, tt))

-- the rules on the approval of a delegated command
pub delegation_asked : OfEach IsOnAsked delegation_rules
delegation_asked = (tt, (tt, (tt, (tt, tt))))

-- none of the form's own rules fails for what is asked
abbrev pub OwnPass : (form : JudgedForm) → Admitted → form.Asked → Type 0
OwnPass form admitted asked = (rule : form.own.One) → Contains form.own.order rule → form.own.fails admitted asked rule → ⊥

module _ (form : JudgedForm) (judgeable : IsJudgeable form) (admitted : Admitted) (asked : form.Asked) (asks : CommandAsks form admitted asked) where
  abbrev Fails : Rule → Type 0
  Fails = JudgedFails form admitted

  abbrev FailsHere : Rule → Type 0
  FailsHere = AskedFails form admitted asked

  abbrev own_rules : List Rule
  own_rules = map form.own.group form.own.order

  -- a rule fails of the command exactly where it fails for what is asked
  of_command : (rule : Rule) → IsOnAsked rule → FailsHere rule → Fails rule
  of_command (M rule) on fails = absurd on
  of_command rule on fails = (asked, asks, fails)

  for_asked : (rule : Rule) → IsOnAsked rule → Fails rule → FailsHere rule
  for_asked (M rule) on fails = absurd on
  for_asked rule on fails =
      subst (λ (other : form.Asked). AskedFails form admitted other rule)
      (judgeable.one_asked admitted.command.p1 admitted.command.p2 admitted.command.body fails.0 asked fails.1 asks) fails.2

  -- one of the form's own, where the form says so
  on_asked : (rule : Rule) → IsOwn rule → IsOnAsked rule
  on_asked (M rule) own = own
  on_asked rule own = tt

  fails_as : (rule : Rule) → IsOwn rule → (one : form.own.One) → form.own.group one ≡ rule → form.own.fails admitted asked one → FailsHere rule
  fails_as (TK rule) own one is fails = absurd own
  fails_as (RC rule) own one is fails = absurd own
  fails_as rule own one is fails = (one, is, fails)

  as_fails : (rule : Rule) → IsOwn rule → (one : form.own.One) → form.own.group one ≡ rule → FailsHere rule → form.own.fails admitted asked one
  as_fails (TK rule) own one is fails = absurd own
  as_fails (RC rule) own one is fails = absurd own
  as_fails rule own one is fails = subst (form.own.fails admitted asked) (judgeable.one_rule fails.0 one (fails.1 ∙ sym is)) fails.2

  own_fails : (one : form.own.One) → form.own.fails admitted asked one → Fails (form.own.group one)
  own_fails one fails =
      let own = judgeable.own one in
      of_command (form.own.group one) (on_asked (form.own.group one) own) (fails_as (form.own.group one) own one refl fails)

  fails_own : (one : form.own.One) → Fails (form.own.group one) → form.own.fails admitted asked one
  fails_own one fails =
      let own = judgeable.own one in
      as_fails (form.own.group one) own one refl (for_asked (form.own.group one) (on_asked (form.own.group one) own) fails)

  -- the first of its own, of those on the approval, and of the first rules
  own_first : (rules : List form.own.One) (found : Option form.own.One) → IsFirst (form.own.fails admitted asked) rules found
      → IsFirst Fails (map form.own.group rules) (option_map form.own.group found)
  own_first [] found first = ap (option_map form.own.group) first
  own_first (one ∷ rules) found (inl here) = inl (own_fails one here.0, ap (option_map form.own.group) here.1)
  own_first (one ∷ rules) found (inr later) = inr ((λ fails. later.0 (fails_own one fails)), own_first rules found later.1)

  asked_first : (rules : List Rule) → OfEach IsOnAsked rules → (found : Option Rule) → IsFirst FailsHere rules found → IsFirst Fails rules found
  asked_first [] on found first = first
  asked_first (next ∷ rules) on found (inl here) = inl (of_command next on.0 here.0, here.1)
  asked_first (next ∷ rules) on found (inr later) = inr ((λ fails. later.0 (for_asked next on.0 fails)), asked_first rules on.1 found later.1)

  managed_none : (rules : List RuleM) → OfEach (λ rule. ManagementFails admitted rule → ⊥) rules → IsFirst Fails (map M rules) None
  managed_none [] passes = refl
  managed_none (next ∷ rules) passes = inr (passes.0, managed_none rules passes.1)

  module _ (managed : OfEach (λ rule. ManagementFails admitted rule → ⊥) form.first_rules) where
    -- one of its own rules fails first
    pub own_refuses : (rule : form.own.One) → OwnFirst form admitted asked (Some rule)
        → IsFirst Fails (map M form.first_rules ++ own_rules ++ form.delegation.rules) (Some (form.own.group rule))
    own_refuses rule first =
        first_within Fails form.delegation.rules (map M form.first_rules ++ own_rules) (form.own.group rule)
        (first_after Fails own_rules (map M form.first_rules) (Some (form.own.group rule)) (managed_none form.first_rules managed)
        (own_first form.own.order (Some rule) first))

    -- where none of them fails, the rules on the approval decide
    pub approval_decides : (found : Option Rule) → OwnFirst form admitted asked None → IsFirst FailsHere form.delegation.rules found
        → IsFirst Fails (map M form.first_rules ++ own_rules ++ form.delegation.rules) found
    approval_decides found none first =
        first_after Fails form.delegation.rules (map M form.first_rules ++ own_rules) found
        (first_after Fails own_rules (map M form.first_rules) None (managed_none form.first_rules managed) (own_first form.own.order None none))
        (asked_first form.delegation.rules judgeable.approving found first)

  -- where no rule of the command fails, none of its own does for what is asked, and none on its approval
  module _ (first : IsFirst Fails (map M form.first_rules ++ own_rules ++ form.delegation.rules) None) where
    pub own_pass : OwnPass form admitted asked
    own_pass rule there fails =
        none_fails Fails (map M form.first_rules ++ own_rules ++ form.delegation.rules) (form.own.group rule)
        (Contains-append_left (map M form.first_rules ++ own_rules) form.delegation.rules (form.own.group rule)
        (Contains-append_right (map M form.first_rules) own_rules (form.own.group rule) (contains_map form.own.group form.own.order rule there)))
        first (own_fails rule fails)

    pub approval_passes : (rule : Rule) → Contains form.delegation.rules rule → FailsHere rule → ⊥
    approval_passes rule there fails =
        none_fails Fails (map M form.first_rules ++ own_rules ++ form.delegation.rules) rule
        (Contains-append_right (map M form.first_rules ++ own_rules) form.delegation.rules rule there)
        first (of_command rule (of_each IsOnAsked form.delegation.rules rule judgeable.approving there) fails)
