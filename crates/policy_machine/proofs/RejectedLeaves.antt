-- What is so of the channel of a command that the checks of class, channel and instruction let pass, and a general rule after them rejects.
use Rattle.std.proofs.Common.{◌≡◌, ℕ, List, false, true, inl, inr, sym, subst}
use Rattle.std.proofs.lemmas.Bool.{false≢true}
use Rattle.policy_machine.specs.Prelude.{Apdu, GeneralFails, GeneralRefusalLeaves, IsPlainManagement, IsRejected, Of, Outcome, Short, State, Volatile, channel_of, class_passed, general_rules, is_later, without_place, without_session}
use Rattle.policy_machine.specs.declared.rule.Rule.TheVariants.{G}
use Rattle.policy_machine.specs.declared.rule.RuleG.{RuleG}
use Rattle.policy_machine.specs.declared.rule.RuleG.TheVariants.{G5, G6, G7, G8}
use Rattle.policy_machine.proofs.FirstUnique.{first_fails}

-- where it is so of the channel once its offer is dropped, once its session has ended, and where there is none to end
module _ (has : Volatile → ℕ → Type 0) (state : State) (bytes : List ℕ) (dropped : (number : ℕ) → has (without_place state.volatile number false) number)
    (ended : (command : Apdu) → has (without_session (class_passed state.volatile command) (channel_of command.class)) (channel_of command.class))
    (stays : (command : Apdu) → Short command bytes → GeneralFails state bytes G6 → (IsPlainManagement command → ⊥)
    → has (class_passed state.volatile command) (channel_of command.class)) where
  left_as : (command : Apdu) → Short command bytes → (left at : Volatile) → left ≡ at → has at (channel_of command.class)
      → Of bytes (λ command. has left (channel_of command.class))
  left_as command short left at is so = (command, short, subst (λ (v : Volatile). has v (channel_of command.class)) (sym is) so)

  leaves_so : (rule : RuleG) (left : Volatile) → is_later (G rule) ≡ true → GeneralFails state bytes rule → GeneralRefusalLeaves state bytes rule left
      → Of bytes (λ command. has left (channel_of command.class))
  leaves_so G5 left later fails (command, short, is) = left_as command short left _ is (dropped (channel_of command.class))
  leaves_so G6 left later fails (command, short, inl ends) = left_as command short left _ ends.1 (ended command)
  leaves_so G6 left later fails (command, short, inr other) = left_as command short left _ other.1 (stays command short fails other.0)
  leaves_so G7 left later fails (command, short, is) = left_as command short left _ is (ended command)
  leaves_so G8 left later fails (command, short, is) = left_as command short left _ is (ended command)
  leaves_so _ left later fails leaves = absurd (false≢true later)

  pub rejected_leaves : (outcome : Outcome) (rejected : IsRejected state bytes outcome) → is_later (G rejected.rule) ≡ true
      → Of bytes (λ command. has outcome.state.volatile (channel_of command.class))
  rejected_leaves outcome rejected later =
      subst (λ (o : Outcome). Of bytes (λ command. has o.state.volatile (channel_of command.class))) (sym rejected.outcome_is)
      (leaves_so rejected.rule rejected.left later (first_fails (GeneralFails state bytes) general_rules rejected.rule rejected.first) rejected.leaves)
