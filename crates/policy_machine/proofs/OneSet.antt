-- A domain uses one key set of one owner.
use Rattle.std.proofs.Common.{◌≡◌, ℕ, List, sym, ap, ◌∙◌}
use Rattle.std.specs.Prelude.{find}
use Rattle.card_types.proofs.Lines.{one_line}
use Rattle.policy_machine.specs.KeySets.{OwnsSets, UsesCounter, has_set, lowest_counter}
use Rattle.policy_machine.proofs.Lawful.{some_same}
use Rattle.card_types.specs.Registry as registry

pub owner_one : (said : registry.Registry) (domain a b : List ℕ) → OwnsSets said domain a → OwnsSets said domain b → a ≡ b
owner_one said domain a b one other =
    let lines = one_line (registry.domain_of said) domain one.line other.line one.is_line other.is_line in
    some_same a b (sym one.first ∙ ap (find (has_set said)) lines ∙ other.first)

pub counter_one : (said : registry.Registry) (domain : List ℕ) (a b : registry.Counter) → UsesCounter said domain a → UsesCounter said domain b → a ≡ b
counter_one said domain a b one other =
    let owners = owner_one said domain one.0 other.0 one.1 other.1 in
    some_same a b (sym one.2 ∙ ap (lowest_counter said) owners ∙ other.2)
