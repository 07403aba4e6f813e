-- For the code inside. The rules of PUT KEY in two parts: those that need none of its keys, and those after them.
use Rattle.std.specs.Prelude.{List, [], ◌∷◌}
use Rattle.policy_machine.specs.declared.management.RuleM.TheVariants.{M1, M2}
use Rattle.policy_machine.specs.declared.put_key.RulePK.TheVariants.{PK1, PK2, PK3, PK4}
use Rattle.policy_machine.specs.declared.rule.Rule.{Rule}
use Rattle.policy_machine.specs.declared.rule.Rule.TheVariants.{M, PK}

abbrev pub version_rules : List Rule
version_rules = M M1 ∷ M M2 ∷ PK PK1 ∷ PK PK2 ∷ []

abbrev pub key_rules : List Rule
key_rules = PK PK3 ∷ PK PK4 ∷ []
