-- What forms of card content management share: their rules fail of both of two commands that are alike, or of neither.
use Rattle.policy_machine.specs.Prelude.{AskedFails, CommandAsks, Holds, JudgedFails, JudgedForm, delegated_management}
use Rattle.policy_machine.specs.declared.rule.Rule.{Rule}
use Rattle.policy_machine.specs.declared.rule.Rule.TheVariants.{M, RC, TK}
use Rattle.policy_machine.proofs.Alike.{IsAlike, LooksAtSeen, by_seen, management_alike, receipt_alike, token_alike, unchanged}

-- The rules of such a form do so where both commands are delegated or neither, and where the rules of the form's own do so
-- for each thing that is asked.
module _ (form : JudgedForm) (delegated : IsAlike form.delegation.is_delegated)
    (own : (asked : form.Asked) (rule : form.own.One) → IsAlike (λ x. form.own.fails x asked rule)) where
  asked_alike : (asked : form.Asked) (rule : Rule) → IsAlike (λ x. AskedFails form x asked rule)
  asked_alike asked (TK rule) a b alike fails = (delegated a b alike fails.0, token_alike (form.delegation.approval asked) rule a b alike fails.1)
  asked_alike asked (RC rule) a b alike fails = (delegated a b alike fails.0, receipt_alike rule a b alike fails.1)
  asked_alike asked rule a b alike fails = (fails.0, fails.1, own asked fails.0 a b alike fails.2)

  asks_alike : (asked : form.Asked) → IsAlike (λ x. CommandAsks form x asked)
  asks_alike asked = by_seen (λ x. CommandAsks form x asked) (λ x. unchanged)

  pub judged_alike : (rule : Rule) → IsAlike (λ x. JudgedFails form x rule)
  judged_alike (M rule) a b alike fails = management_alike rule a b alike fails
  judged_alike rule a b alike fails = (fails.0, asks_alike fails.0 a b alike fails.1, asked_alike fails.0 rule a b alike fails.2)

-- also where the rules of the form's own look at what is seen alone
pub looking_alike : (form : JudgedForm) → IsAlike form.delegation.is_delegated
    → ((asked : form.Asked) (rule : form.own.One) → LooksAtSeen (λ x. form.own.fails x asked rule)) → (rule : Rule) → IsAlike (λ x. JudgedFails form x rule)
looking_alike form delegated looks = judged_alike form delegated (λ asked rule. by_seen (λ x. form.own.fails x asked rule) (looks asked rule))

-- commands of domains with Delegated Management are delegated, or none is
pub held_alike : IsAlike (λ x. Holds x delegated_management)
held_alike = by_seen (λ x. Holds x delegated_management) (λ x. unchanged)

pub nobody_alike : IsAlike (λ x. ⊥)
nobody_alike a b alike is = is
