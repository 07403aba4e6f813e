use Rattle.std.proofs.Common.{◌≡◌, true, rules, inl, inr}
use Rattle.policy_machine.specs.Select.{is_card_locked}
use Rattle.policy_slots.proofs.ActingDomain.{closed_fails}
use Rattle.policy_slots.proofs.HoldsTold.{not_told}
use Rattle.policy_slots.proofs.management.is_closed.Goals as goal

pub returns-else-not-card : goal.returns-else-not-card
returns-else-not-card c page admitted acts told =
    let locked : is_card_locked c.args.tables.now.life ≡ true = search rules in
    let card : c.args.card ≡ true = search rules in
    let other = not_told c.is_issuer_in.result (c.is_issuer_in.ensures page admitted acts) in (
      λ so. closed_fails page c.args.tables.now c.args.domain admitted acts locked (inr (other.0 so)),
      λ fails. elim fails.1 [
        | inl of_entry ↦ absurd (of_entry (told.0 card))
        | inr another ↦ other.1 another
      ],
    )
