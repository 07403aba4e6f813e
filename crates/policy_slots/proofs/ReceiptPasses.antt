-- When the rule on the receipt passes, by the slot of the receipter.
use Rattle.std.proofs.Common.{◌≡◌, ◌≢◌, List, Option, None, Some, ℕ, refl, ap, subst, ◌∙◌}
use Rattle.std.specs.Prelude.{MatchOption}
use Rattle.policy_slots.specs.Prelude.{ActsIn, Admitted, Entry, FindsReceipter, ReceiptFails, acting, domain_aid, entry_named, key_of, thing_in}
use Rattle.card_types.specs.declared.limits.TheConstants.{RECEIPT_LIMIT}
use Rattle.card_types.specs.declared.tables.Entry.{Entry as Slot}
use Rattle.card_types.specs.declared.tables.Tables.{Tables}
use Rattle.policy_machine.specs.declared.delegation.RuleRC.TheVariants.{RC1}
use Rattle.policy_machine.proofs.Approved.{one_holder}
use Rattle.policy_slots.proofs.NearestHolder.{slot_named}

-- a receipter that may make another receipt, or none, is no reason to refuse
pub receipt_passes : (page : ℕ → List ℕ) (tables : Tables) (domain : ℕ) (admitted : Admitted) → ActsIn page tables domain admitted → (found : Option ℕ)
    → FindsReceipter tables admitted found → ReceiptFails admitted RC1 → ⊥
receipt_passes page tables domain admitted acts None none fails = none fails.0 fails.2.above.above fails.2.above.fitting
receipt_passes page tables domain admitted acts (Some slot) is fails = by (thing_in tables.entries.items slot) refl is.below
  where
    by : (o : Option Slot) → thing_in tables.entries.items slot ≡ o → MatchOption o ⊥ (λ entry. entry.receipts ≢ RECEIPT_LIMIT) → ⊥
    by None at below = below
    by (Some entry) at below =
        let same = one_holder admitted.at.registry _ _ (acting admitted) fails.0 (domain_aid tables.entries.items slot) fails.1 (key_of tables.entries.items is.key) fails.2 is.is in
        let named = ap (entry_named admitted.at.registry) same.0 ∙ slot_named page tables admitted.at.registry acts.says slot entry at in
        below (subst (λ (o : Option Entry). MatchOption o ⊥ (λ e. e.receipts ≡ RECEIPT_LIMIT)) named fails.3)
