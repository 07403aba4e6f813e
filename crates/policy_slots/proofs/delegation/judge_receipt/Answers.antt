use Rattle.std.proofs.Common.{rules, ◌≡◌, ◌≢◌, Option, Some, sym, subst}
use Rattle.std.specs.Prelude.{MatchOption}
use Rattle.card_types.specs.Registry as registry
use Rattle.card_types.specs.Represents.{domain_aid, key_of, thing_in}
use Rattle.card_types.specs.declared.limits.TheConstants.{RECEIPT_LIMIT}
use Rattle.card_types.specs.declared.tables.Entry.{Entry}
use Rattle.policy_slots.proofs.NearestHolder.{slot_named}
use Rattle.policy_slots.proofs.delegation.judge_receipt.Goals as goal
use Rattle.policy_slots.proofs.delegation.judge_receipt.Goals.{After-unwrap-entry}

-- the confirmer's entry in its slot
entry_held : (c : After-unwrap-entry) → thing_in c.args.tables.now.entries.items c.in-Some.slot ≡ Some c.unwrap-entry.result.now
entry_held c =
    (let there : thing_in c.deref.result.now c.in-Some.slot ≡ Some c.unwrap-entry.result.now = search rules in
    rw c.deref.ensures.value at there)

pub returns-then-entry-clause-refused : goal.returns-then-entry-clause-refused
returns-then-entry-clause-refused c page admitted acts =
    let tables = c.args.tables.now in
    let slot = c.in-Some.slot in
    let at = entry_held (goal.at.returns-then-entry-clause-refused c).After-unwrap-entry in
    let named = slot_named page tables admitted.at.registry acts.says slot c.unwrap-entry.result.now at in (
      domain_aid tables.entries.items slot,
      key_of tables.entries.items c.in-Some.field-0-1.now,
      c.in-Some.ensures.some page admitted acts,
      subst (λ (o : Option registry.Entry). MatchOption o ⊥ (λ e. e.receipts ≡ RECEIPT_LIMIT)) (sym named) c.if-entry.true,
    )

pub returns-clause-found : goal.returns-clause-found
returns-clause-found c page admitted acts =
    let at = entry_held (goal.at.returns-clause-found c).After-unwrap-entry in
    record {
      key = c.in-Some.field-0-1.now;
      is = c.in-Some.ensures.some page admitted acts;
      below = subst (λ (o : Option Entry). MatchOption o ⊥ (λ e. e.receipts ≢ RECEIPT_LIMIT)) (sym at) c.if-entry.false;
    }

pub returns-clause-able : goal.returns-clause-able
returns-clause-able c =
    let at = entry_held (goal.at.returns-clause-able c).After-unwrap-entry in
    record {
      below = subst (λ (o : Option Entry). MatchOption o ⊥ (λ e. e.receipts ≢ RECEIPT_LIMIT)) (sym at) c.if-entry.false;
      key = c.in-Some.ensures.key;
    }
