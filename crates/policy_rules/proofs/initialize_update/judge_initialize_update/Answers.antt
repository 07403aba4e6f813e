use Rattle.std.proofs.Common.{subst, sym, ◌∙◌}
use Rattle.policy_rules.specs.Prelude.{AreKeysOf, domain_aid}
use Rattle.card_types.specs.declared.tables.KeyRec.{KeyRec}
use Rattle.policy_rules.proofs.InitializeUpdateJudging.{has_next, locked_first, none_first, shut_first, spent_first, unset_first}
use Rattle.policy_slots.proofs.KeysByName.{least_in_slot}
use Rattle.policy_rules.proofs.initialize_update.judge_initialize_update.Goals as goal

pub returns-then-entry-clause-refused : goal.returns-then-entry-clause-refused
returns-then-entry-clause-refused c page admitted acts asked =
    let here = rw c.deref.ensures.value at c.in-Some.ensures in
    locked_first page c.args.tables.now admitted acts.says acts.well c.args.domain c.in-Some.entry.now here acts.on c.args.version asked c.if-entry.true

pub returns-then-is_shut_out-clause-refused : goal.returns-then-is_shut_out-clause-refused
returns-then-is_shut_out-clause-refused c page admitted acts asked =
    let here = rw c.deref.ensures.value at c.in-Some.ensures in
    shut_first page c.args.tables.now admitted acts.says acts.well c.args.domain c.in-Some.entry.now here acts.on c.args.version asked c.if-entry.false
    (sym c.is_shut_out.ensures ∙ c.if-is_shut_out.true)

pub returns-in_default-clause-refused : goal.returns-in_default-clause-refused
returns-in_default-clause-refused c page admitted acts asked =
    let none = rw c.deref.ensures.value at c.in_default.ensures in
    (let clash = sym none ∙ acts.at in cc)

pub returns-in_default-session_set-clause-refused : goal.returns-in_default-session_set-clause-refused
returns-in_default-session_set-clause-refused c page admitted acts asked =
    let here = rw c.deref.ensures.value at c.in-Some.ensures in
    unset_first page c.args.tables.now admitted acts.says acts.well c.args.domain c.in-Some.entry.now here acts.on c.args.version asked c.if-entry.false
    (sym c.is_shut_out.ensures ∙ c.if-is_shut_out.false)
    (c.in_default-session_set.ensures.none page admitted.at.registry c.in-Some.entry.now acts.says acts.well here)

pub returns-then-found-eq-COUNTER_LIMIT-clause-refused : goal.returns-then-found-eq-COUNTER_LIMIT-clause-refused
returns-then-found-eq-COUNTER_LIMIT-clause-refused c page admitted acts asked =
    let here = rw c.deref.ensures.value at c.in-Some.ensures in
    spent_first page c.args.tables.now admitted acts.says acts.well c.args.domain c.in-Some.entry.now here acts.on c.args.version asked c.if-entry.false
    (sym c.is_shut_out.ensures ∙ c.if-is_shut_out.false) _ _
    (c.in-Some-session_set.ensures.some page admitted.at.registry c.in-Some.entry.now acts.says acts.well here) c.if-found-eq-COUNTER_LIMIT.true

pub returns-clause-next : goal.returns-clause-next
returns-clause-next c =
    has_next c.args.tables.now c.requires.in_order c.in-Some-session_set.found.slot c.in-Some-session_set.found.thing.now c.in-Some-session_set.ensures.held c.in-Some-session_set.ensures.counts
    c.if-found-eq-COUNTER_LIMIT.false

pub returns-clause-version : goal.returns-clause-version
returns-clause-version c =
    let order = c.requires.in_order in
    rw c.set_with.ensures.enc
    (least_in_slot order.page c.args.tables.now order.said order.says order.well c.in-Some-session_set.found.slot c.in-Some-session_set.found.thing.now
    c.in-Some-session_set.ensures.held)

pub returns-clause-keys : goal.returns-clause-keys
returns-clause-keys c page said says =
    let entries = c.args.tables.now.entries.items in
    subst (λ (key : KeyRec). AreKeysOf entries said (domain_aid entries key.owner) key.version c.set_with.result) (sym c.set_with.ensures.enc)
    (c.set_with.ensures.keys page said says)

pub returns-clause-found : goal.returns-clause-found
returns-clause-found c page said entry says well at = rw c.set_with.ensures.enc (c.in-Some-session_set.ensures.some page said entry says well at)

pub returns-clause-passed : goal.returns-clause-passed
returns-clause-passed c page admitted acts asked =
    let here = rw c.deref.ensures.value at c.in-Some.ensures in
    none_first page c.args.tables.now admitted acts.says acts.well c.args.domain c.in-Some.entry.now here acts.on c.args.version asked c.if-entry.false
    (sym c.is_shut_out.ensures ∙ c.if-is_shut_out.false) _ _
    (c.in-Some-session_set.ensures.some page admitted.at.registry c.in-Some.entry.now acts.says acts.well here) c.if-found-eq-COUNTER_LIMIT.false
