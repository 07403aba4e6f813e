use Rattle.card_types.specs.Represents.{domain_aid}
use Rattle.policy_rules.proofs.DataFound.{counter_data, counter_tag, keys_tag, object_tag, no_counter_data, no_keys, no_object_data, object_data}
use Rattle.policy_rules.proofs.get_data.find_datum.Goals as goal

pub returns-in_err-next_key-clause-none : goal.returns-in_err-next_key-clause-none
returns-in_err-next_key-clause-none c page said entry says well at =
    let none = rw c.deref.ensures.value at c.in_err-next_key.ensures.none in
    rw c.from_residual.ensures (no_keys page c.args.tables.now said says well c.args.domain entry at c.args.tag c.if-tag-eq-KEY_INFORMATION.true none)

pub returns-in_err-session_set-clause-none : goal.returns-in_err-session_set-clause-none
returns-in_err-session_set-clause-none c page said entry says well at =
    let none = c.in_err-session_set.ensures.none page said entry says well at in
    rw c.from_residual-in_err-session_set.ensures
    (no_counter_data page c.args.tables.now said says well c.args.domain entry at c.args.tag c.if-tag-eq-SEQUENCE_COUNTER.true
    (λ counter uses. none uses.0 counter (uses.1, uses.2)))

pub returns-in_err-least-clause-none : goal.returns-in_err-least-clause-none
returns-in_err-least-clause-none c page said entry says well at =
    let none = rw c.deref-2.ensures.value at c.in_err-least.ensures.none in
    rw c.from_residual-in_err-least.ensures
    (no_object_data page c.args.tables.now said says well c.args.domain entry at c.args.tag c.if-tag-eq-KEY_INFORMATION.false c.if-tag-eq-SEQUENCE_COUNTER.false none)

pub returns-then-tag-eq-SEQUENCE_COUNTER-clause-some : goal.returns-then-tag-eq-SEQUENCE_COUNTER-clause-some
returns-then-tag-eq-SEQUENCE_COUNTER-clause-some c page said entry says well at =
    let uses = c.in_ok-session_set.ensures.some page said entry says well at in
    let key = c.in_ok-session_set.field-0.thing.now in
    let found = counter_data page c.args.tables.now said says well c.args.domain entry at key (domain_aid c.args.tables.now.entries.items key.owner, uses.0, uses.1) in
    (c.if-tag-eq-SEQUENCE_COUNTER.true, found.0, found.1)

pub returns-clause-some : goal.returns-clause-some
returns-clause-some c page said entry says well at =
    let least = rw c.deref-2.ensures.value at c.in_ok-least.ensures.some in
    let found = object_data page c.args.tables.now said says well c.args.domain entry at c.args.tag c.in_ok-least.field-0.slot
    c.in_ok-least.field-0.thing.now least.at least.fitting in
    (c.if-tag-eq-KEY_INFORMATION.false, c.if-tag-eq-SEQUENCE_COUNTER.false, found.0, found.1, found.2)

pub returns-then-tag-eq-KEY_INFORMATION-clause-tagged : goal.returns-then-tag-eq-KEY_INFORMATION-clause-tagged
returns-then-tag-eq-KEY_INFORMATION-clause-tagged c = keys_tag c.args.tag c.if-tag-eq-KEY_INFORMATION.true

pub returns-then-tag-eq-SEQUENCE_COUNTER-clause-tagged : goal.returns-then-tag-eq-SEQUENCE_COUNTER-clause-tagged
returns-then-tag-eq-SEQUENCE_COUNTER-clause-tagged c = counter_tag c.args.tag c.if-tag-eq-SEQUENCE_COUNTER.true

pub returns-clause-tagged : goal.returns-clause-tagged
returns-clause-tagged c =
    let order = c.requires.in_order in
    let least = rw c.deref-2.ensures.value at c.in_ok-least.ensures.some in
    object_tag order.page c.args.tables.now order.said order.says order.well c.args.domain c.args.tag c.in_ok-least.field-0.slot
    c.in_ok-least.field-0.thing.now least.at least.fitting
