use Rattle.std.proofs.Common.{sym, ◌∙◌}
use Rattle.apdu_core.specs.Apdu.{apdu_of}
use Rattle.card_core.proofs.Admitting.{all_passed, for_no_application, no_channel, no_class, unknown}
use Rattle.card_core.proofs.admit.admit.Goals as goal

pub returns-in_default-of-clause-refused : goal.returns-in_default-of-clause-refused
returns-in_default-of-clause-refused c page state says =
    no_class page c.args.tables.now c.args.live.now state c.args.bytes.now (apdu_of c.in-Ok.command) says c.in-Ok.ensures.ok (sym c.of.ensures ∙ c.in_default-of.is)

pub returns-in_default-selected-clause-refused : goal.returns-in_default-selected-clause-refused
returns-in_default-selected-clause-refused c page state says =
    no_channel page c.args.tables.now c.args.live.now state c.args.bytes.now (apdu_of c.in-Ok.command) says c.in-Ok.ensures.ok
    c.in-Some.class (sym c.of.ensures ∙ c.in-Some.is)
    (rw (c.from.ensures, c.channel_of-channel.ensures) at c.in_default-selected.is)

pub returns-then-not-has-clause-refused : goal.returns-then-not-has-clause-refused
returns-then-not-has-clause-refused c page state says =
    let is = sym c.of.ensures ∙ c.in-Some.is in
    unknown page c.args.tables.now c.args.live.now state c.args.bytes.now (apdu_of c.in-Ok.command) says c.in-Ok.ensures.ok
    c.in-Some.class is
    c.in-Some-selected.selected (rw (c.from.ensures, c.channel_of-channel.ensures) at c.in-Some-selected.is)
    (λ known. (let has = c.has.ensures.1 (rw is at known) in let none = c.if-not-has.true in cc))

pub returns-then-is_not_for-clause-refused : goal.returns-then-is_not_for-clause-refused
returns-then-is_not_for-clause-refused c page state says =
    let is = sym c.of.ensures ∙ c.in-Some.is in
    for_no_application page c.args.tables.now c.args.live.now state c.args.bytes.now (apdu_of c.in-Ok.command) says c.in-Ok.ensures.ok
    c.in-Some.class is
    c.in-Some-selected.selected (rw (c.from.ensures, c.channel_of-channel.ensures) at c.in-Some-selected.is)
    (c.is_not_for.ensures.0 c.if-is_not_for.true)

pub returns-clause-passed : goal.returns-clause-passed
returns-clause-passed c page state says =
    let is = sym c.of.ensures ∙ c.in-Some.is in
    all_passed page c.args.tables.now c.args.live.now state c.args.bytes.now (apdu_of c.in-Ok.command) says c.in-Ok.ensures.ok
    c.in-Some.class is
    c.in-Some-selected.selected (rw (c.from.ensures, c.channel_of-channel.ensures) at c.in-Some-selected.is)
    (rw is (c.has.ensures.0 c.if-not-has.false))
    (λ fails. (let for = c.is_not_for.ensures.1 fails in let none = c.if-is_not_for.false in cc))
