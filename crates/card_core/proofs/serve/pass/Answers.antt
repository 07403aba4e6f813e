use Rattle.std.proofs.Common.{◌∙◌, ap, false, subst, sym, true}
use Rattle.card_core.specs.Prelude.{IsTerminatedFor, apdu_of}
use Rattle.card_types.specs.declared.card_life.CardLife.{CardLife}
use Rattle.policy_slots.specs.declared.live.Live.{Live}
use Rattle.card_core.proofs.Coming.{handed_on, managed_barred, opened_passed, over_barred, plain_passed, unopened_barred}
use Rattle.card_core.proofs.Passed.{protects_so, selected_same}
use Rattle.card_core.proofs.Serving.{is_managed, not_managed, unprotected_unmanaged}
use Rattle.card_core.proofs.serve.pass.Goals as goal

-- the card is terminated
pub returns-in_err-check_class-clause-refused : goal.returns-in_err-check_class-clause-refused
returns-in_err-check_class-clause-refused c page card state bytes come life =
    let received = c.args.received.now in
    let over = c.in_err-check_class.ensures.over in
    handed_on c.from_residual.result c.in_err-check_class.field-0.0 _ c.from_residual.ensures.1
    (over_barred page card state bytes received c.args.live.now c.args.held.now come c.requires.known c.requires.class c.check_class.new.held c.in_err-check_class.ensures.lost
    c.in_err-check_class.field-0.0 over.0 (subst (λ (l : CardLife). IsTerminatedFor l received.class received.command.ins) (sym life) over.1))

-- card content management in plain
pub returns-then-is_plain_management-clause-refused : goal.returns-then-is_plain_management-clause-refused
returns-then-is_plain_management-clause-refused c page card state bytes come life =
    let received = c.args.received.now in
    managed_barred page card state bytes received c.args.live.now c.args.held.now come c.requires.known c.requires.class c.check_class.new.held c.in_ok-check_class.ensures.kept
    (subst (λ (l : CardLife). IsTerminatedFor l received.class received.command.ins → ⊥) (sym life) c.in_ok-check_class.ensures.ok)
    (is_managed (apdu_of received.command) received.class c.is_plain_management.result c.requires.class c.is_plain_management.ensures c.if-is_plain_management.true)
    c.end.new.self c.end.ensures c.end_load.new.self c.end_load.ensures

-- any other command in plain
pub returns-then-not-is_protected-clause-passed : goal.returns-then-not-is_protected-clause-passed
returns-then-not-is_protected-clause-passed c page card state bytes come life =
    let received = c.args.received.now in
    plain_passed page card state bytes received c.args.live.now c.args.held.now come c.requires.known c.requires.class c.check_class.new.held c.in_ok-check_class.ensures.kept
    (subst (λ (l : CardLife). IsTerminatedFor l received.class received.command.ins → ⊥) (sym life) c.in_ok-check_class.ensures.ok)
    (protects_so (apdu_of received.command) received.class c.is_protected.result false c.requires.class c.is_protected.ensures c.if-not-is_protected.true)
    (not_managed (apdu_of received.command) received.class c.is_plain_management.result c.requires.class c.is_plain_management.ensures c.if-is_plain_management.false)
    c.pass_session.new.live c.pass_session.ensures c.args.plain.now

pub returns-then-not-is_protected-clause-managed : goal.returns-then-not-is_protected-clause-managed
returns-then-not-is_protected-clause-managed c = λ managed.
    let received = c.args.received.now in
    absurd (unprotected_unmanaged (apdu_of received.command) c.requires.known
    (not_managed (apdu_of received.command) received.class c.is_plain_management.result c.requires.class c.is_plain_management.ensures c.if-is_plain_management.false)
    (protects_so (apdu_of received.command) received.class c.is_protected.result false c.requires.class c.is_protected.ensures c.if-not-is_protected.true) managed)

pub returns-then-not-is_protected-clause-selected : goal.returns-then-not-is_protected-clause-selected
returns-then-not-is_protected-clause-selected c =
    ap (λ (l : Live). l.selected) c.pass_session.ensures ∙ selected_same c.args.received.now.command.ins c.args.received.now.channel c.args.live.now

-- a protected command that opens
pub returns-in-Ok-clause-passed : goal.returns-in-Ok-clause-passed
returns-in-Ok-clause-passed c page card state bytes come life =
    let received = c.args.received.now in
    opened_passed page card state bytes received c.args.live.now c.args.held.now come c.requires.known c.requires.class c.check_class.new.held c.in_ok-check_class.ensures.kept
    (subst (λ (l : CardLife). IsTerminatedFor l received.class received.command.ins → ⊥) (sym life) c.in_ok-check_class.ensures.ok)
    (protects_so (apdu_of received.command) received.class c.is_protected.result true c.requires.class c.is_protected.ensures c.if-not-is_protected.false)
    c.open_command.new.held c.open_command.new.plain c.in-Ok.count c.in-Ok.ensures.opens c.pass_session-in-Ok.new.live c.pass_session-in-Ok.ensures

pub returns-in-Ok-clause-secured : goal.returns-in-Ok-clause-secured
returns-in-Ok-clause-secured c =
    let received = c.args.received.now in (
      c.in-Ok.ensures.secured,
      protects_so (apdu_of received.command) received.class c.is_protected.result true c.requires.class c.is_protected.ensures c.if-not-is_protected.false,
    )

pub returns-in-Ok-clause-selected : goal.returns-in-Ok-clause-selected
returns-in-Ok-clause-selected c =
    ap (λ (l : Live). l.selected) c.pass_session-in-Ok.ensures ∙ selected_same c.args.received.now.command.ins c.args.received.now.channel c.args.live.now

-- one that a rule on secure messaging refuses
pub returns-in-Err-clause-refused : goal.returns-in-Err-clause-refused
returns-in-Err-clause-refused c page card state bytes come life =
    let received = c.args.received.now in
    unopened_barred page card state bytes received c.args.live.now c.args.held.now come c.requires.known c.requires.class c.check_class.new.held c.in_ok-check_class.ensures.kept
    (subst (λ (l : CardLife). IsTerminatedFor l received.class received.command.ins → ⊥) (sym life) c.in_ok-check_class.ensures.ok)
    (protects_so (apdu_of received.command) received.class c.is_protected.result true c.requires.class c.is_protected.ensures c.if-not-is_protected.false)
    c.open_command.new.held c.open_command.new.plain c.in-Err.rule c.in-Err.ensures.opens c.end_load-in-Err.new.self c.end_load-in-Err.ensures
