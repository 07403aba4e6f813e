use Rattle.std.proofs.Common.{◌≡◌, ◌⊎◌, ℕ, List, Option, Err, refl, sym, ap, subst, ◌∙◌}
use Rattle.std.specs.Prelude.{Contains, slice_index_or}
use Rattle.card_core.specs.Prelude.{Admitted, Apdu, IsAsked, IsInSession, IsPassed, IsReady, IsRequestOf, apdu_of, kept_of, managing, pages_after}
use Rattle.card_core.proofs.Acting.{holds_for, low}
use Rattle.card_core.proofs.Carrying.{done_carried, refusal_carried, refused_carried}
use Rattle.card_core.proofs.Passed.{session_kept}
use Rattle.policy_machine.specs.declared.instruction.TheConstants.{GET_DATA}
use Rattle.policy_rules.specs.declared.request.Request.{Request}
use Rattle.policy_slots.specs.declared.live.Place.{Place}
use Rattle.card_core.specs.declared.channel_session.ChannelSession.{ChannelSession}
use Rattle.card_core.specs.declared.channels.Channels.{Channels}
use Rattle.card_core.specs.declared.channel_session.ChannelSession.TheVariants as held
use Rattle.card_core.proofs.serve.act.Goals as goal

-- the command that has passed asks for what its request says
is_asked : (channel : ℕ) (request : Request) (command : Apdu) (place : Option Place) (admitted : Admitted) → IsRequestOf request command → IsPassed channel command place admitted
    → IsAsked channel request place admitted
is_asked channel request command place admitted asks passed = record {
  on = passed.on;
  asks = subst (IsRequestOf request) (sym passed.is) asks;
  goes_on = λ lists. passed.goes_on (asks.form.0 ∙ lists);
}

-- a rule on the form of the command refuses it
pub returns-in-Err-clause-done : goal.returns-in-Err-clause-done
returns-in-Err-clause-done g c = λ page judged whole shows sound passed.
    let card = kept_of c.args.records.now.tables c.args.channels.now in
    let number = c.args.received.now.channel in
    let slot = c.args.received.now.selected in
    let rule = c.in-Err.rule in
    let low = low page card judged shows sound number slot c.requires.ready.channel passed.on c.requires.ready.selected in
    let judges = c.in-Err.ensures.refused judged
    (holds_for page card judged shows sound number slot c.requires.ready.channel passed.on c.requires.ready.selected c.from-at.result c.index-channels-at.result c.from-at.ensures) passed.is in
    refused_carried page c.args.records.now.tables c.args.channels.now c.refuse.new.self judged c.args.reply.now.items rule number passed.on c.refuse.ensures.refused
    (rw c.requires.ready.unwritten (refusal_carried page card judged shows sound low c.args.reply.now.items (Err rule) rule refl judges c.requires.ready.empty))

pub returns-in-Err-clause-kept : goal.returns-in-Err-clause-kept
returns-in-Err-clause-kept g c = λ secured kinds.
    ap (λ (k : Channels). k.sessions) c.refuse.ensures.refused ∙ session_kept c.args.channels.now.sessions c.args.received.now.channel secured

-- any other is done, or refused
pub perform-served-requires-clause-ready : goal.perform-served-requires-clause-ready
perform-served-requires-clause-ready g c =
    subst (λ (ins : ℕ). IsReady ins c.args.records.now c.args.channels.now c.args.received.now c.args.reply.now.items) c.in-Ok.ensures.asks.form.0 c.requires.ready

pub perform-served-requires-clause-formed : goal.perform-served-requires-clause-formed
perform-served-requires-clause-formed g c = (apdu_of c.args.command.now, c.in-Ok.ensures.asks, c.requires.short)

pub returns-in-Err-served-clause-done : goal.returns-in-Err-served-clause-done
returns-in-Err-served-clause-done g c = λ page judged whole shows sound passed.
    let carried = c.in-Err-served.ensures.done page judged whole shows sound (is_asked c.args.received.now.channel c.in-Ok.request (apdu_of c.args.command.now) _ judged c.in-Ok.ensures.asks passed) in
    refused_carried page c.perform-served.new.records.tables c.perform-served.new.channels c.refuse-in-Err-served.new.self judged c.perform-served.new.reply.items c.in-Err-served.rule
    c.args.received.now.channel passed.on c.refuse-in-Err-served.ensures.refused carried

pub returns-in-Err-served-clause-kept : goal.returns-in-Err-served-clause-kept
returns-in-Err-served-clause-kept g c = λ secured kinds.
    let same = c.in-Err-served.ensures.kept (subst (λ (ins : ℕ). (ins ≡ GET_DATA) ⊎ Contains managing ins) c.in-Ok.ensures.asks.form.0 kinds) in
    ap (λ (k : Channels). k.sessions) c.refuse-in-Err-served.ensures.refused
    ∙ session_kept c.perform-served.new.channels.sessions c.args.received.now.channel
    (subst (λ (h : List ChannelSession). IsInSession (slice_index_or h c.args.received.now.channel held.Nothing)) (sym same) secured) ∙ same

pub returns-in_default-clause-done : goal.returns-in_default-clause-done
returns-in_default-clause-done g c = λ page judged whole shows sound passed.
    let carried = c.perform-served.ensures.done page judged whole shows sound (is_asked c.args.received.now.channel c.in-Ok.request (apdu_of c.args.command.now) _ judged c.in-Ok.ensures.asks passed) in
    done_carried (pages_after page c.perform-served.new.channels.loading.writes.items) (kept_of c.perform-served.new.records.tables c.perform-served.new.channels) judged
    c.perform-served.new.reply.items c.perform-served.result c.in_default.not-Err carried
