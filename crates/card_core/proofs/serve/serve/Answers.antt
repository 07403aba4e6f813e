use Rattle.std.proofs.Common.{◌∙◌, ◌<◌, ℕ, List, ap, inl, inr, refl, subst, sym}
use Rattle.std.specs.Prelude.{slice_index_or, slice_set}
use Rattle.std.proofs.lemmas.List.{set-get_or}
use Rattle.apdu_core.proofs.Octets.{length-body}
use Rattle.card_core.specs.Prelude.{Apdu, IsInSession, RepresentsState, Serves, apdu_of, kept_of, pages_after}
use Rattle.policy_machine.proofs.Passing.{channel_is_low}
use Rattle.policy_machine.specs.declared.channels.TheConstants.{CHANNELS}
use Rattle.card_core.proofs.Coming.{closed_over, has_come, opened_still, shown, still_opened, still_secured, written_on}
use Rattle.card_core.proofs.Serving.{rejected}
use Rattle.card_core.specs.declared.channel_session.ChannelSession.{ChannelSession}
use Rattle.card_core.proofs.serve.serve.Goals as goal

-- a rule on class, channel or instruction refuses the bytes
pub returns-in-Err-clause-served : goal.returns-in-Err-clause-served
returns-in-Err-clause-served g c = λ page state whole shows sound.
    rw (c.close_plain.ensures.rule, c.requires.unwritten) (
    rejected page (kept_of c.args.records.now.tables c.args.channels.now) state c.args.bytes.now c.close_plain.new.reply.items c.in-Err.rule
    state.volatile sound (c.in-Err.ensures.refused page state (subst (λ t. RepresentsState page t c.args.channels.now.live state) (sym c.tables.ensures.tables) shows.says))
    (c.in-Err.ensures.leaves state) shows (c.close_plain.ensures.closed ∙ rw c.requires.empty refl))

-- one on the life cycle state of the card or on secure messaging does
pub returns-in-Err-pass-clause-served : goal.returns-in-Err-pass-clause-served
returns-in-Err-pass-clause-served g c = λ page state whole shows sound.
    let received = c.in-Ok.received in
    let come = has_come page (kept_of c.args.records.now.tables c.args.channels.now) state c.args.bytes.now received c.take_place-place.new.live c.from-at.result c.index-channels-at.result shows sound
    (c.in-Ok.ensures.passed page state (subst (λ t. RepresentsState page t c.args.channels.now.live state) (sym c.tables.ensures.tables) shows.says)) c.in-Ok.ensures.spelled c.in-Ok.ensures.channel
    c.in-Ok.ensures.selected c.take_place-place.ensures.forgotten c.from-at.ensures in
    rw (c.close_plain-in-Err-pass.ensures.rule, c.requires.unwritten, c.from-at.ensures)
    (c.in-Err-pass.ensures.refused page (kept_of c.args.records.now.tables c.args.channels.now) state c.args.bytes.now come (ap (λ t. t.life) (sym c.tables-2.ensures.tables))
    c.close_plain-in-Err-pass.new.reply.items (c.close_plain-in-Err-pass.ensures.closed ∙ rw c.requires.empty refl))

-- a command that has passed
pub pass-requires-clause-short : goal.pass-requires-clause-short
pass-requires-clause-short g c = length-body (apdu_of c.in-Ok.received.command) c.args.bytes.now c.in-Ok.ensures.spelled

pub plain_body-requires-clause-short : goal.plain_body-requires-clause-short
plain_body-requires-clause-short g c = length-body (apdu_of c.in-Ok.received.command) c.args.bytes.now c.in-Ok.ensures.spelled

pub act-served-requires-clause-ready : goal.act-served-requires-clause-ready
act-served-requires-clause-ready g c =
    let low = subst (λ (n : ℕ). n < CHANNELS) (sym c.in-Ok.ensures.channel) (channel_is_low c.in-Ok.received.command.class) in
    let there = written_on c.args.channels.now.sessions c.from-at.result c.in-Ok.received.channel c.pass.new.held c.requires.some.shows.four low c.from-at.ensures in
    record {
      live = c.requires.live;
      clean = c.requires.clean;
      cards = c.requires.cards;
      channel = low;
      selected = rw c.in-Ok-pass.ensures.selected (rw c.take_place-place.ensures.forgotten c.in-Ok.ensures.selected);
      domain = rw c.tables.ensures.tables at c.in-Ok.ensures.domain;
      secured = λ managed. subst IsInSession (sym there) (c.in-Ok-pass.ensures.managed managed);
      unwritten = c.requires.unwritten;
      empty = c.requires.empty;
    }

pub act-served-requires-clause-some : goal.act-served-requires-clause-some
act-served-requires-clause-some g c =
    let some = c.requires.some in
    let page = some.page in
    let state = some.state in
    let shows = some.shows in
    let sound = some.sound in
    let card = kept_of c.args.records.now.tables c.args.channels.now in
    let received = c.in-Ok.received in
    let come = has_come page (kept_of c.args.records.now.tables c.args.channels.now) state c.args.bytes.now received c.take_place-place.new.live c.from-at.result c.index-channels-at.result shows sound
    (c.in-Ok.ensures.passed page state (subst (λ t. RepresentsState page t c.args.channels.now.live state) (sym c.tables.ensures.tables) shows.says)) c.in-Ok.ensures.spelled c.in-Ok.ensures.channel
    c.in-Ok.ensures.selected c.take_place-place.ensures.forgotten c.from-at.ensures in
    let passes = c.in-Ok-pass.ensures.passed page card state c.args.bytes.now come (ap (λ t. t.life) (sym c.tables-2.ensures.tables)) in
    record {
      page = page;
      whole = some.whole;
      state = _;
      shows = shown page card state c.args.bytes.now received c.take_place-place.new.live _ come c.pass.new.live c.pass.new.held c.in-Ok-pass.opened c.pass.new.plain passes
          c.from-at.result c.from-at.ensures;
      sound = passes.sound;
    }

pub close-requires-clause-secured : goal.close-requires-clause-secured
close-requires-clause-secured g c =
    let low = subst (λ (n : ℕ). n < CHANNELS) (sym c.in-Ok.ensures.channel) (channel_is_low c.in-Ok.received.command.class) in
    still_secured c.in-Ok-pass.opened c.pass.new.held _ _
    (opened_still c.in-Ok-pass.opened (apdu_of c.in-Ok.received.command) c.args.channels.now.sessions c.act-served.new.channels.sessions c.from-at.result c.in-Ok.received.channel c.pass.new.held _ c.in-Ok.ensures.known
    c.in-Ok-pass.ensures.secured c.requires.some.shows.four low c.from-at.ensures c.act-served.ensures.kept) c.in-Ok-pass.ensures.secured

pub returns-clause-served : goal.returns-clause-served
returns-clause-served g c = λ page state whole shows sound.
    let card = kept_of c.args.records.now.tables c.args.channels.now in
    let received = c.in-Ok.received in
    let come = has_come page (kept_of c.args.records.now.tables c.args.channels.now) state c.args.bytes.now received c.take_place-place.new.live c.from-at.result c.index-channels-at.result shows sound
    (c.in-Ok.ensures.passed page state (subst (λ t. RepresentsState page t c.args.channels.now.live state) (sym c.tables.ensures.tables) shows.says)) c.in-Ok.ensures.spelled c.in-Ok.ensures.channel
    c.in-Ok.ensures.selected c.take_place-place.ensures.forgotten c.from-at.ensures in
    let passes = c.in-Ok-pass.ensures.passed page card state c.args.bytes.now come (ap (λ t. t.life) (sym c.tables-2.ensures.tables)) in
    let low = subst (λ (n : ℕ). n < CHANNELS) (sym c.in-Ok.ensures.channel) (channel_is_low received.command.class) in
    let after = c.act-served.new.channels in
    let there = c.index-channels-at-2.result in
    let still = opened_still c.in-Ok-pass.opened (apdu_of received.command) c.args.channels.now.sessions after.sessions c.from-at.result received.channel c.pass.new.held there
    c.in-Ok.ensures.known c.in-Ok-pass.ensures.secured c.requires.some.shows.four low c.from-at.ensures c.act-served.ensures.kept in
    let same = ap (slice_set after.sessions c.from-at.result) c.close.ensures.same ∙ set-get_or after.sessions c.from-at.result there in
    let left = kept_of c.act-served.new.records.tables after in
    subst (λ (h : List ChannelSession). Serves (pages_after page after.loading.writes.items) state c.args.bytes.now
    (record { tables = left.tables; live = left.live; sessions = h; load = left.load }) c.close.new.reply.items c.close.result) (sym same)
    (rw c.close.ensures.rule (closed_over page card state c.args.bytes.now received c.take_place-place.new.live _ come c.pass.new.live c.pass.new.held c.in-Ok-pass.opened c.pass.new.plain passes
    c.from-at.result c.from-at.ensures whole c.plain_body.result.now c.plain_body.ensures.plain _ (λ ins. c.take_place-place.ensures.place ins)
    left after.loading.writes.items c.act-served.new.reply.items c.close.new.reply.items c.act-served.result c.act-served.ensures.done
    (λ session opened. c.close.ensures.closed session (still_opened c.in-Ok-pass.opened c.pass.new.held (slice_index_or after.sessions c.from-at.result there) still session opened))))

-- a command that commits nothing
pub returns-clause-idle : goal.returns-clause-idle
returns-clause-idle g c = λ none.
    let command : Apdu = apdu_of c.in-Ok.received.command in
    c.act-served.ensures.idle (λ offer. none (command, c.in-Ok.ensures.spelled, inl offer)) (λ managed. none (command, c.in-Ok.ensures.spelled, inr managed))
