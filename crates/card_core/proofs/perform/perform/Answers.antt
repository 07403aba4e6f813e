use Rattle.std.proofs.Common.{◌≡◌, arith, ℕ, ◌<◌, refl, sym, ap, subst}
use Rattle.std.specs.Prelude.{Contains}
use Rattle.card_core.specs.Prelude.{Apdu, IsInOrder, IsRequestOf, IsWellFormed, changing, form_in, kept_of, pages_after}
use Rattle.policy_machine.specs.declared.channels.TheConstants.{CHANNELS}
use Rattle.policy_rules.specs.declared.request.Request.{Request}
use Rattle.card_core.proofs.Acting.{answer_done, listing_done, loading_done, offer_done}
use Rattle.card_core.proofs.Cards.{in_order}
use Rattle.card_core.proofs.LoadCarried.{begin_left, load_left}
use Rattle.card_core.proofs.perform.perform.Goals as goal

-- the command asks for what the request is
asks_as : (request other : Request) (command : Apdu) → request ≡ other → IsRequestOf request command → IsRequestOf other command
asks_as request other command is asks = subst (λ (r : Request). IsRequestOf r command) is asks

-- SELECT
pub select-requires-clause-in_order : goal.select-requires-clause-in_order
select-requires-clause-in_order g c = subst IsInOrder (sym c.tables.ensures.tables) (in_order c.args.records.now.tables c.requires.ready.cards)

pub returns-in-Select-clause-done : goal.returns-in-Select-clause-done
returns-in-Select-clause-done g c = rw (c.select.ensures.writes, c.requires.ready.unwritten) (λ page judged whole shows sound asked.
    (rw c.tables.ensures.tables at c.select.ensures.done) page judged whole shows sound asked.on (asks_as c.args.request.now _ judged.command c.in-Select.is asked.asks))

-- MANAGE CHANNEL
pub returns-in-MoreChannel-clause-done : goal.returns-in-MoreChannel-clause-done
returns-in-MoreChannel-clause-done g c = rw c.requires.ready.unwritten (λ page judged whole shows sound asked.
    let tables = c.args.records.now.tables in
    c.open_channel.ensures.done (kept_of tables c.args.channels.now) (in_order tables c.requires.ready.cards).layout page judged whole shows sound (subst (λ (n : ℕ). n < CHANNELS) asked.on c.requires.ready.channel)
    (asks_as c.args.request.now _ judged.command c.in-MoreChannel.is asked.asks))

pub returns-in-LessChannel-clause-done : goal.returns-in-LessChannel-clause-done
returns-in-LessChannel-clause-done g c = rw (c.close_channel.ensures.writes, c.requires.ready.unwritten) (λ page judged whole shows sound asked.
    rw c.requires.ready.empty (c.close_channel.ensures.done c.args.records.now.tables page judged whole shows sound
    (asks_as c.args.request.now _ judged.command c.in-LessChannel.is asked.asks)))

-- GET DATA
pub get_data-requires-clause-in_order : goal.get_data-requires-clause-in_order
get_data-requires-clause-in_order g c = subst IsInOrder (sym c.tables-in-Get.ensures.tables) (in_order c.args.records.now.tables c.requires.ready.cards)

pub returns-in-Get-clause-done : goal.returns-in-Get-clause-done
returns-in-Get-clause-done g c = rw c.requires.ready.unwritten (λ page judged whole shows sound asked.
    (rw c.tables-in-Get.ensures.tables at c.get_data.ensures.done) page judged whole shows sound asked.on (asks_as c.args.request.now _ judged.command c.in-Get.is asked.asks))

-- INITIALIZE UPDATE
pub returns-in-Initialize-clause-done : goal.returns-in-Initialize-clause-done
returns-in-Initialize-clause-done g c = rw c.requires.ready.unwritten (λ page judged whole shows sound asked.
    let card = kept_of c.args.records.now.tables c.args.channels.now in
    let is = asks_as c.args.request.now _ judged.command c.in-Initialize.is asked.asks in
    offer_done page card judged shows sound c.args.received.now.channel c.args.received.now.selected c.requires.ready.channel asked.on c.requires.ready.selected
    c.from-at.result c.index-channels-at.result c.from-at.ensures c.initialize_update.new.held c.initialize_update.new.records.tables c.initialize_update.new.reply.items
    c.initialize_update.result is.form c.initialize_update.ensures.entries c.initialize_update.ensures.files (λ acts. c.initialize_update.ensures.done page judged acts is))

-- EXTERNAL AUTHENTICATE
pub external_authenticate-requires-clause-formed : goal.external_authenticate-requires-clause-formed
external_authenticate-requires-clause-formed g c = subst IsWellFormed c.in-Authenticate.is c.requires.formed

pub returns-in-Authenticate-clause-done : goal.returns-in-Authenticate-clause-done
returns-in-Authenticate-clause-done g c = rw c.requires.ready.unwritten (λ page judged whole shows sound asked.
    let card = kept_of c.args.records.now.tables c.args.channels.now in
    let is = asks_as c.args.request.now _ judged.command c.in-Authenticate.is asked.asks in
    rw c.requires.ready.empty (answer_done page card judged shows sound c.args.received.now.channel c.args.received.now.selected c.requires.ready.channel asked.on c.requires.ready.selected
    c.from-at.result c.index-channels-at-in-Authenticate.result c.from-at.ensures c.external_authenticate.new.held c.external_authenticate.result is.form
    (c.external_authenticate.ensures judged is)))

-- GET STATUS
pub get_status-requires-clause-in_order : goal.get_status-requires-clause-in_order
get_status-requires-clause-in_order g c = subst IsInOrder (sym c.tables-in-List.ensures.tables) (in_order c.args.records.now.tables c.requires.ready.cards)

pub get_status-requires-clause-formed : goal.get_status-requires-clause-formed
get_status-requires-clause-formed g c = subst IsWellFormed c.in-List.is c.requires.formed

pub returns-in-List-clause-done : goal.returns-in-List-clause-done
returns-in-List-clause-done g c = rw c.requires.ready.unwritten (λ page judged whole shows sound asked.
    let card = kept_of c.args.records.now.tables c.args.channels.now in
    listing_done page card judged shows sound c.args.received.now.channel c.args.received.now.selected c.requires.ready.channel asked.on c.requires.ready.selected
    c.get_status.new.live c.get_status.new.reply.items c.get_status.result (λ acts. (rw c.tables-in-List.ensures.tables at c.get_status.ensures.done) page judged acts shows.says (record {
      on = asked.on;
      asks = asks_as c.args.request.now _ judged.command c.in-List.is asked.asks;
      goes_on = λ lists. asked.goes_on (ap (λ (r : Request). (form_in r).instruction) c.in-List.is);
    })))

-- card content management
changes_as : (request other : Request) → request ≡ other → Contains changing (form_in other).instruction → Contains changing (form_in request).instruction
changes_as request other is changes = subst (λ (r : Request). Contains changing (form_in r).instruction) (sym is) changes

pub returns-in-PutKey-clause-done : goal.returns-in-PutKey-clause-done
returns-in-PutKey-clause-done g c = rw (c.requires.ready.unwritten, c.in-PutKey.is) ((rw c.new-keys.ensures at c.manage.ensures.done) _)

pub returns-in-Store-clause-done : goal.returns-in-Store-clause-done
returns-in-Store-clause-done g c = rw (c.requires.ready.unwritten, c.in-Store.is) (c.manage-in-Store.ensures.done _)

pub returns-in-DeleteKey-clause-done : goal.returns-in-DeleteKey-clause-done
returns-in-DeleteKey-clause-done g c = rw (c.requires.ready.unwritten, c.in-DeleteKey.is) ((rw c.new-keys-in-DeleteKey.ensures at c.manage-in-DeleteKey.ensures.done) _)

pub returns-in-DeleteObject-clause-done : goal.returns-in-DeleteObject-clause-done
returns-in-DeleteObject-clause-done g c = rw (c.requires.ready.unwritten, c.in-DeleteObject.is) (c.manage-in-DeleteObject.ensures.done _)

pub returns-in-Install-clause-done : goal.returns-in-Install-clause-done
returns-in-Install-clause-done g c = rw (c.requires.ready.unwritten, c.in-Install.is) (c.manage-in-Install.ensures.done _)

pub returns-in-MakeSelectable-clause-done : goal.returns-in-MakeSelectable-clause-done
returns-in-MakeSelectable-clause-done g c = rw (c.requires.ready.unwritten, c.in-MakeSelectable.is) (c.manage-in-MakeSelectable.ensures.done _)

pub returns-in-Extradite-clause-done : goal.returns-in-Extradite-clause-done
returns-in-Extradite-clause-done g c = rw (c.requires.ready.unwritten, c.in-Extradite.is) (c.manage-in-Extradite.ensures.done _)

pub returns-in-CardStatus-clause-done : goal.returns-in-CardStatus-clause-done
returns-in-CardStatus-clause-done g c = rw (c.requires.ready.unwritten, c.in-CardStatus.is) (c.manage-in-CardStatus.ensures.done _)

pub returns-in-EntryStatus-clause-done : goal.returns-in-EntryStatus-clause-done
returns-in-EntryStatus-clause-done g c = rw (c.requires.ready.unwritten, c.in-EntryStatus.is) (c.manage-in-EntryStatus.ensures.done _)

-- INSTALL [for load]
pub begin_load-requires-clause-in_order : goal.begin_load-requires-clause-in_order
begin_load-requires-clause-in_order g c = subst IsInOrder (sym c.tables-in-InstallLoad.ensures.tables) (in_order c.args.records.now.tables c.requires.ready.cards)

pub begin_load-requires-clause-formed : goal.begin_load-requires-clause-formed
begin_load-requires-clause-formed g c = subst IsWellFormed c.in-InstallLoad.is c.requires.formed

pub returns-in-InstallLoad-clause-done : goal.returns-in-InstallLoad-clause-done
returns-in-InstallLoad-clause-done g c = λ page judged whole shows sound asked.
    let tables = c.args.records.now.tables in
    let begin = c.begin_load in
    rw (begin.ensures.writes, c.requires.ready.unwritten)
    (loading_done page (kept_of tables c.args.channels.now) judged shows sound c.args.received.now.channel c.args.received.now.selected c.requires.ready.channel asked.on c.requires.ready.selected
    page (kept_of tables begin.new.channels) begin.new.reply.items begin.result begin.ensures.sessions (begin_left page tables c.args.channels.now begin.new.channels begin.result begin.ensures.refused)
    (λ acts. (rw c.tables-in-InstallLoad.ensures.tables at begin.ensures.done) page judged acts shows.says sound.fits.channels asked.on
    (asks_as c.args.request.now _ judged.command c.in-InstallLoad.is asked.asks)))

-- LOAD
pub load-requires-clause-formed : goal.load-requires-clause-formed
load-requires-clause-formed g c = subst IsWellFormed c.in-Load.is c.requires.formed

pub returns-in-Load-clause-done : goal.returns-in-Load-clause-done
returns-in-Load-clause-done g c = λ page judged whole shows sound asked.
    let load = c.load in
    loading_done page (kept_of c.args.records.now.tables c.args.channels.now) judged shows sound c.args.received.now.channel c.args.received.now.selected c.requires.ready.channel asked.on
    c.requires.ready.selected (pages_after page load.new.channels.loading.writes.items) (kept_of load.new.records.tables load.new.channels) load.new.reply.items load.result load.ensures.sessions
    (load_left page c.args.records.now load.new.records c.args.channels.now load.new.channels load.result c.requires.ready.unwritten load.ensures.refused)
    (λ acts. load.ensures.done page judged whole shows sound acts asked.on (asks_as c.args.request.now _ judged.command c.in-Load.is asked.asks))

pub returns-in-Load-clause-idle : goal.returns-in-Load-clause-idle
returns-in-Load-clause-idle g c = λ other unmanaged. absurd (unmanaged (changes_as c.args.request.now _ c.in-Load.is (4, omega arith, refl)))
