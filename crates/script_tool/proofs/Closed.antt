-- Sessions that a reply ends, for `closed_sessions`.
use Rattle.std.proofs.Common.{◌≡◌, ℕ, ◌+◌, zero, suc, List, [], length, take, drop, Option, None, Some, Bool, true, false, nat_lt, ◌==◌, bytes_eq, if◌then◌else◌, refl, ap}
use Rattle.apdu_core.specs.Apdu.{Apdu}
use Rattle.scp03_card.specs.Offer.{Offer, card_cryptogram}
use Rattle.scp03_card.specs.Session.{Session}
use Rattle.scp03_host.specs.Begin.{answer_to, cryptogram_in}
use Rattle.scp03_host.specs.Unwrapped.{status_in}
use Rattle.scp03_host.specs.Wrapped.{having_sent, room_for, wrapped_command}
use Rattle.script_lines.specs.Channel.{channel_number}
use Rattle.script_tool.specs.Closed.{ClosedIsSilent, EndsAtRefusals, RefusalsEnd}
use Rattle.script_lines.specs.Command.{command_bytes}
use Rattle.script_lines.specs.Delete.{deleting}
use Rattle.script_lines.specs.Extradite.{extraditing}
use Rattle.script_tool.specs.Host.{Host, Sessions, own_session, session_of, with_own, with_session}
use Rattle.script_tool.specs.InPlain.{after_select, body_in, send_in_plain}
use Rattle.script_tool.specs.InSession.{Rest, after_reply, awaiting, for_session, printing, protecting, sending, with_bad_mac, with_some}
use Rattle.script_lines.specs.Install.{installing}
use Rattle.script_lines.specs.Life.{changing_life}
use Rattle.script_lines.specs.Listing.{listing_command}
use Rattle.script_lines.specs.Load.{beginning_load, block_command, block_element, content_bytes}
use Rattle.script_tool.specs.Loading.{block_count, loading_all, loading_blocks, playing_load}
use Rattle.script_tool.specs.Opening.{after_authenticate, after_update, authenticating, counter_in, offer_under, offered_by, updating, with_field}
use Rattle.script_tool.specs.Play.{playing_control, playing_exchange}
use Rattle.script_tool.specs.Printed.{Cryptogram, Reply, Said}
use Rattle.script_lines.specs.PutKey.{putting_keys}
use Rattle.script_lines.specs.Select.{selecting}
use Rattle.script_lines.specs.Selectable.{making_selectable}
use Rattle.script_lines.specs.Send.{command_of_plain}
use Rattle.script_lines.specs.Store.{storing}
use Rattle.script_tool.specs.Talk.{Ends, Plain, Refused, Taken, Talk}
use Rattle.script_lines.specs.declared.channel.Channel.{Channel}
use Rattle.script_lines.specs.declared.channel.Channel.TheVariants.{Basic}
use Rattle.script_lines.specs.declared.control.Control as the_control
use Rattle.script_lines.specs.declared.control.Control.TheVariants as control
use Rattle.script_lines.specs.declared.exchange.Exchange as the_exchange
use Rattle.script_lines.specs.declared.exchange.Exchange.TheVariants.{Select, Raw, Open, Send, Bad, Install, Selectable, Extradite, Load, Delete, PutKey, Store, Life, List as Listed, More}
use Rattle.script_lines.specs.declared.line.ScriptLine.TheVariants as line
use Rattle.script_lines.specs.declared.load_file.LoadFile.{LoadFile}
use Rattle.script_lines.specs.declared.opening.Opening.{Opening}
use Rattle.script_tool.specs.declared.word.Word.TheVariants.{NoSession, Short, TooLong}

none_there : (channel : Channel) (all : Sessions) → session_of channel (with_session channel None all) ≡ None
none_there Basic all = refl
none_there _ all = refl

-- what goes on by each reply that was opened
abbrev RestEnds : Rest → Type 0
RestEnds rest = (host : Host) (body : List ℕ) (status : ℕ) → EndsAtRefusals (rest host body status)

either : (b : Bool) (one other : Talk) → EndsAtRefusals one → EndsAtRefusals other → EndsAtRefusals (if b then one else other)
either true one other x y = x
either false one other x y = y

within : (own : Option Session) (host : Host) (go : Session → Talk) → ((session : Session) → EndsAtRefusals (go session)) → EndsAtRefusals (with_some own host go)
within None host go each = tt
within (Some session) host go each = each session

plain_ends : (host : Host) (bytes : List ℕ) (rest : Rest) → RestEnds rest → EndsAtRefusals (send_in_plain host bytes rest)
plain_ends host bytes rest ends reply =
    either (nat_lt (length reply) 2) (Ends (Said Short) host) (rest host (body_in reply) (status_in reply)) tt (ends host (body_in reply) (status_in reply))

reply_ends : (host : Host) (rest : Rest) → RestEnds rest → (taken : Taken) → EndsAtRefusals (after_reply host rest taken)
reply_ends host rest ends (Plain body status) = ends host body status
reply_ends host rest ends (Refused why) = tt

awaiting_ends : (host : Host) (sent : Session) (bytes : List ℕ) (rest : Rest) → RestEnds rest → EndsAtRefusals (awaiting host sent bytes rest)
awaiting_ends host sent bytes rest ends reply =
    let after : Host = with_own (Some sent) host in
    (λ why. (with_own None after, refl, none_there after.channel after.sessions), reply_ends after rest ends)

protecting_ends : (host : Host) (session : Session) (bad : Bool) (command : Apdu) (rest : Rest) → RestEnds rest → EndsAtRefusals (protecting host session bad command rest)
protecting_ends host session bad command rest ends =
    let sent : Session = having_sent session command in
    let bytes : List ℕ = with_bad_mac bad (command_bytes (wrapped_command session command (channel_number host.channel))) in
    either (nat_lt (room_for session.level) (length command.body)) (Ends (Said TooLong) host) (awaiting host sent bytes rest) tt (awaiting_ends host sent bytes rest ends)

sending_ends : (bad : Bool) (host : Host) (command : Apdu) → EndsAtRefusals (sending bad host command)
sending_ends bad host command =
    within (own_session host) host (λ session. protecting host session bad command printing)
    (λ session. protecting_ends host session bad command printing (λ after body status. tt))

blocks_end : (size left number : ℕ) (bytes : List ℕ) → RestEnds (loading_blocks size left number bytes)
blocks_end size zero number bytes host body status = tt
blocks_end size (suc left) number bytes host body status =
    let command = block_command (left == 0) number (take size bytes) in
    let rest = loading_blocks size left (number + 1) (drop size bytes) in
    either (status == 0x9000) (for_session host (λ session. protecting host session false command rest)) (Ends (Reply body status) host)
    (within (own_session host) host (λ session. protecting host session false command rest)
    (λ session. protecting_ends host session false command rest (blocks_end size left (number + 1) (drop size bytes)))) tt

load_ends : (host : Host) (file : LoadFile) → EndsAtRefusals (playing_load host file)
load_ends host file =
    let bytes : List ℕ = block_element (content_bytes file.content) in
    within (own_session host) host (λ session. protecting host session false (beginning_load host.tokens file) (loading_all (room_for session.level) file))
    (λ session. protecting_ends host session false (beginning_load host.tokens file) (loading_all (room_for session.level) file)
    (blocks_end (room_for session.level) (block_count (room_for session.level) bytes) 0 bytes))

authenticating_ends : (host : Host) (o : Opening) (offer : Offer) (counter : List ℕ) → EndsAtRefusals (authenticating host o offer counter)
authenticating_ends host o offer counter =
    plain_ends host (command_bytes (answer_to offer o.level (channel_number host.channel))) (after_authenticate o offer counter) (λ after body status. tt)

offered_ends : (host : Host) (o : Opening) (field : List ℕ) → EndsAtRefusals (offered_by host o field)
offered_ends host o field =
    let offer : Offer = offer_under host.keys o.challenge field in
    either (bytes_eq (cryptogram_in field) (card_cryptogram offer)) (authenticating host o offer (counter_in field)) (Ends (Cryptogram (counter_in field)) host)
    (authenticating_ends host o offer (counter_in field)) tt

updated_ends : (o : Opening) → RestEnds (after_update o)
updated_ends o host field status =
    let fresh : Host = with_own None host in
    either (status == 0x9000) (with_field fresh o field) (Ends (Reply [] status) host)
    (either (length field == 32) (offered_by fresh o field) (Ends (Said Short) fresh) (offered_ends fresh o field) tt) tt

exchange_ends : (host : Host) (e : the_exchange.Exchange) → EndsAtRefusals (playing_exchange host e)
exchange_ends host (Select aid) = plain_ends host (command_bytes (selecting (channel_number host.channel) aid)) after_select (λ after body status. tt)
exchange_ends host (Raw bytes) = plain_ends host bytes.items printing (λ after body status. tt)
exchange_ends host (Open opening) = plain_ends host (command_bytes (updating (channel_number host.channel) opening)) (after_update opening) (updated_ends opening)
exchange_ends host (Send command) = sending_ends false host (command_of_plain command)
exchange_ends host (Bad command) = sending_ends true host (command_of_plain command)
exchange_ends host (Install installation) = sending_ends false host (installing host.tokens installation)
exchange_ends host (Selectable aid) = sending_ends false host (making_selectable host.tokens aid)
exchange_ends host (Extradite extradition) = sending_ends false host (extraditing host.tokens extradition)
exchange_ends host (Load file) = load_ends host file
exchange_ends host (Delete deletion) = sending_ends false host (deleting host.tokens deletion)
exchange_ends host (PutKey putting) =
    within (own_session host) host (λ session. protecting host session false (putting_keys session.offer.dek putting) printing)
    (λ session. protecting_ends host session false (putting_keys session.offer.dek putting) printing (λ after body status. tt))
exchange_ends host (Store field) = sending_ends false host (storing field.items)
exchange_ends host (Life change) = sending_ends false host (changing_life change)
exchange_ends host (Listed listing) = sending_ends false host (listing_command 0x02 listing)
exchange_ends host (More listing) = sending_ends false host (listing_command 0x03 listing)

control_ends : (host : Host) (c : the_control.Control) → EndsAtRefusals (playing_control host c)
control_ends host control.Reset = tt
control_ends host _ = tt

pub refusals_end : RefusalsEnd
refusals_end host line.Nothing = tt
refusals_end host (line.Control c) = control_ends host c
refusals_end host (line.Exchange e) = exchange_ends host e
refusals_end host (line.Quiet e) = exchange_ends host e

-- a line of a session, with none there
nothing_sent : (host : Host) (go : Session → Talk) → own_session host ≡ None → for_session host go ≡ Ends (Said NoSession) host
nothing_sent host go none = ap (λ (own : Option Session). with_some own host go) none

pub closed_is_silent : ClosedIsSilent
closed_is_silent host (Select aid) none is = cc is
closed_is_silent host (Raw bytes) none is = cc is
closed_is_silent host (Open opening) none is = cc is
closed_is_silent host _ none is = nothing_sent host _ none
