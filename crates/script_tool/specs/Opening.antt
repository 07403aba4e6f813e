-- How a session is opened (GlobalPlatform Amendment D, 7.1.1, 7.1.2).
use Rattle.std.specs.Prelude.{ℕ, List, [], length, drop, None, Some, ◌==◌, bytes_eq, if◌then◌else◌}
use Rattle.apdu_core.specs.Apdu.{Apdu}
use Rattle.apdu_core.specs.ClassBytes.{on_channel}
use Rattle.scp03_card.specs.Offer.{Offer, card_cryptogram}
use Rattle.scp03_card.specs.Session.{session_from}
use Rattle.scp03_host.specs.Begin.{answer_to, cryptogram_in, offer_from_reply}
use Rattle.script_lines.specs.Channel.{channel_number}
use Rattle.script_lines.specs.Command.{command_bytes}
use Rattle.script_tool.specs.Host.{Host, with_own}
use Rattle.script_tool.specs.InPlain.{send_in_plain}
use Rattle.script_tool.specs.Printed.{Cryptogram, Opened, Reply, Said}
use Rattle.script_tool.specs.Talk.{Ends, Talk}
use Rattle.script_lines.specs.declared.keys.OfSize.{OfSize}
use Rattle.script_lines.specs.declared.keys.OfSize.TheVariants.{Aes128, Aes192, Aes256}
use Rattle.script_lines.specs.declared.keys.Trio.{Trio}
use Rattle.script_lines.specs.declared.opening.Opening as the_type
use Rattle.script_tool.specs.declared.word.Word.TheVariants.{Short}

-- INITIALIZE UPDATE, with the key version number and the host challenge
abbrev pub updating : ℕ → the_type.Opening → Apdu
updating channel o = record { class = on_channel 0x80 channel; ins = 0x50; p1 = o.version; p2 = 0x00; body = o.challenge; le = None }

-- the offer of a card with these keys
abbrev pub offer_under : OfSize (Trio 16) (Trio 24) (Trio 32) → (host reply : List ℕ) → Offer
offer_under (Aes128 keys) host reply = offer_from_reply keys.enc keys.mac keys.dek host reply
offer_under (Aes192 keys) host reply = offer_from_reply keys.enc keys.mac keys.dek host reply
offer_under (Aes256 keys) host reply = offer_from_reply keys.enc keys.mac keys.dek host reply

-- the sequence counter ends the data field
abbrev pub counter_in : List ℕ → List ℕ
counter_in field = drop 29 field

-- EXTERNAL AUTHENTICATE: 9000 puts the session
abbrev pub after_authenticate : the_type.Opening → Offer → List ℕ → Host → List ℕ → ℕ → Talk
after_authenticate o offer counter host body status =
    Ends (Opened counter status) (if status == 0x9000 then with_own (Some (session_from offer o.level)) host else host)

abbrev pub authenticating : Host → the_type.Opening → Offer → List ℕ → Talk
authenticating host o offer counter =
    send_in_plain host (command_bytes (answer_to offer o.level (channel_number host.channel))) (after_authenticate o offer counter)

-- the host has the data field of the reply to INITIALIZE UPDATE
abbrev pub offered_by : Host → the_type.Opening → List ℕ → Talk
offered_by host o field =
    let offer = offer_under host.keys o.challenge field in
    if bytes_eq (cryptogram_in field) (card_cryptogram offer) then authenticating host o offer (counter_in field)
    else Ends (Cryptogram (counter_in field)) host

abbrev pub with_field : Host → the_type.Opening → List ℕ → Talk
with_field host o field = if length field == 32 then offered_by host o field else Ends (Said Short) host

-- a card that answers INITIALIZE UPDATE has ended the session of the channel
abbrev pub after_update : the_type.Opening → Host → List ℕ → ℕ → Talk
after_update o host field status = if status == 0x9000 then with_field (with_own None host) o field else Ends (Reply [] status) host

-- `open`
abbrev pub playing_open : Host → the_type.Opening → Talk
playing_open host o = send_in_plain host (command_bytes (updating (channel_number host.channel) o)) (after_update o)
