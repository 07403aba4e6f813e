-- The protected command that the host sends (GlobalPlatform Amendment D, 6.2.4, 6.2.6).
use Rattle.std.specs.Prelude.{ℕ, ◌%◌, ◌^◌, List, [], ◌∷◌, ◌++◌, length, None, if◌then◌else◌}
use Rattle.std.specs.Int.{w128, to_be_bytes}
use Rattle.aes_block.specs.Cipher.{cipher}
use Rattle.apdu_core.specs.Apdu.{Apdu}
use Rattle.apdu_core.specs.ClassBytes.{on_channel}
use Rattle.card_types.specs.declared.level.Level.{Level}
use Rattle.cmac_kdf.specs.Cbc.{sealed}
use Rattle.scp03_card.specs.Levels.{has_c_decryption}
use Rattle.scp03_card.specs.Offer.{s_enc}
use Rattle.scp03_card.specs.Session.{Session, c_mac, message, with_message}

-- the command as it is sent: of class 84 with the channel, with another body, and without Le
abbrev pub as_sent : Apdu → ℕ → List ℕ → Apdu
as_sent command channel body = record {
  class = on_channel 0x84 channel;
  ins = command.ins;
  p1 = command.p1;
  p2 = command.p2;
  body = body;
  le = None;
}

-- the number that the next message of a session will have, in 128 bits
abbrev pub next_message : Session → ℕ
next_message session = length session.messages % 2 ^ 128

-- the initial chaining vector for the next command: its number in sixteen bytes, enciphered (6.2.6)
unfoldable pub next_icv : Session → List ℕ
next_icv session = cipher (s_enc session.offer) (to_be_bytes w128 (next_message session))

-- the data field as it is sent: with C-DECRYPTION padded and enciphered where it is not empty (6.2.6)
abbrev pub sent_field : Session → List ℕ → List ℕ
sent_field session [] = []
sent_field session (b ∷ bs) =
    if has_c_decryption session.level then sealed (s_enc session.offer) (next_icv session) (b ∷ bs) else b ∷ bs

-- the message of a plain command: class 84, whatever the channel
abbrev pub message_of : Session → Apdu → List ℕ
message_of session command = message (as_sent command 0 []) (sent_field session command.body)

-- the session that has this command as its last one
abbrev pub having_sent : Session → Apdu → Session
having_sent session command = with_message session (message_of session command)

-- the protected command on a channel: the data field as it is sent, and the C-MAC (6.2.4)
abbrev pub wrapped_command : Session → Apdu → ℕ → Apdu
wrapped_command session command channel =
    as_sent command channel (sent_field session command.body ++ c_mac (having_sent session command))

-- how many bytes a plain data field may have, so that with padding and C-MAC the body has at most 255
abbrev pub room_for : Level → ℕ
room_for level = if has_c_decryption level then 239 else 247
