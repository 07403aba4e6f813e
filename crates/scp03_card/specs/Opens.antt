-- What a protected command gives (GlobalPlatform Amendment D, 6.2.4, 6.2.6).
use Rattle.std.specs.Prelude.{◌≡◌, ℕ, ◌-◌, List, [], ◌∷◌, ◌++◌, length, take, Bool, true, false}
use Rattle.std.specs.Int.{w128, to_be_bytes}
use Rattle.aes_block.specs.Cipher.{cipher}
use Rattle.apdu_core.specs.Apdu.{Apdu}
use Rattle.cmac_kdf.specs.Blocks.{IsBytes}
use Rattle.cmac_kdf.specs.Cbc.{sealed}
use Rattle.scp03_card.specs.Levels.{has_c_decryption}
use Rattle.scp03_card.specs.Offer.{s_enc}
use Rattle.scp03_card.specs.Session.{Session, c_mac, message, message_number, with_message}

-- the data field as it was sent: the body without the C-MAC, its last eight bytes
abbrev pub field_of : Apdu → List ℕ
field_of command = take (length command.body - 8) command.body

-- the session with the command's message
abbrev pub accepting : Session → Apdu → Session
accepting session command = with_message session (message command (field_of command))

-- the body is the data field and the right C-MAC (6.2.4); one of fewer than eight bytes is never so
abbrev pub IsAuthentic : Session → Apdu → Type 0
IsAuthentic session command = command.body ≡ field_of command ++ c_mac (accepting session command)

-- the initial chaining vector for the command of a session's last message: its number in sixteen bytes, enciphered (6.2.6)
unfoldable pub command_icv : Session → List ℕ
command_icv session = cipher (s_enc session.offer) (to_be_bytes w128 (message_number session))

-- a field that is not empty, with C-DECRYPTION or without
abbrev pub GivesBy : Bool → Session → List ℕ → List ℕ → Type 0
GivesBy true session field plain = IsBytes plain × (sealed (s_enc session.offer) (command_icv session) plain ≡ field)
GivesBy false session field plain = plain ≡ field

-- the data field of a session's last message gives these plain bytes (6.2.6)
abbrev pub Gives : Session → List ℕ → List ℕ → Type 0
Gives session [] plain = plain ≡ []
Gives session (b ∷ bs) plain = GivesBy (has_c_decryption session.level) session (b ∷ bs) plain

-- the command is authentic, and gives these plain bytes
pub record Opens (session : Session) (command : Apdu) (plain : List ℕ) : Type 0 where
  pub authentic : IsAuthentic session command
  pub gives : Gives (accepting session command) (field_of command) plain
