-- A session as the list of its messages, and what follows from the list: the MAC chaining value, the C-MAC, the number
-- (GlobalPlatform Amendment D, 6.2.4, 6.2.6).
use Rattle.std.specs.Prelude.{◌≡◌, ℕ, ◌+◌, ◌-◌, ◌*◌, ◌/◌, ◌%◌, ◌^◌, List, [], ◌∷◌, ◌++◌, length, take, drop}
use Rattle.std.specs.List.{fold}
use Rattle.apdu_core.specs.Apdu.{Apdu}
use Rattle.apdu_core.specs.ClassBytes.{off_channel}
use Rattle.card_types.specs.Level.{code_of}
use Rattle.card_types.specs.declared.level.Level.{Level}
use Rattle.cmac_kdf.specs.Blocks.{zero_block}
use Rattle.cmac_kdf.specs.Cmac.{cmac}
use Rattle.scp03_card.specs.Offer.{Offer, s_mac, host_cryptogram}

-- an offer that the host has answered, and the messages that were accepted, that of EXTERNAL AUTHENTICATE first
pub record Session : Type 0 where
  pub offer : Offer
  pub level : Level
  pub messages : List (List ℕ)

-- the message of a command: the class with its two bits for the channel cleared, INS, P1, P2, Lc with the eight bytes of the
-- C-MAC, and the data field as it is sent, without the C-MAC (6.2.4)
unfoldable pub message : Apdu → List ℕ → List ℕ
message command field = off_channel command.class ∷ command.ins ∷ command.p1 ∷ command.p2 ∷ (length field + 8) ∷ field

-- the MAC chaining value after these messages: sixteen 00 before the first, and then the CMAC of the last value and the next
-- message (6.2.4)
unfoldable pub chain : List ℕ → List (List ℕ) → List ℕ
chain key messages = fold (λ value next. cmac key (value ++ next)) zero_block messages

-- that of a session, after its last message
abbrev pub chain_of : Session → List ℕ
chain_of session = chain (s_mac session.offer) session.messages

-- the C-MAC of a session's last message (6.2.4)
abbrev pub c_mac : Session → List ℕ
c_mac session = take 8 (chain_of session)

-- the number of a session's last message, in 128 bits: that of EXTERNAL AUTHENTICATE is 0 (6.2.6)
abbrev pub message_number : Session → ℕ
message_number session = (length session.messages - 1) % 2 ^ 128

-- the session with one more message
abbrev pub with_message : Session → List ℕ → Session
with_message session next = record { offer = session.offer; level = session.level; messages = session.messages ++ next ∷ [] }

-- the message of EXTERNAL AUTHENTICATE at a level (7.1.2)
abbrev pub authentication : Offer → Level → List ℕ
authentication offer level = 0x84 ∷ 0x82 ∷ code_of level ∷ 0x00 ∷ 0x10 ∷ host_cryptogram offer

-- the session that an offer becomes which is answered at a level
abbrev pub session_from : Offer → Level → Session
session_from offer level = record { offer = offer; level = level; messages = authentication offer level ∷ [] }

-- the body of EXTERNAL AUTHENTICATE begins with the host cryptogram
abbrev pub HasCryptogram : Offer → List ℕ → Type 0
HasCryptogram offer body = take 8 body ≡ host_cryptogram offer

-- the body of EXTERNAL AUTHENTICATE ends in the C-MAC
abbrev pub HasMac : Offer → Level → List ℕ → Type 0
HasMac offer level body = drop 8 body ≡ c_mac (session_from offer level)
