-- How the host begins a session: what it reads from the reply to INITIALIZE UPDATE, and the EXTERNAL AUTHENTICATE that it sends
-- (GlobalPlatform Amendment D, 7.1.1, 7.1.2).
use Rattle.std.specs.Prelude.{◌≡◌, ℕ, List, ◌++◌, take, drop, None}
use Rattle.apdu_core.specs.Apdu.{Apdu}
use Rattle.apdu_core.specs.ClassBytes.{on_channel}
use Rattle.card_types.specs.Level.{code_of}
use Rattle.card_types.specs.declared.level.Level.{Level}
use Rattle.scp03_card.specs.Offer.{Offer, card_cryptogram, host_cryptogram}
use Rattle.scp03_card.specs.Session.{c_mac, session_from}

-- The data field of the reply has ten bytes of key diversification data, the key version number, the number of the
-- protocol and its parameter, then the card challenge, the card cryptogram, and the sequence counter: 32 bytes.
abbrev pub challenge_in : List ℕ → List ℕ
challenge_in reply = take 8 (drop 13 reply)

abbrev pub cryptogram_in : List ℕ → List ℕ
cryptogram_in reply = take 8 (drop 21 reply)

-- the offer, as the host sees it
abbrev pub offer_from_reply : (enc mac dek host reply : List ℕ) → Offer
offer_from_reply enc mac dek host reply = record { enc = enc; mac = mac; dek = dek; host = host; card = challenge_in reply }

-- the card has shown that it has the keys
abbrev pub ShowsKeys : Offer → List ℕ → Type 0
ShowsKeys offer reply = cryptogram_in reply ≡ card_cryptogram offer

-- EXTERNAL AUTHENTICATE, which answers an offer at a level
abbrev pub answer_to : Offer → Level → ℕ → Apdu
answer_to offer level channel = record {
  class = on_channel 0x84 channel;
  ins = 0x82;
  p1 = code_of level;
  p2 = 0x00;
  body = host_cryptogram offer ++ c_mac (session_from offer level);
  le = None;
}
