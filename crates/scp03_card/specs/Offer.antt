-- What INITIALIZE UPDATE makes: the card challenge, the session keys and the cryptograms (GlobalPlatform Amendment D, 6.2.1,
-- 6.2.2). A key is given by its bytes.
use Rattle.std.specs.Prelude.{ℕ, ◌*◌, ◌/◌, ◌%◌, List, [], ◌∷◌, ◌++◌, length}
use Rattle.cmac_kdf.specs.Derivation.{kdf}

-- the three static keys of a key set, and the challenges of host and card
pub record Offer : Type 0 where
  pub enc : List ℕ
  pub mac : List ℕ
  pub dek : List ℕ
  pub host : List ℕ
  pub card : List ℕ

-- a sequence counter in three bytes
abbrev pub counter_bytes : ℕ → List ℕ
counter_bytes counter = counter / 0x10000 ∷ counter / 0x100 % 0x100 ∷ counter % 0x100 ∷ []

-- the pseudo-random card challenge: from Key-ENC, the sequence counter and the AID that is selected (6.2.2)
unfoldable pub card_challenge : List ℕ → ℕ → List ℕ → List ℕ
card_challenge enc counter aid = kdf enc 0x02 64 (counter_bytes counter ++ aid)

-- the offer that INITIALIZE UPDATE makes
abbrev pub new_offer : (enc mac dek : List ℕ) (counter : ℕ) (aid host : List ℕ) → Offer
new_offer enc mac dek counter aid host =
    record { enc = enc; mac = mac; dek = dek; host = host; card = card_challenge enc counter aid }

-- the context of the derivations that follow: the host challenge and the card challenge (6.2.1)
abbrev pub context : Offer → List ℕ
context offer = offer.host ++ offer.card

-- S-ENC, S-MAC and S-RMAC, each as long as the static key that it is derived from (6.2.1)
unfoldable pub s_enc : Offer → List ℕ
s_enc offer = kdf offer.enc 0x04 (8 * length offer.enc) (context offer)

unfoldable pub s_mac : Offer → List ℕ
s_mac offer = kdf offer.mac 0x06 (8 * length offer.mac) (context offer)

unfoldable pub s_rmac : Offer → List ℕ
s_rmac offer = kdf offer.mac 0x07 (8 * length offer.mac) (context offer)

-- the authentication cryptograms of card and host (6.2.2)
unfoldable pub card_cryptogram : Offer → List ℕ
card_cryptogram offer = kdf (s_mac offer) 0x00 64 (context offer)

unfoldable pub host_cryptogram : Offer → List ℕ
host_cryptogram offer = kdf (s_mac offer) 0x01 64 (context offer)
