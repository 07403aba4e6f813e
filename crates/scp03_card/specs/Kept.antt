-- What the card keeps of an offer and of a session. There is no list of messages: the chaining value and the number of the
-- last one stand for it.
use Rattle.std.specs.Prelude.{◌≡◌, ℕ, ◌<◌, List, length}
use Rattle.card_types.specs.declared.level.Level.{Level}
use Rattle.scp03_card.specs.Offer.{Offer, s_enc, s_mac, s_rmac}
use Rattle.scp03_card.specs.Session.{Session, chain_of, message_number}

-- the session keys, and Key-DEK
pub record Keys : Type 0 where
  pub enc : List ℕ
  pub mac : List ℕ
  pub rmac : List ℕ
  pub dek : List ℕ

pub record HasSessionKeys (keys : Keys) (offer : Offer) : Type 0 where
  pub enc : keys.enc ≡ s_enc offer
  pub mac : keys.mac ≡ s_mac offer
  pub rmac : keys.rmac ≡ s_rmac offer
  pub dek : keys.dek ≡ offer.dek

pub record KeptOffer : Type 0 where
  pub keys : Keys
  pub host : List ℕ
  pub card : List ℕ

-- what is kept is this offer
pub record RepresentsOffer (kept : KeptOffer) (offer : Offer) : Type 0 where
  pub keys : HasSessionKeys kept.keys offer
  pub host : kept.host ≡ offer.host
  pub card : kept.card ≡ offer.card

pub record KeptSession : Type 0 where
  pub keys : Keys
  pub level : Level
  pub chain : List ℕ
  pub number : ℕ

-- what is kept is this session, which has a first message
pub record RepresentsSession (kept : KeptSession) (session : Session) : Type 0 where
  pub keys : HasSessionKeys kept.keys session.offer
  pub level : kept.level ≡ session.level
  pub started : 0 < length session.messages
  pub chain : kept.chain ≡ chain_of session
  pub number : kept.number ≡ message_number session
