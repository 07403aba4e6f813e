-- Two ends that stand for one session go on doing so, over every list of commands and replies (GlobalPlatform Amendment D, 6.2).
use Rattle.std.specs.Prelude.{◌≡◌, ℕ, ◌≤◌, ◌<◌, ◌^◌, List, [], ◌∷◌, All, length, if◌then◌else◌}
use Rattle.apdu_core.specs.Apdu.{Apdu}
use Rattle.apdu_core.specs.ClassBytes.{IsBasicChannel}
use Rattle.card_types.specs.declared.level.Level.{Level}
use Rattle.cmac_kdf.specs.Blocks.{IsBytes}
use Rattle.scp03_card.specs.Kept.{KeptSession, RepresentsSession}
use Rattle.scp03_card.specs.Offer.{Offer}
use Rattle.scp03_card.specs.Opens.{Opens, accepting}
use Rattle.scp03_card.specs.Protected.{session_reply}
use Rattle.scp03_card.specs.Session.{HasCryptogram, HasMac, Session}
use Rattle.scp03_host.specs.Begin.{answer_to}
use Rattle.scp03_host.specs.Unwrapped.{Unwraps, is_status_alone}
use Rattle.scp03_host.specs.Wrapped.{having_sent, room_for, wrapped_command}

-- what a host keeps and what a card keeps stand for one session
abbrev pub StandFor : KeptSession → KeptSession → Session → Type 0
StandFor host card session = RepresentsSession host session × RepresentsSession card session

-- a plain command on a channel, and the plain reply to it
pub record Exchange : Type 0 where
  pub command : Apdu
  pub channel : ℕ
  pub body : List ℕ
  pub status : ℕ

-- the host can send the command, and the reply is one
pub record IsExchange (level : Level) (exchange : Exchange) : Type 0 where
  pub channel : IsBasicChannel exchange.channel
  pub bytes : IsBytes exchange.command.body
  pub fits : length exchange.command.body ≤ room_for level
  pub body : IsBytes exchange.body
  pub status : exchange.status < 2 ^ 16

-- the data field that the host is told: none with a status that is sent alone
abbrev pub told_field : Session → List ℕ → ℕ → List ℕ
told_field session body status = if is_status_alone session status then [] else body

-- What the host sends opens to the plain data field, and the card then stands for the session that the host stands for; what the
-- card answers gives the host the plain reply.
pub record Agrees (session : Session) (exchange : Exchange) : Type 0 where
  pub opened : Opens session (wrapped_command session exchange.command exchange.channel) exchange.command.body
  pub together : accepting session (wrapped_command session exchange.command exchange.channel) ≡ having_sent session exchange.command
  pub told :
      (let after = having_sent session exchange.command in
      Unwraps after (session_reply after exchange.body exchange.status) (told_field after exchange.body exchange.status) exchange.status)

-- host and card agree on these exchanges, one after the other
abbrev pub AgreesOn : Session → List Exchange → Type 0
AgreesOn session [] = Unit {0}
AgreesOn session (first ∷ rest) = Agrees session first × AgreesOn (having_sent session first.command) rest

-- host and card agree on every list of exchanges, from every session
abbrev pub GoOnAgreeing : Type 0
GoOnAgreeing = (session : Session) (exchanges : List Exchange) → All (IsExchange session.level) exchanges → AgreesOn session exchanges

-- the card accepts the host's answer to its offer, at each level
abbrev pub BeginAgreeing : Type 0
BeginAgreeing =
    (offer : Offer) (level : Level) (channel : ℕ)
    → HasCryptogram offer (answer_to offer level channel).body × HasMac offer level (answer_to offer level channel).body

-- a reply gives at most one data field and status
abbrev pub OnePlainReply : Type 0
OnePlainReply =
    (session : Session) (reply body other : List ℕ) (status another : ℕ)
    → Unwraps session reply body status → Unwraps session reply other another → (body ≡ other) × (status ≡ another)
