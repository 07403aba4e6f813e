-- The laws of protected commands (GlobalPlatform Amendment D, 6.2).
use Rattle.std.specs.Prelude.{◌≡◌, ℕ, ◌+◌, ◌<◌, ◌≤◌, List, length, Option}
use Rattle.apdu_core.specs.Apdu.{Apdu}
use Rattle.apdu_core.specs.ClassBytes.{IsBasicChannel, on_channel}
use Rattle.card_types.specs.Level.{code_of}
use Rattle.card_types.specs.declared.level.Level.{Level}
use Rattle.scp03_card.specs.Offer.{Offer, host_cryptogram}
use Rattle.scp03_card.specs.Opens.{Opens, field_of}
use Rattle.scp03_card.specs.Session.{Session, authentication, message}

-- a command gives at most one plain data field
abbrev pub OnePlain : Type 0
OnePlain = (session : Session) (command : Apdu) (plain another : List ℕ) → Opens session command plain → Opens session command another → plain ≡ another

-- the plain data field never has more bytes than were sent
abbrev pub PlainFits : Type 0
PlainFits = (session : Session) (command : Apdu) (plain : List ℕ) → Opens session command plain → length plain ≤ length (field_of command)

-- the first message of a session is that of EXTERNAL AUTHENTICATE, a command of class 84 on any channel
abbrev pub FirstMessage : Type 0
FirstMessage =
    (offer : Offer) (level : Level) (channel : ℕ) (body : List ℕ) (le : Option ℕ) → IsBasicChannel channel
    → message (record { class = on_channel 0x84 channel; ins = 0x82; p1 = code_of level; p2 = 0x00; body = body; le = le }) (host_cryptogram offer) ≡ authentication offer level
