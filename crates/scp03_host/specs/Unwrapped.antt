-- The reply to a protected command, as the host takes it (GlobalPlatform Amendment D, 6.2.5, 6.2.7). The session's last message is
-- that of the command.
use Rattle.std.specs.Prelude.{◌≡◌, ◌⊎◌, ℕ, ◌-◌, ◌^◌, ◌<◌, ◌&&◌, List, [], length, take, drop, Bool, true, not}
use Rattle.std.specs.Int.{from_be_bytes, w16}
use Rattle.cmac_kdf.specs.Blocks.{IsBytes}
use Rattle.scp03_card.specs.Levels.{has_r_mac}
use Rattle.scp03_card.specs.Protected.{is_success_or_warning, r_mac, session_reply}
use Rattle.scp03_card.specs.Session.{Session}

-- with R-MAC an error is its status alone
abbrev pub is_status_alone : Session → ℕ → Bool
is_status_alone session status = has_r_mac session.level && not (is_success_or_warning status)

-- the reply is that of a card to this data field and this status; where the status alone is sent, the data field is empty
pub record Unwraps (session : Session) (reply body : List ℕ) (status : ℕ) : Type 0 where
  pub sent : session_reply session body status ≡ reply
  pub bytes : IsBytes body
  pub word : status < 2 ^ 16
  pub alone : is_status_alone session status ≡ true → body ≡ []

-- the status that a reply ends in
abbrev pub status_in : List ℕ → ℕ
status_in reply = from_be_bytes w16 (drop (length reply - 2) reply)

-- with R-MAC the reply has one where its status is a success or a warning (6.2.5)
abbrev pub has_own_mac : Session → List ℕ → Bool
has_own_mac session reply = has_r_mac session.level && is_success_or_warning (status_in reply)

-- the reply is too short for its status, or for its R-MAC and its status
abbrev pub IsTooShort : Session → List ℕ → Type 0
IsTooShort session reply = (length reply < 2) ⊎ ((has_own_mac session reply ≡ true) × (length reply < 10))

-- what stands before the R-MAC, and the R-MAC
abbrev pub field_in : List ℕ → List ℕ
field_in reply = take (length reply - 10) reply

abbrev pub mac_in : List ℕ → List ℕ
mac_in reply = take 8 (drop (length reply - 10) reply)

-- the R-MAC is right where there has to be one
abbrev pub HasRightMac : Session → List ℕ → Type 0
HasRightMac session reply = has_own_mac session reply ≡ true → mac_in reply ≡ r_mac session (field_in reply) (status_in reply)
