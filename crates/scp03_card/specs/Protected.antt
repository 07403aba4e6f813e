-- The reply to a protected command (GlobalPlatform Amendment D, 6.2.5, 6.2.7). The session's last message is that of the command.
use Rattle.std.specs.Prelude.{ℕ, ◌/◌, ◌==◌, ◌||◌, List, [], ◌∷◌, ◌++◌, take, drop, Bool, if◌then◌else◌}
use Rattle.std.specs.Int.{w128, to_be_bytes}
use Rattle.aes_block.specs.Cipher.{cipher}
use Rattle.apdu_core.specs.Reply.{status_bytes}
use Rattle.cmac_kdf.specs.Cbc.{sealed}
use Rattle.cmac_kdf.specs.Cmac.{cmac}
use Rattle.scp03_card.specs.Levels.{has_r_mac, has_r_encryption}
use Rattle.scp03_card.specs.Offer.{s_enc, s_rmac}
use Rattle.scp03_card.specs.Session.{Session, chain_of, message_number}

-- the status words of success and of warnings: 9000, 62xx and 63xx
abbrev pub is_success_or_warning : ℕ → Bool
is_success_or_warning status = (status == 0x9000) || (status / 0x100 == 0x62) || (status / 0x100 == 0x63)

-- the initial chaining vector: the number of the command in sixteen bytes, the first of them 80, enciphered (6.2.7)
unfoldable pub reply_icv : Session → List ℕ
reply_icv session = cipher (s_enc session.offer) (0x80 ∷ drop 1 (to_be_bytes w128 (message_number session)))

-- the data field as it is sent: with R-ENCRYPTION padded and enciphered where it is not empty (6.2.7)
abbrev pub reply_field : Session → List ℕ → List ℕ
reply_field session [] = []
reply_field session (b ∷ bs) =
    if has_r_encryption session.level then sealed (s_enc session.offer) (reply_icv session) (b ∷ bs) else b ∷ bs

-- the R-MAC: of the chaining value, the data field as it is sent, and the status (6.2.5)
unfoldable pub r_mac : Session → List ℕ → ℕ → List ℕ
r_mac session field status = take 8 (cmac (s_rmac session.offer) (chain_of session ++ field ++ status_bytes status))

-- a reply with its R-MAC
abbrev pub with_r_mac : Session → List ℕ → ℕ → List ℕ
with_r_mac session field status = field ++ r_mac session field status ++ status_bytes status

-- with R-MAC an error is its status alone (6.2.5)
abbrev pub r_mac_reply : Session → List ℕ → ℕ → List ℕ
r_mac_reply session body status =
    if is_success_or_warning status then with_r_mac session (reply_field session body) status else status_bytes status

-- the whole reply with this data field and this status
abbrev pub session_reply : Session → List ℕ → ℕ → List ℕ
session_reply session body status = if has_r_mac session.level then r_mac_reply session body status else body ++ status_bytes status
