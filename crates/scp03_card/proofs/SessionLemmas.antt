-- What is kept of a session gives the values of the session.
use Rattle.std.proofs.Common.{◌≡◌, ℕ, ◌+◌, ◌*◌, ◌/◌, ◌%◌, ◌^◌, ◌<◌, List, [], ◌∷◌, ◌++◌, length, take, drop, true, false, refl, sym, ap, ◌∙◌, arith}
use Rattle.std.proofs.lemmas.List.{length-append, append_assoc}
use Rattle.std.proofs.lemmas.List.Sums.{fold-append}
use Rattle.std.specs.Int.{w128, to_be_bytes}
use Rattle.aes_block.specs.Cipher.{cipher}
use Rattle.apdu_core.specs.Apdu.{Apdu}
use Rattle.apdu_core.specs.Reply.{status_bytes}
use Rattle.apdu_core.specs.ClassBytes.{off_channel}
use Rattle.cmac_kdf.specs.Blocks.{zero_block}
use Rattle.cmac_kdf.specs.Cbc.{sealed}
use Rattle.cmac_kdf.specs.Cmac.{cmac}
use Rattle.scp03_card.specs.Levels.{has_r_mac, has_r_encryption}
use Rattle.scp03_card.specs.Offer.{s_mac}
use Rattle.scp03_card.specs.Session.{Session, chain, chain_of, message, message_number, with_message}
use Rattle.scp03_card.specs.Opens.{command_icv}
use Rattle.scp03_card.specs.Protected.{is_success_or_warning, r_mac, reply_field, reply_icv, session_reply, with_r_mac}
use Rattle.scp03_card.specs.Kept.{HasSessionKeys, Keys, KeptSession, RepresentsSession}

-- the chaining value after one more message
pub chain_more : (session : Session) (m : List ℕ) → chain_of (with_message session m) ≡ cmac (s_mac session.offer) (chain_of session ++ m)
unfolding chain
chain_more session m =
    fold-append (λ (value next : List ℕ). cmac (s_mac session.offer) (value ++ next)) zero_block session.messages (m ∷ [])

module _ (kept : KeptSession) (session : Session) (stands : RepresentsSession kept session) where
  pub kept_next_chain : (m : List ℕ) → cmac kept.keys.mac (kept.chain ++ m) ≡ chain_of (with_message session m)
  kept_next_chain m = (λ i. cmac (stands.keys.mac i) (stands.chain i ++ m)) ∙ sym (chain_more session m)

  pub kept_r_mac : (field : List ℕ) (status : ℕ) → take 8 (cmac kept.keys.rmac (kept.chain ++ field ++ status_bytes status)) ≡ r_mac session field status
  unfolding r_mac
  kept_r_mac field status = (λ i. take 8 (cmac (stands.keys.rmac i) (stands.chain i ++ field ++ status_bytes status)))

  -- a reply that is enciphered
  pub kept_sealed : (body x : List ℕ) → 0 < length body → has_r_encryption kept.level ≡ true
      → x ≡ sealed kept.keys.enc (cipher kept.keys.enc (0x80 ∷ drop 1 (to_be_bytes w128 kept.number))) body → x ≡ reply_field session body
  unfolding reply_icv
  kept_sealed [] x some e ex = absurd (omega arith)
  kept_sealed (b ∷ bs) x some e ex =
      rw (ap has_r_encryption (sym stands.level) ∙ e)
      (ex ∙ (λ i. sealed (stands.keys.enc i) (cipher (stands.keys.enc i) (0x80 ∷ drop 1 (to_be_bytes w128 (stands.number i)))) (b ∷ bs)))

  -- the number of the next message
  pub kept_next_number : (m : List ℕ) (n : ℕ) → n ≡ (kept.number + 1) % 2 ^ 128 → n ≡ message_number (with_message session m)
  kept_next_number m n en =
      omega (arith, stands.started, stands.number, length-append session.messages (m ∷ []))

-- the initial chaining vector of a command
pub command_icv_of : (keys : Keys) (session : Session) (n : ℕ) → HasSessionKeys keys session.offer → n ≡ message_number session
    → cipher keys.enc (to_be_bytes w128 n) ≡ command_icv session
unfolding command_icv
command_icv_of keys session n has en = (λ i. cipher (has.enc i) (to_be_bytes w128 (en i)))

-- ---- the cases of a reply

module _ (session : Session) (body : List ℕ) (status : ℕ) where
  pub protected_plain : has_r_mac session.level ≡ false → body ++ status_bytes status ≡ session_reply session body status
  protected_plain e = rw (e) refl

  pub protected_error : has_r_mac session.level ≡ true → is_success_or_warning status ≡ false → status_bytes status ≡ session_reply session body status
  protected_error e f = rw (e, f) refl

  pub protected_whole : has_r_mac session.level ≡ true → is_success_or_warning status ≡ true
      → with_r_mac session (reply_field session body) status ≡ session_reply session body status
  protected_whole e f = rw (e, f) refl

-- a reply field that stays
pub reply_field_clear : (session : Session) (body : List ℕ) → has_r_encryption session.level ≡ false → body ≡ reply_field session body
reply_field_clear session [] e = refl
reply_field_clear session (b ∷ bs) e = rw (e) refl

pub reply_field_none : (session : Session) (body : List ℕ) → length body ≡ 0 → body ≡ reply_field session body
reply_field_none session [] e = refl
reply_field_none session (b ∷ bs) e = absurd (omega arith)

-- the header of a command, with Lc
abbrev pub header_of : Apdu → List ℕ → List ℕ
header_of command field = off_channel command.class ∷ command.ins ∷ command.p1 ∷ command.p2 ∷ (length field + 8) ∷ []

-- a message is the header and the data field
pub message_after : (chaining : List ℕ) (command : Apdu) (field : List ℕ) → (chaining ++ header_of command field) ++ field ≡ chaining ++ message command field
unfolding message
message_after chaining command field = append_assoc chaining (header_of command field) field
