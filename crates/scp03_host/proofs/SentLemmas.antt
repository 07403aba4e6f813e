-- The data field of a command as it is sent.
use Rattle.std.proofs.Common.{◌≡◌, ℕ, ◌<◌, List, [], ◌∷◌, length, true, false, refl, ◌∙◌, arith}
use Rattle.std.proofs.lemmas.List.{length-append}
use Rattle.std.specs.Int.{w128, to_be_bytes}
use Rattle.aes_block.specs.Cipher.{cipher}
use Rattle.cmac_kdf.specs.Cbc.{sealed}
use Rattle.scp03_card.specs.Kept.{HasSessionKeys, Keys}
use Rattle.scp03_card.specs.Levels.{has_c_decryption}
use Rattle.scp03_card.specs.Offer.{s_enc}
use Rattle.scp03_card.specs.Session.{Session, message_number, with_message}
use Rattle.scp03_host.specs.Wrapped.{next_icv, next_message, sent_field}

-- the number of the message after the others
pub number_of_next : (session : Session) (m : List ℕ) → message_number (with_message session m) ≡ next_message session
number_of_next session m = omega (arith, length-append session.messages (m ∷ []))

pub sent_sealed : (session : Session) (body : List ℕ) → 0 < length body → has_c_decryption session.level ≡ true
    → sealed (s_enc session.offer) (next_icv session) body ≡ sent_field session body
sent_sealed session [] some e = absurd (omega arith)
sent_sealed session (b ∷ bs) some e = rw (e) refl

pub sent_clear : (session : Session) (body : List ℕ) → has_c_decryption session.level ≡ false → body ≡ sent_field session body
sent_clear session [] e = refl
sent_clear session (b ∷ bs) e = rw (e) refl

pub sent_none : (session : Session) (body : List ℕ) → length body ≡ 0 → body ≡ sent_field session body
sent_none session [] e = refl
sent_none session (b ∷ bs) e = absurd (omega arith)

-- a field that is enciphered under what is kept
pub kept_sent : (keys : Keys) (session : Session) (n : ℕ) (body : List ℕ) → HasSessionKeys keys session.offer → n ≡ next_message session
    → 0 < length body → has_c_decryption session.level ≡ true
    → sealed keys.enc (cipher keys.enc (to_be_bytes w128 n)) body ≡ sent_field session body
unfolding next_icv
kept_sent keys session n body has en some e =
    (λ i. sealed (has.enc i) (cipher (has.enc i) (to_be_bytes w128 (en i))) body) ∙ sent_sealed session body some e
