-- What a data field gives: at most one thing, and never more bytes.
use Rattle.std.proofs.Common.{◌≡◌, ℕ, ◌<◌, ◌≤◌, List, [], ◌∷◌, length, Bool, true, false, refl, sym, ap, ◌∙◌, arith}
use Rattle.std.proofs.lemmas.Bool.{true≢false}
use Rattle.aes_block.specs.Cipher.{IsBlock}
use Rattle.aes_block.proofs.CipherLemmas.{cipher_is_block}
use Rattle.apdu_core.specs.Apdu.{Apdu}
use Rattle.cmac_kdf.specs.Blocks.{IsBytes}
use Rattle.cmac_kdf.specs.Cbc.{sealed}
use Rattle.cmac_kdf.proofs.CbcLemmas.{same_sealed, length-sealed}
use Rattle.scp03_card.specs.Offer.{s_enc}
use Rattle.scp03_card.specs.Levels.{has_c_decryption}
use Rattle.scp03_card.specs.Opens.{Gives, GivesBy, Opens, accepting, command_icv, field_of}
use Rattle.scp03_card.specs.Session.{Session}

command_icv_is_block : (session : Session) → IsBlock (command_icv session)
unfolding command_icv
command_icv_is_block session = cipher_is_block (s_enc session.offer) _

gives_by_one : (decrypts : Bool) (session : Session) (field p q : List ℕ) → GivesBy decrypts session field p → GivesBy decrypts session field q → p ≡ q
gives_by_one true session field p q (bp, ep) (bq, eq) =
    same_sealed (s_enc session.offer) (command_icv session) p q (command_icv_is_block session) bp bq (ep ∙ sym eq)
gives_by_one false session field p q ep eq = ep ∙ sym eq

-- a field gives at most one thing
pub gives_one : (session : Session) (field p q : List ℕ) → Gives session field p → Gives session field q → p ≡ q
gives_one session [] p q ep eq = ep ∙ sym eq
gives_one session (b ∷ bs) p q g h = gives_by_one (has_c_decryption session.level) session (b ∷ bs) p q g h

gives_by_fits : (decrypts : Bool) (session : Session) (field p : List ℕ) → GivesBy decrypts session field p → length p ≤ length field
gives_by_fits true session field p (bp, ep) =
    omega (arith, length-sealed (s_enc session.offer) (command_icv session) p, ap length ep)
gives_by_fits false session field p ep = omega (arith, ap length ep)

-- a field never gives more bytes than it has
pub gives_fits : (session : Session) (field p : List ℕ) → Gives session field p → length p ≤ length field
gives_fits session [] p ep = omega (arith, ap length ep)
gives_fits session (b ∷ bs) p g = gives_by_fits (has_c_decryption session.level) session (b ∷ bs) p g

-- a command opens to at most one data field
pub opens_one : (session : Session) (command : Apdu) (p q : List ℕ) → Opens session command p → Opens session command q → p ≡ q
opens_one session command p q g h = gives_one (accepting session command) (field_of command) p q g.gives h.gives

pub opens_fits : (session : Session) (command : Apdu) (p : List ℕ) → Opens session command p → length p ≤ length (field_of command)
opens_fits session command p g = gives_fits (accepting session command) (field_of command) p g.gives

-- ---- a field that is enciphered

sealed_of : (decrypts : Bool) (session : Session) (field p : List ℕ) → decrypts ≡ true → GivesBy decrypts session field p
    → IsBytes p × (sealed (s_enc session.offer) (command_icv session) p ≡ field)
sealed_of true session field p e g = g
sealed_of false session field p e g = absurd (true≢false (sym e))

of_sealed : (decrypts : Bool) (session : Session) (field p : List ℕ) → decrypts ≡ true → IsBytes p
    → sealed (s_enc session.offer) (command_icv session) p ≡ field → GivesBy decrypts session field p
of_sealed true session field p e b s = (b, s)
of_sealed false session field p e b s = absurd (true≢false (sym e))

pub gives_sealed : (session : Session) (field p : List ℕ) → 0 < length field → has_c_decryption session.level ≡ true → IsBytes p
    → sealed (s_enc session.offer) (command_icv session) p ≡ field → Gives session field p
gives_sealed session [] p some e b s = absurd (omega arith)
gives_sealed session (f ∷ fs) p some e b s = of_sealed (has_c_decryption session.level) session (f ∷ fs) p e b s

pub sealed_gives : (session : Session) (field p : List ℕ) → 0 < length field → has_c_decryption session.level ≡ true → Gives session field p
    → IsBytes p × (sealed (s_enc session.offer) (command_icv session) p ≡ field)
sealed_gives session [] p some e g = absurd (omega arith)
sealed_gives session (f ∷ fs) p some e g = sealed_of (has_c_decryption session.level) session (f ∷ fs) p e g

gives_by_itself : (decrypts : Bool) (session : Session) (field : List ℕ) → decrypts ≡ false → GivesBy decrypts session field field
gives_by_itself true session field e = absurd (true≢false e)
gives_by_itself false session field e = refl

-- any other field gives itself
pub gives_itself : (session : Session) (field : List ℕ) → has_c_decryption session.level ≡ false → Gives session field field
gives_itself session [] e = refl
gives_itself session (f ∷ fs) e = gives_by_itself (has_c_decryption session.level) session (f ∷ fs) e

pub none_gives_none : (session : Session) (field : List ℕ) → length field ≡ 0 → Gives session field field
none_gives_none session [] e = refl
none_gives_none session (f ∷ fs) e = absurd (omega arith)
