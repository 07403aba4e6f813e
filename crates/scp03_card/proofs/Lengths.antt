-- Lengths of challenges, cryptograms and C-MACs, and a command that is sent with its C-MAC.
use Rattle.std.proofs.Common.{◌≡◌, ℕ, ◌+◌, ◌-◌, ◌*◌, ◌/◌, ◌<◌, Option, List, ◌∷◌, ◌++◌, length, take, refl, sym, ap, ◌∙◌, arith}
use Rattle.std.proofs.lemmas.List.{length-append, length-take-le, take_at}
use Rattle.apdu_core.specs.Apdu.{Apdu}
use Rattle.apdu_core.specs.ClassBytes.{IsBasicChannel, off_channel, on_channel}
use Rattle.apdu_core.proofs.ClassBytes.{is_of_class}
use Rattle.card_types.specs.Level.{code_of}
use Rattle.card_types.specs.declared.level.Level.{Level}
use Rattle.cmac_kdf.specs.Cmac.{cmac}
use Rattle.cmac_kdf.specs.Derivation.{derivation_data, derived_blocks, kdf}
use Rattle.cmac_kdf.proofs.CmacLemmas.{cmac_is_block}
use Rattle.scp03_card.specs.Offer.{Offer, card_challenge, host_cryptogram, context, counter_bytes, s_mac}
use Rattle.scp03_card.specs.Opens.{IsAuthentic, field_of}
use Rattle.scp03_card.specs.Session.{Session, authentication, c_mac, chain_of, message, with_message}
use Rattle.scp03_card.proofs.SessionLemmas.{chain_more}

length-kdf : (key : List ℕ) (constant : ℕ) (context : List ℕ) → length (kdf key constant 64 context) ≡ 8
unfolding kdf derived_blocks
length-kdf key constant context =
    length-take-le 8 (cmac key (derivation_data constant 64 context 1)) (omega (arith, (cmac_is_block key (derivation_data constant 64 context 1)).sixteen))

pub length-card_challenge : (enc : List ℕ) (counter : ℕ) (aid : List ℕ) → length (card_challenge enc counter aid) ≡ 8
unfolding card_challenge
length-card_challenge enc counter aid = length-kdf enc 0x02 (counter_bytes counter ++ aid)

pub length-host_cryptogram : (offer : Offer) → length (host_cryptogram offer) ≡ 8
unfolding host_cryptogram
length-host_cryptogram offer = length-kdf (s_mac offer) 0x01 (context offer)

-- of a session that has a message
pub length-c_mac : (session : Session) (m : List ℕ) → length (c_mac (with_message session m)) ≡ 8
length-c_mac session m =
    let sixteen = (cmac_is_block (s_mac session.offer) (chain_of session ++ m)).sixteen in
    length-take-le 8 (chain_of (with_message session m)) (omega (arith, ap length (chain_more session m), sixteen))

-- what is sent before eight bytes is the data field
pub field_sent : (command : Apdu) (field t : List ℕ) → command.body ≡ field ++ t → length t ≡ 8 → field_of command ≡ field
field_sent command field t e lt =
    let n : length command.body - 8 ≡ length field = omega (arith, ap length e, length-append field t) in
    (λ i. take (n i) (e i)) ∙ take_at field t (length field) refl

-- a command that is sent with its C-MAC is authentic
pub authentic_sent : (session : Session) (command : Apdu) (field : List ℕ)
    → command.body ≡ field ++ c_mac (with_message session (message command field)) → IsAuthentic session command
authentic_sent session command field e =
    let same : field_of command ≡ field = field_sent command field _ e (length-c_mac session (message command field)) in
    e ∙ (λ i. sym same i ++ c_mac (with_message session (message command (sym same i))))

pub first_message_is : (offer : Offer) (level : Level) (channel : ℕ) (body : List ℕ) (le : Option ℕ) → IsBasicChannel channel
    → message (record { class = on_channel 0x84 channel; ins = 0x82; p1 = code_of level; p2 = 0x00; body = body; le = le }) (host_cryptogram offer) ≡ authentication offer level
unfolding message
first_message_is offer level channel body le lt =
    let class : off_channel (on_channel 0x84 channel) ≡ 0x84 = is_of_class 0x84 channel refl lt in
    let lc : length (host_cryptogram offer) + 8 ≡ 0x10 = omega (arith, length-host_cryptogram offer) in
    (λ i. class i ∷ 0x82 ∷ code_of level ∷ 0x00 ∷ lc i ∷ host_cryptogram offer)
