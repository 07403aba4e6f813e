-- What a host sends in a session is a short command.
use Rattle.std.proofs.Common.{ℕ, zero, suc, ◌+◌, ◌-◌, ◌^◌, ◌<◌, ◌≤◌, List, [], ◌∷◌, ◌++◌, drop, length, None, refl, sym, ap, subst, arith, inl, inr}
use Rattle.std.specs.Prelude.{All, slice_index}
use Rattle.std.specs.Int.{byte_at, bytes_high_first, to_be_bytes, w32}
use Rattle.std.proofs.Math.Seq.{get_or-append_right}
use Rattle.std.proofs.lemmas.Bool.{cases_Bool, cases_lt}
use Rattle.std.proofs.lemmas.List.{get_or-drop, get_or_append_left, length-append}
use Rattle.std.proofs.lemmas.List.Elements.{All-from_get_or}
use Rattle.aes_block.specs.Cipher.{cipher, xor_bytes}
use Rattle.aes_block.proofs.CipherLemmas.{cipher_is_block}
use Rattle.apdu_core.specs.Apdu.{Apdu, Short, after_header}
use Rattle.apdu_core.specs.ClassBytes.{IsBasicChannel}
use Rattle.cmac_kdf.specs.Blocks.{IsBytes}
use Rattle.cmac_kdf.specs.Cbc.{cbc, cbc_blocks, sealed}
use Rattle.cmac_kdf.proofs.CbcLemmas.{length-sealed}
use Rattle.cmac_kdf.proofs.CmacLemmas.{cmac_is_block}
use Rattle.scp03_card.specs.Levels.{has_c_decryption}
use Rattle.scp03_card.specs.Offer.{s_enc, s_mac}
use Rattle.scp03_card.specs.Session.{Session, c_mac, chain_of, with_message}
use Rattle.scp03_card.proofs.Lengths.{length-c_mac}
use Rattle.scp03_card.proofs.ListLemmas.{IsBytes-take}
use Rattle.scp03_card.proofs.SessionLemmas.{chain_more}
use Rattle.scp03_host.specs.Wrapped.{having_sent, message_of, next_icv, sent_field, wrapped_command}
use Rattle.scp03_host.proofs.SentLemmas.{sent_clear, sent_sealed}
use Rattle.script_tool.specs.Command.{command_bytes}
use Rattle.sha2.specs.Sha256.{digest_bytes, sha256}

pub no_bytes : IsBytes []
no_bytes = record { at = λ i. omega arith }

pub bytes_more : (b : ℕ) (bs : List ℕ) → b < 256 → IsBytes bs → IsBytes (b ∷ bs)
bytes_more b bs small rest = record { at = at }
  where
    at : (i : ℕ) → slice_index (b ∷ bs) i < 2 ^ 8
    at zero = small
    at (suc i) = rest.at i

pub bytes_joined : (s t : List ℕ) → IsBytes s → IsBytes t → IsBytes (s ++ t)
bytes_joined s t one other = record {
  at = λ i. elim (cases_lt i (length s)) [
    | inl within ↦ rw (get_or_append_left s t 0 i within) (one.at i)
    | inr past ↦ rw (get_or-append_right s t i 0 past) (other.at (i - length s))
  ];
}

pub following_bytes : (n : ℕ) (s : List ℕ) → IsBytes s → IsBytes (drop n s)
following_bytes n s are = record { at = λ i. rw (get_or-drop n s i 0) (are.at (n + i)) }

pub all_bytes : (s : List ℕ) → IsBytes s → All (λ b. b < 256) s
all_bytes s are = All-from_get_or (λ b. b < 256) s 0 (λ i within. are.at i)

-- a number in bytes, and a digest
number_bytes : (k n : ℕ) → IsBytes (bytes_high_first k n)
number_bytes zero n = no_bytes
number_bytes (suc k) n = bytes_more (byte_at k n) (bytes_high_first k n) (small k) (number_bytes k n)
  where
    small : (i : ℕ) → byte_at i n < 256
    small zero = omega arith
    small (suc i) = omega arith

digest_octets : (h : List ℕ) (n : ℕ) → IsBytes (digest_bytes h n)
unfolding digest_bytes
digest_octets h zero = no_bytes
digest_octets h (suc n) = bytes_joined (digest_bytes h n) (to_be_bytes w32 (slice_index h n)) (digest_octets h n) (number_bytes 4 (slice_index h n))

pub sha256_octets : (bytes : List ℕ) → IsBytes (sha256 bytes)
unfolding sha256
sha256_octets bytes = digest_octets _ 8

-- what is enciphered, and a C-MAC
cbc_octets : (key c : List ℕ) (blocks : List (List ℕ)) → IsBytes (cbc_blocks key c blocks)
unfolding cbc_blocks
cbc_octets key c [] = no_bytes
cbc_octets key c (p ∷ ps) =
    bytes_joined (cipher key (xor_bytes p c)) (cbc_blocks key (cipher key (xor_bytes p c)) ps) (record { at = (cipher_is_block key (xor_bytes p c)).bytes })
    (cbc_octets key (cipher key (xor_bytes p c)) ps)

sealed_octets : (key icv bytes : List ℕ) → IsBytes (sealed key icv bytes)
unfolding sealed cbc
sealed_octets key icv bytes = cbc_octets key icv _

c_mac_octets : (session : Session) (m : List ℕ) → IsBytes (c_mac (with_message session m))
c_mac_octets session m =
    let mac = cmac_is_block (s_mac session.offer) (chain_of session ++ m) in
    IsBytes-take 8 (chain_of (with_message session m)) (subst IsBytes (sym (chain_more session m)) (record { at = mac.bytes }))

-- the data field as it is sent
module _ (session : Session) (body : List ℕ) where
  sent_octets : IsBytes body → IsBytes (sent_field session body)
  sent_octets bytes = elim (cases_lt 0 (length body)) [
    | inl some ↦ elim (cases_Bool (has_c_decryption session.level)) [
      | inl e ↦ subst IsBytes (sent_sealed session body some e) (sealed_octets (s_enc session.offer) (next_icv session) body)
      | inr e ↦ subst IsBytes (sent_clear session body e) bytes
    ]
    | inr none ↦ by body none bytes
  ]
    where
      by : (b : List ℕ) → length b ≤ 0 → IsBytes b → IsBytes (sent_field session b)
      by [] none are = no_bytes
      by (b ∷ bs) none are = absurd (omega (arith, none))

  sent_short : length body ≤ 239 → length (sent_field session body) ≤ 240
  sent_short few = elim (cases_lt 0 (length body)) [
    | inl some ↦ elim (cases_Bool (has_c_decryption session.level)) [
      | inl e ↦ omega (arith, few, ap length (sent_sealed session body some e), length-sealed (s_enc session.offer) (next_icv session) body)
      | inr e ↦ omega (arith, few, ap length (sent_clear session body e))
    ]
    | inr none ↦ by body none
  ]
    where
      by : (b : List ℕ) → length b ≤ 0 → length (sent_field session b) ≤ 240
      by [] none = omega arith
      by (b ∷ bs) none = absurd (omega (arith, none))

after_octets : (body : List ℕ) → IsBytes body → length body < 256 → IsBytes (after_header body None)
after_octets [] bytes short = no_bytes
after_octets (b ∷ bs) bytes short = bytes_more (length (b ∷ bs)) (b ∷ bs) short bytes

-- a command whose header has bytes
pub record HasByteHeader (command : Apdu) : Type 0 where
  pub ins : command.ins < 256
  pub p1 : command.p1 < 256
  pub p2 : command.p2 < 256

module _ (session : Session) (command : Apdu) (channel : ℕ) (low : IsBasicChannel channel) (head : HasByteHeader command) (bytes : IsBytes command.body)
    (few : length command.body ≤ 239) where
  abbrev sent : Apdu
  sent = wrapped_command session command channel

  mac : List ℕ
  mac = c_mac (having_sent session command)

  body_octets : IsBytes sent.body
  body_octets = bytes_joined (sent_field session command.body) (c_mac (having_sent session command)) (sent_octets session command.body bytes) (c_mac_octets session (message_of session command))

  body_short : length sent.body < 256
  body_short =
      omega (
        arith,
        sent_short session command.body few,
        length-append (sent_field session command.body) (c_mac (having_sent session command)),
        length-c_mac session (message_of session command),
      )

  pub sent_is_short : Short sent (command_bytes sent)
  sent_is_short = record {
    spelling = refl;
    octets = all_bytes (command_bytes sent)
        (bytes_more sent.class (sent.ins ∷ sent.p1 ∷ sent.p2 ∷ after_header sent.body None) (omega (arith, low))
        (bytes_more sent.ins (sent.p1 ∷ sent.p2 ∷ after_header sent.body None) head.ins
        (bytes_more sent.p1 (sent.p2 ∷ after_header sent.body None) head.p1
        (bytes_more sent.p2 (after_header sent.body None) head.p2 (after_octets sent.body body_octets body_short)))));
  }
