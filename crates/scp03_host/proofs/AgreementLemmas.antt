-- What the host sends opens at the card, and what the card answers gives the host the plain reply.
use Rattle.std.proofs.Common.{◌≡◌, ℕ, ◌+◌, ◌^◌, ◌<◌, List, [], ◌∷◌, ◌++◌, length, refl, sym, ap, subst, ◌∙◌, arith, inl, inr}
use Rattle.std.specs.Prelude.{not}
use Rattle.std.proofs.lemmas.Bool.{and_parts, cases_Bool, not-true, true≢false}
use Rattle.std.proofs.lemmas.List.{drop_at, take_at}
use Rattle.std.proofs.lemmas.List.Elements.{All-head, All-tail}
use Rattle.std.specs.Int.{w128, to_be_bytes}
use Rattle.aes_block.specs.Cipher.{cipher}
use Rattle.apdu_core.specs.Apdu.{Apdu}
use Rattle.apdu_core.specs.Reply.{status_bytes}
use Rattle.apdu_core.specs.ClassBytes.{IsBasicChannel, off_channel, on_channel}
use Rattle.apdu_core.proofs.ClassBytes.{is_of_class}
use Rattle.cmac_kdf.specs.Blocks.{IsBytes}
use Rattle.cmac_kdf.specs.Cbc.{sealed}
use Rattle.cmac_kdf.proofs.CbcLemmas.{length-sealed}
use Rattle.scp03_card.specs.Levels.{has_c_decryption, has_r_mac}
use Rattle.scp03_card.specs.Offer.{host_cryptogram, s_enc}
use Rattle.scp03_card.specs.Opens.{Gives, Opens, accepting, command_icv, field_of}
use Rattle.scp03_card.specs.Protected.{is_success_or_warning, r_mac, reply_field, session_reply}
use Rattle.scp03_card.specs.Session.{Session, c_mac, message, session_from, with_message}
use Rattle.scp03_card.proofs.GivesLemmas.{gives_itself, gives_sealed}
use Rattle.scp03_card.proofs.Lengths.{authentic_sent, field_sent, length-c_mac, length-host_cryptogram}
use Rattle.scp03_card.proofs.SessionLemmas.{protected_error}
use Rattle.scp03_host.specs.Agreement.{BeginAgreeing, GoOnAgreeing, IsExchange, OnePlainReply, told_field}
use Rattle.scp03_host.specs.Unwrapped.{Unwraps, is_status_alone}
use Rattle.scp03_host.specs.Wrapped.{as_sent, having_sent, message_of, next_icv, sent_field, wrapped_command}
use Rattle.scp03_host.proofs.ReplyLemmas.{error, error_alone, front, kind, length-r_mac, one_reply_field, plain, plain_parts, protected_front, whole, whole_parts}
use Rattle.scp03_host.proofs.SentLemmas.{number_of_next, sent_clear, sent_sealed}

-- the vector of the message that is accepted is that of the message to come
icv_of_next : (session : Session) (m : List ℕ) → next_icv session ≡ command_icv (with_message session m)
unfolding next_icv command_icv
icv_of_next session m = ap (λ (n : ℕ). cipher (s_enc session.offer) (to_be_bytes w128 n)) (sym (number_of_next session m))

-- the channel is not in the message
same_message : (session : Session) (command : Apdu) (channel : ℕ) (body : List ℕ) → IsBasicChannel channel
    → message (as_sent command channel body) (sent_field session command.body) ≡ message_of session command
unfolding message
same_message session command channel body small =
    let class : off_channel (on_channel 0x84 channel) ≡ 0x84 = is_of_class 0x84 channel refl small in
    (λ i. class i ∷ command.ins ∷ command.p1 ∷ command.p2 ∷ (length (sent_field session command.body) + 8) ∷ sent_field session command.body)

gives_body : (session : Session) (m body : List ℕ) → IsBytes body → Gives (with_message session m) (sent_field session body) body
gives_body session m [] bytes = refl
gives_body session m (b ∷ bs) bytes = elim (cases_Bool (has_c_decryption session.level)) [
  | inl e ↦
      let sealed_so = sent_sealed session (b ∷ bs) (omega arith) e in
      gives_sealed (with_message session m) (sent_field session (b ∷ bs)) (b ∷ bs)
      (omega (arith, ap length sealed_so, length-sealed (s_enc session.offer) (next_icv session) (b ∷ bs))) e bytes
      (ap (λ (icv : List ℕ). sealed (s_enc session.offer) icv (b ∷ bs)) (sym (icv_of_next session m)) ∙ sealed_so)
  | inr e ↦ subst (λ (f : List ℕ). Gives (with_message session m) f (b ∷ bs)) (sent_clear session (b ∷ bs) e) (gives_itself (with_message session m) (b ∷ bs) e)
]

module _ (session : Session) (command : Apdu) (channel : ℕ) (small : IsBasicChannel channel) (bytes : IsBytes command.body) where
  field_is : field_of (wrapped_command session command channel) ≡ sent_field session command.body
  field_is =
      field_sent (wrapped_command session command channel) (sent_field session command.body) (c_mac (having_sent session command)) refl
      (length-c_mac session (message_of session command))

  pub accepting_is : accepting session (wrapped_command session command channel) ≡ having_sent session command
  accepting_is =
      ap (with_message session)
      (ap (message (wrapped_command session command channel)) field_is
      ∙ same_message session command channel (sent_field session command.body ++ c_mac (having_sent session command)) small)

  pub opens_sent : Opens session (wrapped_command session command channel) command.body
  opens_sent =
      let joined = same_message session command channel (sent_field session command.body ++ c_mac (having_sent session command)) small in
      record {
        authentic =
            authentic_sent session (wrapped_command session command channel) (sent_field session command.body)
            (λ i. sent_field session command.body ++ c_mac (with_message session (sym joined i)));
        gives =
            subst (λ (f : List ℕ). Gives (accepting session (wrapped_command session command channel)) f command.body) (sym field_is)
            (subst (λ (s : Session). Gives s (sent_field session command.body) command.body) (sym accepting_is)
            (gives_body session (message_of session command) command.body bytes));
      }

-- what the card answers gives the host what it is to be told
pub told_unwraps : (session : Session) (body : List ℕ) (status : ℕ) → IsBytes body → status < 2 ^ 16
    → Unwraps session (session_reply session body status) (told_field session body status) status
told_unwraps session body status bytes word = elim (cases_Bool (is_status_alone session status)) [
  | inl a ↦
      let none : told_field session body status ≡ [] = rw (a) refl in
      let both = and_parts (has_r_mac session.level) (not (is_success_or_warning status)) a in
      let error = not-true (is_success_or_warning status) both.1 in
      record {
        sent =
            ap (λ (b : List ℕ). session_reply session b status) none
            ∙ sym (protected_error session [] status both.0 error) ∙ protected_error session body status both.0 error;
        bytes = subst IsBytes (sym none) (record { at = λ j. omega arith });
        word = word;
        alone = λ same. none;
      }
  | inr f ↦
      let whole : told_field session body status ≡ body = rw (f) refl in
      record {
        sent = ap (λ (b : List ℕ). session_reply session b status) whole;
        bytes = subst IsBytes (sym whole) bytes;
        word = word;
        alone = λ a. absurd (true≢false (sym a ∙ f));
      }
]

pub go_on_agreeing : GoOnAgreeing
go_on_agreeing session [] all = tt
go_on_agreeing session (first ∷ rest) all =
    let it : IsExchange session.level first = All-head (IsExchange session.level) first rest all in (
      record {
        opened = opens_sent session first.command first.channel it.channel it.bytes;
        together = accepting_is session first.command first.channel it.channel it.bytes;
        told = told_unwraps (having_sent session first.command) first.body first.status it.body it.status;
      },
      go_on_agreeing (having_sent session first.command) rest (All-tail (IsExchange session.level) first rest all),
    )

pub begin_agreeing : BeginAgreeing
begin_agreeing offer level channel = (
  take_at (host_cryptogram offer) (c_mac (session_from offer level)) 8 (length-host_cryptogram offer),
  drop_at (host_cryptogram offer) (c_mac (session_from offer level)) 8 (length-host_cryptogram offer),
)

pub one_plain_reply : OnePlainReply
one_plain_reply session reply body other status another u v =
    let before = front session other another in
    let split : reply ≡ front session other another ++ status_bytes another = sym v.sent ∙ protected_front session other another in
    elim (kind (has_r_mac session.level) (is_success_or_warning another)) [
      | plain m ↦
          let same = plain_parts session reply before another split m body status u in
          (sym same.0 ∙ rw (m) refl, sym same.1)
      | error m e ↦
          let one = error_alone session reply before another split m e body status u in
          let two = error_alone session reply before another split m e other another v in
          (one.0 ∙ sym two.0, one.2)
      | whole m s ↦
          let joined : front session other another ≡ reply_field session other ++ r_mac session (reply_field session other) another = rw (m, s) refl in
          let same = whole_parts session reply before another split m s (reply_field session other) (r_mac session (reply_field session other) another) joined
          (length-r_mac session (reply_field session other) another) body status u in
          (one_reply_field session body other u.bytes v.bytes same.0, same.2)
    ]
