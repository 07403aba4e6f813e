-- The keys that a PUT KEY brings, and what comes of it.
use Rattle.std.proofs.Common.{◌≡◌, ◌⊎◌, inl, inr, ℕ, ◌≤◌, Bool, true, false, List, [], ◌∷◌, length, refl, ap, sym, subst, ◌∙◌, arith}
use Rattle.std.specs.Prelude.{◌↔◌, IsTrue, MatchOption}
use Rattle.std.proofs.lemmas.List.Elements.{All-cons, All-head, All-nil, All-tail}
use Rattle.policy_machine.proofs.PutKeyKeeps.{HaveLengths}
use Rattle.card_core.specs.Prelude.{Admitted, AreKeysSent, AreOpened, ChecksFit, HasFieldLengths, IsNewVersion, IsRequestOf, IsWellFormed, KeptSession, Nothing, Offered, PutKeyParameters, RepresentsSecureChannel, RepresentsSession, SaysChecks, SecureChannel, Secured, SentKey, Session, key_count, secure_channel_for, sent_key, sent_keys, session_in, session_on}
use Rattle.policy_machine.proofs.PutKeyOnce.{one_sent, opened_once, put_fails}
use Rattle.policy_rules.specs.declared.put_key.PutKeys.{PutKeys}
use Rattle.policy_rules.specs.declared.put_key.PutKeys.TheVariants.{One, Three}
use Rattle.policy_rules.specs.declared.put_key.SealedKey.{SealedKey}
use Rattle.policy_rules.specs.declared.request.Request.TheVariants.{PutKey}
use Rattle.card_core.specs.declared.channel_session.ChannelSession.TheVariants as held
use Rattle.policy_machine.specs.declared.put_key.RulePK.TheVariants.{PK3}

-- what is so of the fields of a token or receipt key, and of a key set
pub record IsFormedOne (replaced version : ℕ) (sent : SealedKey) : Type 0 where
  pub replaces : (replaced ≡ 0) ⊎ (replaced ≡ 0x70) ⊎ (replaced ≡ 0x71)
  pub new : (version ≡ 0x70) ⊎ (version ≡ 0x71)
  pub lengths : HasFieldLengths (sent_key sent)

pub record IsFormedSet (replaced version : ℕ) (enc mac dek : SealedKey) : Type 0 where
  pub replaces : replaced ≤ 0x6F
  pub new : (1 ≤ version) × (version ≤ 0x6F)
  pub enc_lengths : HasFieldLengths (sent_key enc)
  pub mac_lengths : HasFieldLengths (sent_key mac)
  pub dek_lengths : HasFieldLengths (sent_key dek)
  pub mac_size : mac.len ≡ enc.len
  pub dek_size : dek.len ≡ enc.len

one_replaced : (p1 p2 : ℕ) → PutKeyParameters p1 p2 → 1 ≡ key_count p2 → (p1 ≡ 0) ⊎ (p1 ≡ 0x70) ⊎ (p1 ≡ 0x71)
one_replaced p1 p2 (inl set) count = (let clash = count ∙ ap key_count set.1 in absurd (omega (arith, clash)))
one_replaced p1 p2 (inr one) count = one.0

set_replaced : (p1 p2 : ℕ) → PutKeyParameters p1 p2 → 3 ≡ key_count p2 → p1 ≤ 0x6F
set_replaced p1 p2 (inl set) count = set.0
set_replaced p1 p2 (inr one) count = (let clash = count ∙ ap key_count one.1 in absurd (omega (arith, clash)))

one_new : (p2 version : ℕ) → IsNewVersion p2 version → 1 ≡ key_count p2 → (version ≡ 0x70) ⊎ (version ≡ 0x71)
one_new p2 version (inl set) count = (let clash = count ∙ ap key_count set.0 in absurd (omega (arith, clash)))
one_new p2 version (inr one) count = one.1

set_new : (p2 version : ℕ) → IsNewVersion p2 version → 3 ≡ key_count p2 → (1 ≤ version) × (version ≤ 0x6F)
set_new p2 version (inl set) count = (set.1, set.2)
set_new p2 version (inr one) count = (let clash = count ∙ ap key_count one.0 in absurd (omega (arith, clash)))

pub formed_one : (replaced version : ℕ) (sent : SealedKey) → IsWellFormed (PutKey replaced version (One sent)) → IsFormedOne replaced version sent
formed_one replaced version sent formed =
    let command = formed.0 in
    let request = formed.1 in
    let has = request.means.1 in
    let p1 = request.means.0 in
    let takes = request.form.1 in
    record {
      replaces = subst (λ (r : ℕ). (r ≡ 0) ⊎ (r ≡ 0x70) ⊎ (r ≡ 0x71)) (sym p1) (one_replaced command.p1 command.p2 takes has.count);
      new = one_new command.p2 version has.new has.count;
      lengths = All-head HasFieldLengths (sent_key sent) [] has.each;
    }

pub formed_set : (replaced version : ℕ) (enc mac dek : SealedKey) → IsWellFormed (PutKey replaced version (Three enc mac dek)) → IsFormedSet replaced version enc mac dek
formed_set replaced version enc mac dek formed =
    let command = formed.0 in
    let request = formed.1 in
    let has = request.means.1 in
    let p1 = request.means.0 in
    let takes = request.form.1 in
    let first = has.each in
    let second = All-tail HasFieldLengths (sent_key enc) (sent_key mac ∷ sent_key dek ∷ []) first in
    let third = All-tail HasFieldLengths (sent_key mac) (sent_key dek ∷ []) second in
    let is_size = λ (key : SentKey). key.size ≡ has.alike.0 in
    let sizes = has.alike.1 in
    let rest = All-tail is_size (sent_key enc) (sent_key mac ∷ sent_key dek ∷ []) sizes in
    let enc_size = All-head is_size (sent_key enc) (sent_key mac ∷ sent_key dek ∷ []) sizes in
    record {
      replaces = subst (λ (r : ℕ). r ≤ 0x6F) (sym p1) (set_replaced command.p1 command.p2 takes has.count);
      new = set_new command.p2 version has.new has.count;
      enc_lengths = All-head HasFieldLengths (sent_key enc) (sent_key mac ∷ sent_key dek ∷ []) first;
      mac_lengths = All-head HasFieldLengths (sent_key mac) (sent_key dek ∷ []) second;
      dek_lengths = All-head HasFieldLengths (sent_key dek) [] third;
      mac_size = All-head is_size (sent_key mac) (sent_key dek ∷ []) rest ∙ sym enc_size;
      dek_size = All-head is_size (sent_key dek) [] (All-tail is_size (sent_key mac) (sent_key dek ∷ []) rest) ∙ sym enc_size;
    }

-- keys as long as they are said to be have one length
pub one_length : (sent : SealedKey) (key : List ℕ) → HasFieldLengths (sent_key sent) → length key ≡ sent.len → HaveLengths (key ∷ [])
one_length sent key has is = record { size = sent.len; is_length = has.size; each = All-cons (λ bytes. length bytes ≡ sent.len) key [] is (All-nil (λ bytes. length bytes ≡ sent.len)) }

pub three_lengths : (replaced version : ℕ) (enc mac dek : SealedKey) (x y z : List ℕ) → IsFormedSet replaced version enc mac dek → length x ≡ enc.len → length y ≡ mac.len
    → length z ≡ dek.len → HaveLengths (x ∷ y ∷ z ∷ [])
three_lengths replaced version enc mac dek x y z form first second third =
    let is_size = λ (bytes : List ℕ). length bytes ≡ enc.len in
    record {
      size = enc.len;
      is_length = form.enc_lengths.size;
      each = All-cons is_size x (y ∷ z ∷ []) first
          (All-cons is_size y (z ∷ []) (second ∙ form.mac_size) (All-cons is_size z [] (third ∙ form.dek_size) (All-nil is_size)));
    }

-- the session of the channel is one for which the session that is held stands
in_session : (kept : KeptSession) (secure_channel : SecureChannel) → RepresentsSecureChannel (held.Secured kept) secure_channel → (sent : List SentKey) (bytes : List (List ℕ))
    → ((session : Session) → RepresentsSession kept session → AreKeysSent session.offer.dek sent bytes)
    → MatchOption (session_in secure_channel) ⊥ (λ session. AreKeysSent session.offer.dek sent bytes)
in_session kept Nothing holds sent bytes are = absurd holds
in_session kept (Offered offer) holds sent bytes are = absurd holds
in_session kept (Secured session) holds sent bytes are = are session holds

module _ (admitted : Admitted) (replaced version : ℕ) (keys : PutKeys) (request : IsRequestOf (PutKey replaced version keys) admitted.command)
    (kept : KeptSession) (holds : RepresentsSecureChannel (held.Secured kept) (secure_channel_for admitted)) (bytes : List (List ℕ))
    (are : (session : Session) → RepresentsSession kept session → AreKeysSent session.offer.dek (sent_keys keys) bytes) where
  pub brought : AreOpened admitted (sent_keys keys) bytes
  brought = in_session kept (secure_channel_for admitted) holds (sent_keys keys) bytes are

  -- whether the check values fit
  pub checks_said : (fit : Bool) → IsTrue fit ↔ ChecksFit (sent_keys keys) bytes → SaysChecks fit admitted
  checks_said true tells = λ fails.
      (let command = admitted.command in
      let wrong = put_fails admitted PK3 fails in
      let sent = one_sent command.p2 command.body version fails.0.version (sent_keys keys) fails.0.sent request.means.1 fails.1 in
      let opened = subst (λ (s : List SentKey). AreOpened admitted s wrong.0) (sym sent) wrong.1 in
      let same = opened_once (session_on admitted.at.volatile admitted.channel) (sent_keys keys) bytes wrong.0 brought opened in
      wrong.2 (subst (λ (s : List SentKey). ChecksFit s wrong.0) sent (subst (λ (b : List (List ℕ)). ChecksFit (sent_keys keys) b) same (tells.0 refl))))
  checks_said false tells = (
    record { version = version; sent = sent_keys keys },
    request.means.1,
    (PK3, refl, (bytes, brought, λ fits. (let clash = tells.1 fits in cc))),
  )
