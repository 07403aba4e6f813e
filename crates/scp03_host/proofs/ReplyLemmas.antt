-- What a reply gives, by the cases of a session's level and of the status.
use Rattle.std.proofs.Common.{◌≡◌, ℕ, ◌+◌, ◌-◌, ◌*◌, ◌^◌, ◌<◌, ◌≤◌, List, [], ◌∷◌, ◌++◌, length, take, drop, set, Bool, true, false, refl, sym, ap, subst, ◌∙◌, arith, inl, inr}
use Rattle.std.specs.Prelude.{◌↔◌, IsTrue, nat_eq, slice_index, if◌then◌else◌, ◌&&◌}
use Rattle.std.proofs.lemmas.Bool.{cases_Bool, true≢false}
use Rattle.std.proofs.lemmas.List.{append_assoc, drop_at, get_or-drop, length-append, length-drop, length-take-le, take-append-drop, take_at}
use Rattle.std.specs.Cmp.Lexicographic.{other_text, pointwise, same_text}
use Rattle.std.specs.Int.{to_be_bytes, w128}
use Rattle.aes_block.specs.Cipher.{IsBlock, cipher}
use Rattle.aes_block.proofs.CipherLemmas.{cipher_is_block}
use Rattle.apdu_core.specs.Reply.{status_bytes}
use Rattle.apdu_core.proofs.OneSpelling.{same_reply}
use Rattle.cmac_kdf.specs.Blocks.{IsBytes}
use Rattle.cmac_kdf.specs.Cbc.{sealed}
use Rattle.cmac_kdf.specs.Cmac.{cmac}
use Rattle.cmac_kdf.proofs.CbcLemmas.{length-sealed, same_sealed}
use Rattle.cmac_kdf.proofs.CmacLemmas.{cmac_is_block}
use Rattle.scp03_card.specs.Kept.{KeptSession, RepresentsSession}
use Rattle.scp03_card.specs.Levels.{has_r_mac, has_r_encryption}
use Rattle.scp03_card.specs.Offer.{s_enc, s_rmac}
use Rattle.scp03_card.specs.Protected.{is_success_or_warning, r_mac, reply_field, reply_icv, session_reply}
use Rattle.scp03_card.proofs.ListLemmas.{IsBytes-take}
use Rattle.scp03_card.proofs.SessionLemmas.{protected_plain, protected_whole, reply_field_clear}
use Rattle.scp03_card.specs.Session.{Session, chain_of}
use Rattle.scp03_host.specs.Unwrapped.{HasRightMac, IsTooShort, Unwraps, field_in, has_own_mac, mac_in, status_in}

pub truth_of : (r : Bool) (xs ys : List ℕ) → r ≡ pointwise nat_eq xs ys → IsTrue r ↔ (xs ≡ ys)
truth_of true xs ys e = (λ t. same_text xs ys e, λ s. refl)
truth_of false xs ys e = (λ t. absurd (true≢false (sym t)), λ s. absurd (other_text xs ys e s))

-- ---- a data field that is enciphered

module _ (kept : KeptSession) (session : Session) (stands : RepresentsSession kept session) where
  kept_reply_sealed : (p : List ℕ)
      → sealed kept.keys.enc (cipher kept.keys.enc (0x80 ∷ drop 1 (to_be_bytes w128 kept.number))) p
      ≡ sealed (s_enc session.offer) (reply_icv session) p
  unfolding reply_icv
  kept_reply_sealed p =
      (λ i. sealed (stands.keys.enc i) (cipher (stands.keys.enc i) (0x80 ∷ drop 1 (to_be_bytes w128 (stands.number i)))) p)

  -- a data field that is enciphered, by the bytes of a counter block
  pub kept_enciphers : (inside : KeptSession) (block p : List ℕ) → inside ≡ kept → block ≡ to_be_bytes w128 inside.number
      → sealed inside.keys.enc (cipher inside.keys.enc (set block 0 0x80)) p ≡ sealed (s_enc session.offer) (reply_icv session) p
  kept_enciphers inside block p same eb =
      ap (λ (b : List ℕ). sealed inside.keys.enc (cipher inside.keys.enc (set b 0 0x80)) p) eb
      ∙ ap (λ (k : KeptSession). sealed k.keys.enc (cipher k.keys.enc (0x80 ∷ drop 1 (to_be_bytes w128 k.number))) p) same
      ∙ kept_reply_sealed p

reply_icv_is_block : (session : Session) → IsBlock (reply_icv session)
unfolding reply_icv
reply_icv_is_block session = cipher_is_block (s_enc session.offer) _

-- the plain bytes of a field that is enciphered
pub of_sealed_reply : (session : Session) (p field : List ℕ) → 0 < length field → has_r_encryption session.level ≡ true → reply_field session p ≡ field
    → (0 < length p) × (sealed (s_enc session.offer) (reply_icv session) p ≡ field)
of_sealed_reply session [] field some e same = absurd (omega (arith, ap length same))
of_sealed_reply session (b ∷ bs) field some e same = (omega arith, sym (rw (e) refl) ∙ same)

pub sealed_reply : (session : Session) (p : List ℕ) → 0 < length p → has_r_encryption session.level ≡ true
    → reply_field session p ≡ sealed (s_enc session.offer) (reply_icv session) p
sealed_reply session [] some e = absurd (omega arith)
sealed_reply session (b ∷ bs) some e = rw (e) refl

-- no other bytes than these are enciphered so
pub one_sealed_reply : (session : Session) (p q : List ℕ) → IsBytes p → IsBytes q
    → sealed (s_enc session.offer) (reply_icv session) p ≡ sealed (s_enc session.offer) (reply_icv session) q → p ≡ q
one_sealed_reply session p q bp bq same = same_sealed (s_enc session.offer) (reply_icv session) p q (reply_icv_is_block session) bp bq same

-- ---- the reply as a front and a status

-- what stands before the status
abbrev pub front : Session → List ℕ → ℕ → List ℕ
front session body status =
    if has_r_mac session.level
    then (if is_success_or_warning status then reply_field session body ++ r_mac session (reply_field session body) status else [])
    else body

pub length-r_mac : (session : Session) (field : List ℕ) (status : ℕ) → length (r_mac session field status) ≡ 8
unfolding r_mac
length-r_mac session field status =
    length-take-le 8 (cmac (s_rmac session.offer) (chain_of session ++ field ++ status_bytes status))
    (omega (arith, (cmac_is_block (s_rmac session.offer) (chain_of session ++ field ++ status_bytes status)).sixteen))

-- whether a level has R-MAC, and whether a status is a success or a warning
pub data Kind (mac success : Bool) : Type 0 where
  plain : mac ≡ false → Kind mac success
  error : mac ≡ true → success ≡ false → Kind mac success
  whole : mac ≡ true → success ≡ true → Kind mac success

pub kind : (mac success : Bool) → Kind mac success
kind false success = plain refl
kind true false = error refl refl
kind true true = whole refl refl

pub protected_front : (session : Session) (body : List ℕ) (status : ℕ) → session_reply session body status ≡ front session body status ++ status_bytes status
protected_front session body status = elim (kind (has_r_mac session.level) (is_success_or_warning status)) [
  | plain m ↦ rw (m) refl
  | error m s ↦ rw (m, s) refl
  | whole m s ↦ rw (m, s) refl
]

module _ (session : Session) (reply body : List ℕ) (status : ℕ) (split : reply ≡ body ++ status_bytes status) where
  -- a reply that a card sends is told by front and status
  pub parts : (other : List ℕ) (another : ℕ) → Unwraps session reply other another → (front session other another ≡ body) × (another ≡ status)
  parts other another u =
      same_reply (front session other another) body another status (sym (protected_front session other another) ∙ u.sent ∙ split)

  pub status_is : status_in reply ≡ status
  status_is =
      let behind : drop (length reply - 2) reply ≡ status_bytes status =
      (λ i. drop (length (split i) - 2) (split i))
      ∙ drop_at body (status_bytes status) (length (body ++ status_bytes status) - 2) (omega (arith, length-append body (status_bytes status))) in
      ap (λ (b : List ℕ). slice_index b 0 * 256 + slice_index b 1) behind ∙ omega arith

  pub word : IsBytes reply → status < 2 ^ 16
  word bytes =
      let at : (i : ℕ) → slice_index (drop (length reply - 2) reply) i < 2 ^ 8 =
      λ i. rw (get_or-drop (length reply - 2) reply i 0) (bytes.at (length reply - 2 + i)) in
      omega (arith, status_is, at 0, at 1)

  pub own_mac : has_own_mac session reply ≡ (has_r_mac session.level && is_success_or_warning status)
  own_mac = ap (λ (s : ℕ). has_r_mac session.level && is_success_or_warning s) status_is

  pub body_bytes : IsBytes reply → IsBytes body
  body_bytes bytes =
      subst IsBytes ((λ i. take (length body) (split i)) ∙ take_at body (status_bytes status) (length body) refl) (IsBytes-take (length body) reply bytes)

  -- ---- a level without R-MAC

  pub plain_unwraps : has_r_mac session.level ≡ false → IsBytes body → status < 2 ^ 16 → Unwraps session reply body status
  plain_unwraps m bytes word = record {
    sent = sym (protected_plain session body status m) ∙ sym split;
    bytes = bytes;
    word = word;
    alone = λ a. absurd (true≢false (sym a ∙ rw (m) refl));
  }

  pub plain_parts : has_r_mac session.level ≡ false → (other : List ℕ) (another : ℕ) → Unwraps session reply other another
      → (body ≡ other) × (status ≡ another)
  plain_parts m other another u =
      let both = parts other another u in
      (sym (sym (rw (m) refl) ∙ both.0), sym both.1)

  -- ---- an error with R-MAC

  module _ (m : has_r_mac session.level ≡ true) (e : is_success_or_warning status ≡ false) where
    pub error_alone : (other : List ℕ) (another : ℕ) → Unwraps session reply other another → (other ≡ []) × (body ≡ []) × (another ≡ status)
    error_alone other another u =
        let both = parts other another u in
        let same : is_success_or_warning another ≡ false = ap is_success_or_warning both.1 ∙ e in
        (u.alone (rw (m, same) refl), sym both.0 ∙ rw (m, same) refl, both.1)

    pub error_no_mac : has_own_mac session reply ≡ false
    error_no_mac = own_mac ∙ rw (m, e) refl

    pub error_right : HasRightMac session reply
    error_right own = absurd (true≢false (sym own ∙ error_no_mac))

    pub error_long : IsTooShort session reply → ⊥
    error_long (inl few) = omega (arith, few, ap length split, length-append body (status_bytes status))
    error_long (inr few) = true≢false (sym few.0 ∙ error_no_mac)

  -- ---- a success or a warning with R-MAC

  module _ (m : has_r_mac session.level ≡ true) (s : is_success_or_warning status ≡ true) where
    pub whole_mac : has_own_mac session reply ≡ true
    whole_mac = own_mac ∙ rw (m, s) refl

    pub whole_front : (other : List ℕ) (another : ℕ) → Unwraps session reply other another
        → (reply_field session other ++ r_mac session (reply_field session other) status ≡ body) × (another ≡ status)
    whole_front other another u =
        let both = parts other another u in
        let same : is_success_or_warning another ≡ true = ap is_success_or_warning both.1 ∙ s in
        (ap (λ (w : ℕ). reply_field session other ++ r_mac session (reply_field session other) w) (sym both.1) ∙ sym (rw (m, same) refl) ∙ both.0, both.1)

    pub whole_short : length body < 8 → IsTooShort session reply
    whole_short few = inr (whole_mac, omega (arith, ap length split, length-append body (status_bytes status)))

    pub whole_not_short : (other : List ℕ) (another : ℕ) → Unwraps session reply other another → 8 ≤ length body
    whole_not_short other another u =
        let found = (whole_front other another u).0 in
        omega (
          arith,
          ap length found,
          length-append (reply_field session other) (r_mac session (reply_field session other) status),
          length-r_mac session (reply_field session other) status,
        )

    -- the body is the field and eight bytes
    module _ (field mac : List ℕ) (joined : body ≡ field ++ mac) (eight : length mac ≡ 8) where
      joined_up : reply ≡ field ++ (mac ++ status_bytes status)
      joined_up = split ∙ ap (λ (b : List ℕ). b ++ status_bytes status) joined ∙ append_assoc field mac (status_bytes status)

      before : length reply - 10 ≡ length field
      before = omega (arith, ap length joined_up, length-append field (mac ++ status_bytes status), length-append mac (status_bytes status), eight)

      pub field_is : field_in reply ≡ field
      field_is = (λ i. take (before i) (joined_up i)) ∙ take_at field (mac ++ status_bytes status) (length field) refl

      pub mac_is : mac_in reply ≡ mac
      mac_is =
          (λ i. take 8 (drop (before i) (joined_up i)))
          ∙ ap (take 8) (drop_at field (mac ++ status_bytes status) (length field) refl)
          ∙ take_at mac (status_bytes status) 8 eight

      right_is : mac_in reply ≡ r_mac session (field_in reply) (status_in reply) → mac ≡ r_mac session field status
      right_is right = sym mac_is ∙ right ∙ (λ i. r_mac session (field_is i) (status_is i))

      pub has_right : mac ≡ r_mac session field status → HasRightMac session reply
      has_right right = λ own. mac_is ∙ right ∙ (λ i. r_mac session (sym field_is i) (sym status_is i))

      pub has_wrong : (mac ≡ r_mac session field status → ⊥) → HasRightMac session reply → ⊥
      has_wrong wrong right = wrong (right_is (right whole_mac))

      pub not_short : IsTooShort session reply → ⊥
      not_short (inl few) = omega (arith, few, ap length joined_up, length-append field (mac ++ status_bytes status), length-append mac (status_bytes status), eight)
      not_short (inr few) = omega (arith, few.1, ap length joined_up, length-append field (mac ++ status_bytes status), length-append mac (status_bytes status), eight)

      -- of what a card sends, the field and the R-MAC are these
      pub whole_parts : (other : List ℕ) (another : ℕ) → Unwraps session reply other another
          → (reply_field session other ≡ field) × (mac ≡ r_mac session field status) × (another ≡ status)
      whole_parts other another u =
          let found = whole_front other another u in
          let same : reply_field session other ++ r_mac session (reply_field session other) status ≡ field ++ mac = found.0 ∙ joined in
          let sizes : length (reply_field session other) ≡ length field =
          omega (
            arith,
            ap length same,
            length-append (reply_field session other) (r_mac session (reply_field session other) status),
            length-append field mac,
            length-r_mac session (reply_field session other) status,
            eight,
          ) in
          let fields : reply_field session other ≡ field =
          sym (take_at (reply_field session other) (r_mac session (reply_field session other) status) (length field) sizes)
          ∙ ap (take (length field)) same ∙ take_at field mac (length field) refl in
          let macs : r_mac session (reply_field session other) status ≡ mac =
          sym (drop_at (reply_field session other) (r_mac session (reply_field session other) status) (length field) sizes)
          ∙ ap (drop (length field)) same ∙ drop_at field mac (length field) refl in
          (fields, sym macs ∙ ap (λ (f : List ℕ). r_mac session f status) fields, found.1)

      -- a card sends this
      pub whole_unwraps : mac ≡ r_mac session field status → (other : List ℕ) → IsBytes other → reply_field session other ≡ field → status < 2 ^ 16
          → Unwraps session reply other status
      whole_unwraps right other bytes same word = record {
        sent =
            sym (protected_whole session other status m s)
            ∙ (λ i. same i ++ r_mac session (same i) status ++ status_bytes status)
            ∙ (λ i. field ++ sym right i ++ status_bytes status)
            ∙ (λ i. sym joined i ++ status_bytes status) ∙ sym split;
        bytes = bytes;
        word = word;
        alone = λ a. absurd (true≢false (sym a ∙ rw (m, s) refl));
      }

-- a reply that is enciphered or not is that of at most one data field
pub one_reply_field : (session : Session) (p q : List ℕ) → IsBytes p → IsBytes q → reply_field session p ≡ reply_field session q → p ≡ q
one_reply_field session p q bp bq same = elim (cases_Bool (has_r_encryption session.level)) [
  | inl e ↦ enciphered e p q bp bq same
  | inr e ↦ reply_field_clear session p e ∙ same ∙ sym (reply_field_clear session q e)
]
  where
    enciphered : has_r_encryption session.level ≡ true → (p q : List ℕ) → IsBytes p → IsBytes q → reply_field session p ≡ reply_field session q → p ≡ q
    enciphered e [] [] bp bq same = refl
    enciphered e [] (b ∷ bs) bp bq same = absurd (omega (arith, ap length (same ∙ sealed_reply session (b ∷ bs) (omega arith) e), length-sealed (s_enc session.offer) (reply_icv session) (b ∷ bs)))
    enciphered e (b ∷ bs) [] bp bq same = absurd (omega (arith, ap length (sym same ∙ sealed_reply session (b ∷ bs) (omega arith) e), length-sealed (s_enc session.offer) (reply_icv session) (b ∷ bs)))
    enciphered e (b ∷ bs) (d ∷ ds) bp bq same =
        one_sealed_reply session (b ∷ bs) (d ∷ ds) bp bq
        (sym (sealed_reply session (b ∷ bs) (omega arith) e) ∙ same ∙ sealed_reply session (d ∷ ds) (omega arith) e)

-- a reply with a success or a warning and with R-MAC, cut into its data field and its R-MAC
pub record IsCut (session : Session) (reply body : List ℕ) (status : ℕ) (field mac : List ℕ) : Type 0 where
  pub split : reply ≡ body ++ status_bytes status
  pub with_mac : has_r_mac session.level ≡ true
  pub success : is_success_or_warning status ≡ true
  pub joined : body ≡ field ++ mac
  pub eight : length mac ≡ 8

pub cut_at : (session : Session) (reply body : List ℕ) (status : ℕ) (field mac : List ℕ) → reply ≡ body ++ status_bytes status
    → has_r_mac session.level ≡ true → is_success_or_warning status ≡ true → 8 ≤ length body
    → field ≡ take (length body - 8) body → mac ≡ drop (length body - 8) body → IsCut session reply body status field mac
cut_at session reply body status field mac split m s long ef em = record {
  split = split;
  with_mac = m;
  success = s;
  joined = sym (take-append-drop (length body - 8) body) ∙ (λ i. sym ef i ++ sym em i);
  eight = omega (arith, ap length em, length-drop (length body - 8) body, long);
}

module _ (session : Session) (reply body : List ℕ) (status : ℕ) (field mac : List ℕ) (cut : IsCut session reply body status field mac) where
  pub cut_long : IsTooShort session reply → ⊥
  cut_long = not_short session reply body status cut.split cut.with_mac cut.success field mac cut.joined cut.eight

  pub cut_right : mac ≡ r_mac session field status → HasRightMac session reply
  cut_right = has_right session reply body status cut.split cut.with_mac cut.success field mac cut.joined cut.eight

  pub cut_wrong : (mac ≡ r_mac session field status → ⊥) → HasRightMac session reply → ⊥
  cut_wrong = has_wrong session reply body status cut.split cut.with_mac cut.success field mac cut.joined cut.eight

  pub cut_parts : (other : List ℕ) (another : ℕ) → Unwraps session reply other another
      → (reply_field session other ≡ field) × (mac ≡ r_mac session field status) × (another ≡ status)
  cut_parts = whole_parts session reply body status cut.split cut.with_mac cut.success field mac cut.joined cut.eight

  pub cut_unwraps : mac ≡ r_mac session field status → (other : List ℕ) → IsBytes other → reply_field session other ≡ field → IsBytes reply
      → Unwraps session reply other status
  cut_unwraps right other bytes same octets =
      whole_unwraps session reply body status cut.split cut.with_mac cut.success field mac cut.joined cut.eight right other bytes same
      (word session reply body status cut.split octets)
