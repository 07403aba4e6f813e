-- The data field of a DELETE of an object, read from the front.
use Rattle.std.proofs.Common.{◌≡◌, ◌⊎◌, inl, inr, ℕ, ◌-◌, List, [], ◌++◌, length, refl, ap, sym, subst, ◌∙◌, arith, append-nil, length-append}
use Rattle.std.specs.Prelude.{take}
use Rattle.std.proofs.Math.Seq.{take-append_seam}
use Rattle.std.proofs.lemmas.List.{nil_from_length}
use Rattle.bertlv.proofs.SpellingLemmas.{spelling_front}
use Rattle.policy_machine.specs.Prelude.{AsksToDelete, BeginsWith, DeletionAsked, IsAid, IsTokenField, Spelling}
use Rattle.policy_machine.proofs.StoreDataElements.{rest_shorter}

-- an element has bytes
spelled_some : (tag : ℕ) (value : List ℕ) → Spelling tag value [] → ⊥
spelled_some tag value spelled = (let fewer = rest_shorter tag value [] [] ([], spelled, refl) in absurd (omega (arith, fewer)))

-- a field has one token
one_token : (token other field : List ℕ) → IsTokenField token field → IsTokenField other field → token ≡ other
one_token token other field (inl none) (inl again) = none.1 ∙ sym again.1
one_token token other field (inl none) (inr spelled) = absurd (spelled_some 0x9E other (subst (Spelling 0x9E other) none.0 spelled))
one_token token other field (inr spelled) (inl none) = absurd (spelled_some 0x9E token (subst (Spelling 0x9E token) none.0 spelled))
one_token token other field (inr one) (inr another) = (spelling_front 0x9E 0x9E token other field field [] [] one another refl).1

-- the data field asks for one thing
pub one_deletion : (asked other : DeletionAsked) (body : List ℕ) → AsksToDelete body asked → AsksToDelete body other → asked ≡ other
one_deletion asked other body one another =
    let same = spelling_front 0x4F 0x4F asked.aid other.aid asked.approval.before other.approval.before one.token_field another.token_field one.named another.named
    (sym one.joined ∙ another.joined) in
    let aid = same.1 in
    let before = same.2 in
    let token = one_token asked.approval.token other.approval.token another.token_field
    (subst (IsTokenField asked.approval.token) same.3 one.approved) another.approved in
    (λ i. record { aid = aid i; approval = record { before = before i; token = token i } })

module _ (field : List ℕ) where
  pub token_none : length field ≡ 0 → IsTokenField field field
  token_none none = inl (nil_from_length field none, nil_from_length field none)

  -- nothing can be read of it
  pub unread_token : (length field ≡ 0 → ⊥) → ((tag : ℕ) (value front rest : List ℕ) → Spelling tag value front → field ≡ front ++ rest → ⊥) → (token : List ℕ)
      → IsTokenField token field → ⊥
  unread_token some refused token (inl none) = some (ap length none.0)
  unread_token some refused token (inr spelled) = refused 0x9E token field [] spelled (sym (append-nil field))

  module _ (tag : ℕ) (value rest : List ℕ) (begins : BeginsWith tag value rest field) where
    -- it begins with something else, or something is after the token
    pub other_token : (tag ≡ 0x9E → ⊥) ⊎ (length rest ≡ 0 → ⊥) → (token : List ℕ) → IsTokenField token field → ⊥
    other_token other token (inl none) =
        (let fewer = rest_shorter tag value rest field begins in absurd (omega (arith, fewer, ap length none.0)))
    other_token other token (inr spelled) =
        let same = spelling_front tag 0x9E value token begins.0 field rest [] begins.1 spelled (sym begins.2 ∙ sym (append-nil field)) in
        by other same.0 (ap length same.3)
      where
        by : {P Q : Type 0} → (P → ⊥) ⊎ (Q → ⊥) → P → Q → ⊥
        by (inl not_p) p q = not_p p
        by (inr not_q) p q = not_q q

    pub token_read : tag ≡ 0x9E → length rest ≡ 0 → IsTokenField value field
    token_read is none =
        let whole : field ≡ begins.0 = begins.2 ∙ ap (λ (end : List ℕ). begins.0 ++ end) (nil_from_length rest none) ∙ append-nil begins.0 in
        inr (subst (λ (t : ℕ). Spelling t value field) is (subst (Spelling tag value) (sym whole) begins.1))

module _ (body : List ℕ) where
  -- nothing can be read of the data field
  pub unread_deletion : ((tag : ℕ) (value front rest : List ℕ) → Spelling tag value front → body ≡ front ++ rest → ⊥)
      → (asked : DeletionAsked) → AsksToDelete body asked → ⊥
  unread_deletion refused asked asks = refused 0x4F asked.aid asked.approval.before asks.token_field asks.named asks.joined

  module _ (tag : ℕ) (value rest : List ℕ) (begins : BeginsWith tag value rest body) where
    parts : (asked : DeletionAsked) (asks : AsksToDelete body asked)
        → (tag ≡ 0x4F) × (value ≡ asked.aid) × (begins.0 ≡ asked.approval.before) × (rest ≡ asks.token_field)
    parts asked asks =
        spelling_front tag 0x4F value asked.aid begins.0 asked.approval.before rest asks.token_field begins.1 asks.named (sym begins.2 ∙ asks.joined)

    pub other_named : (tag ≡ 0x4F → ⊥) → (asked : DeletionAsked) → AsksToDelete body asked → ⊥
    other_named other asked asks = other (parts asked asks).0

    pub no_aid : (IsAid value → ⊥) → (asked : DeletionAsked) → AsksToDelete body asked → ⊥
    no_aid none asked asks = none (subst IsAid (sym (parts asked asks).1) asks.aid)

    pub no_token : ((token : List ℕ) → IsTokenField token rest → ⊥) → (asked : DeletionAsked) → AsksToDelete body asked → ⊥
    no_token none asked asks = none asked.approval.token (subst (IsTokenField asked.approval.token) (sym (parts asked asks).3) asks.approved)

    -- what stands before the token
    pub before_token : (before : List ℕ) → before ≡ take (length body - length rest) body → before ≡ begins.0
    before_token before is = is ∙ ap (λ (b : List ℕ). take (length b - length rest) b) begins.2 ∙ front
      where
        size : length (begins.0 ++ rest) - length rest ≡ length begins.0
        size = omega (arith, length-append begins.0 rest)

        front : take (length (begins.0 ++ rest) - length rest) (begins.0 ++ rest) ≡ begins.0
        front = ap (λ (n : ℕ). take n (begins.0 ++ rest)) size ∙ take-append_seam begins.0 rest

    pub deletion_read : (before token : List ℕ) → before ≡ begins.0 → tag ≡ 0x4F → IsAid value → IsTokenField token rest
        → AsksToDelete body (record { aid = value; approval = record { before = before; token = token } })
    deletion_read before token front is aid approved = record {
      aid = aid;
      named = subst (λ (t : ℕ). Spelling t value before) is (subst (Spelling tag value) (sym front) begins.1);
      token_field = rest;
      approved = approved;
      joined = begins.2 ∙ ap (λ (b : List ℕ). b ++ rest) (sym front);
    }
