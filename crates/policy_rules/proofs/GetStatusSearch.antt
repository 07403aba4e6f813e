-- The data field of a GET STATUS, read from the front.
use Rattle.std.proofs.Common.{◌≡◌, ◌⊎◌, inl, inr, ℕ, ◌<◌, ◌≤◌, List, [], ◌∷◌, ◌++◌, length, Option, None, Some, ap, subst, arith}
use Rattle.std.proofs.lemmas.List.{nil_from_length}
use Rattle.policy_rules.specs.Prelude.{AreElements, BeginsWith, Element, IsSearch, Spelling, tag_list}
use Rattle.policy_machine.proofs.StoreDataElements.{elements_after}

abbrev spelled_as : ℕ → List ℕ → Element
spelled_as tag value = record { tag = tag; value = value }

module _ (body : List ℕ) where
  -- where no element can be read there is none
  pub no_search : ((tag : ℕ) (value front rest : List ℕ) → Spelling tag value front → body ≡ front ++ rest → ⊥) → (partial : List ℕ) → IsSearch body partial → ⊥
  no_search refused partial search = (let are = search.spelled in refused 0x4F partial are.0 are.1 are.2 are.4)

  module _ (tag : ℕ) (value rest : List ℕ) (begins : BeginsWith tag value rest body) where
    first_part : (partial : List ℕ) (search : IsSearch body partial) → (tag ≡ 0x4F) × (value ≡ partial) × AreElements (tag_list search.tags) rest
    first_part partial search =
        let behind = elements_after (record { tag = 0x4F; value = partial } ∷ tag_list search.tags) tag value rest body search.spelled begins in
        let is = behind.1 in
        let first : spelled_as tag value ≡ spelled_as 0x4F partial = cc in
        let others : behind.0 ≡ tag_list search.tags = cc in
        (ap (λ (e : Element). e.tag) first, ap (λ (e : Element). e.value) first, subst (λ (es : List Element). AreElements es rest) others behind.2)

    -- it begins with something else
    pub other_search : (tag ≡ 0x4F → ⊥) ⊎ (16 < length value) → (partial : List ℕ) → IsSearch body partial → ⊥
    other_search (inl other) partial search = other (first_part partial search).0
    other_search (inr long) partial search =
        (let same = (first_part partial search).1 in omega (arith, long, search.short, ap length same))

    module _ (some : length rest ≡ 0 → ⊥) where
      second_part : (tags : Option (List ℕ)) → AreElements (tag_list tags) rest → (value : List ℕ) × AreElements (record { tag = 0x5C; value = value } ∷ []) rest
      second_part None none = absurd (some (ap length none))
      second_part (Some tags) are = (tags, are)

      -- nothing can be read after it
      pub unread_rest : ((tag : ℕ) (value front rest_ : List ℕ) → Spelling tag value front → rest ≡ front ++ rest_ → ⊥) → (partial : List ℕ)
          → IsSearch body partial → ⊥
      unread_rest refused partial search =
          let second = second_part search.tags (first_part partial search).2 in
          let are = second.1 in
          refused 0x5C second.0 are.0 are.1 are.2 are.4

      -- no list of tags is after it, or something after that
      pub other_rest : (next : ℕ) (more end : List ℕ) → BeginsWith next more end rest → (next ≡ 0x5C → ⊥) ⊎ (length end ≡ 0 → ⊥) → (partial : List ℕ)
          → IsSearch body partial → ⊥
      other_rest next more end follows other partial search =
          let second = second_part search.tags (first_part partial search).2 in
          let behind = elements_after (record { tag = 0x5C; value = second.0 } ∷ []) next more end rest second.1 follows in
          let is = behind.1 in
          let first : spelled_as next more ≡ spelled_as 0x5C second.0 = cc in
          let none : behind.0 ≡ [] = cc in
          let ends : AreElements [] end = subst (λ (es : List Element). AreElements es end) none behind.2 in
          by other (ap (λ (e : Element). e.tag) first) (ap length ends)
        where
          by : {P Q : Type 0} → (P → ⊥) ⊎ (Q → ⊥) → P → Q → ⊥
          by (inl not_p) p q = not_p p
          by (inr not_q) p q = not_q q

-- a partial AID and a list of tags
pub search_with : (body value rest : List ℕ) (tags end : List ℕ) → BeginsWith 0x4F value rest body → BeginsWith 0x5C tags end rest → length value ≤ 16
    → length end ≡ 0 → IsSearch body value
search_with body value rest tags end (front, is, joined) (more, too, split) short none =
    record { tags = Some tags; spelled = (front, rest, is, (more, end, too, nil_from_length end none, split), joined); short = short }
