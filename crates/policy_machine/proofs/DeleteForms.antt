-- The forms of DELETE: the first byte of the data field tells which one takes a command.
use Rattle.std.proofs.Common.{◌≡◌, inl, inr, ℕ, List, [], ◌∷◌, ◌++◌, Option, None, Some, ap, sym, subst, ◌∙◌, arith, append_assoc}
use Rattle.policy_machine.specs.Prelude.{AsksToDelete, AsksToDeleteKey, Chooses, DeletionAsked, FormRefuses, IsMalformed, KeyChosen, TagBytes, TagGoesOn, command_form, managed_delete_key, managed_delete_object}
use Rattle.policy_machine.proofs.FormLaws.{AreApart}
use Rattle.policy_machine.specs.declared.rule.Rule.{Rule}

-- a data field that begins with this tag has another first byte
tag_first : (field behind body : List ℕ) → TagBytes 0x4F field → body ≡ field ++ behind → (first : ℕ) (more : List ℕ) → body ≡ first ∷ more → first ≡ 0x4F
tag_first [] behind body is joined first more begins = absurd is
tag_first (b ∷ []) behind body is joined first more begins = (let same : first ≡ b = cc in same ∙ sym is.0)
tag_first (b ∷ c ∷ []) behind body is joined first more begins =
    (let zero : b ≡ 0 = omega (arith, is.0) in
    let goes = subst TagGoesOn zero is.2 in
    cc)
tag_first (b ∷ c ∷ d ∷ tags) behind body is joined first more begins = absurd is

-- an object and a key are not asked for at once
pub fields_apart : (body : List ℕ) (asked : DeletionAsked) → AsksToDelete body asked → (chosen : KeyChosen) × AsksToDeleteKey body chosen → ⊥
fields_apart body asked asks (chosen, chooses) = by chosen.identifier chooses
  where
    apart : (first : ℕ) (more : List ℕ) → body ≡ first ∷ more → first ≡ 0x4F
    apart =
        tag_first asks.named.tag_field (asks.named.length_field ++ (asked.aid ++ asks.token_field)) body asks.named.is_tag
        (asks.joined ∙ ap (λ (before : List ℕ). before ++ asks.token_field) asks.named.joined ∙ simp append_assoc)

    by : (identifier : Option ℕ) → Chooses body chosen.version identifier → ⊥
    by None is = (let first = apart 0xD2 _ is in absurd (omega (arith, first)))
    by (Some i) (inl is) = (let first = apart 0xD2 _ is in absurd (omega (arith, first)))
    by (Some i) (inr is) = (let first = apart 0xD0 _ is in absurd (omega (arith, first)))

pub deletions_apart : AreApart (command_form managed_delete_key) (command_form managed_delete_object ∷ [])
deletions_apart ins p1 p2 body takes (inl other) = fields_apart body other.2.0 other.2.1 takes.2
deletions_apart ins p1 p2 body takes (inr none) = none

-- where neither form takes a command, the rule on the form of an object is that of the command
pub deletion_malformed : (p1 p2 : ℕ) (body : List ℕ) (first found : Rule) → FormRefuses (command_form managed_delete_key) p1 p2 body first → FormRefuses (command_form managed_delete_object) p1 p2 body found
    → IsMalformed 0xE4 p1 p2 body found
deletion_malformed p1 p2 body first found no_key (inl (is, other)) =
    inl (
      is,
      λ has. elim has [
        | inl key ↦ other key
        | inr rest ↦ elim rest [
          | inl object ↦ other object
          | inr none ↦ none
        ]
      ],
    )
deletion_malformed p1 p2 body first found no_key (inr (is, takes, no_field)) =
    inr (
      is,
      inr (inl takes),
      λ has. elim has [
        | inl key ↦ no_choice no_key key.2
        | inr rest ↦ elim rest [
          | inl object ↦ no_field object.2
          | inr none ↦ none
        ]
      ],
    )
  where
    no_choice : FormRefuses (command_form managed_delete_key) p1 p2 body first → (chosen : KeyChosen) × AsksToDeleteKey body chosen → ⊥
    no_choice (inl (_, other)) chooses = other takes
    no_choice (inr (_, _, no_field)) chooses = no_field chooses
