-- Keys that are put one after the other.
use Rattle.std.proofs.Common.{◌≡◌, ◌<◌, inl, inr, ℕ, ◌+◌, ◌≤◌, List, [], ◌∷◌, ◌++◌, length, Option, subst, arith}
use Rattle.std.specs.List.Sorted.{IsPermutation}
use Rattle.std.proofs.lemmas.Bool.{cases_lt}
use Rattle.std.proofs.lemmas.List.Sorted.{IsPermutation-append_left, IsPermutation-cons, IsPermutation-reverse, IsPermutation-trans}
use Rattle.card_types.specs.declared.limits.TheConstants.{KEYS}
use Rattle.card_types.specs.declared.tables.KeyRec.{KeyRec}
use Rattle.key_rules.specs.PutFails.{NoneHolds, PutFails}
use Rattle.key_rules.specs.Staying.{staying}
use Rattle.key_rules.specs.declared.refusal.PutRefusal.TheVariants.{Full}

-- where keys may be put, there is room for them
room_left : (owner replaced version added : ℕ) (slots : List (Option KeyRec)) → NoneHolds (PutFails owner replaced version added slots)
    → length (staying owner replaced slots) + added ≤ KEYS
room_left owner replaced version added slots none = elim (cases_lt KEYS (length (staying owner replaced slots) + added)) [
  | inl more ↦ absurd (none Full (inl more))
  | inr room ↦ room
]

-- a slot is free for one of the keys, where this many were put already
pub slot_left : (owner replaced version added : ℕ) (slots : List (Option KeyRec)) (put : ℕ) (keys : List KeyRec) → NoneHolds (PutFails owner replaced version added slots)
    → length keys ≡ length (staying owner replaced slots) + put → put < added → length keys < KEYS
slot_left owner replaced version added slots put keys none long lt =
    let room = room_left owner replaced version added slots none in
    omega (arith, room, long, lt)

module _ {T : Type 0} where
  pub put_three : (stay before first second third : List T) (enc mac dek : T) (added : List T) → before ≡ stay → enc ∷ mac ∷ dek ∷ [] ≡ added
      → IsPermutation first (enc ∷ before) → IsPermutation second (mac ∷ first) → IsPermutation third (dek ∷ second) → IsPermutation third (added ++ stay)
  put_three stay before first second third enc mac dek added same are put_enc put_mac put_dek =
      let two = IsPermutation-trans second (mac ∷ first) (mac ∷ enc ∷ before) put_mac (IsPermutation-cons mac first (enc ∷ before) put_enc) in
      let three = IsPermutation-trans third (dek ∷ second) (dek ∷ mac ∷ enc ∷ before) put_dek (IsPermutation-cons dek second (mac ∷ enc ∷ before) two) in
      let turned : IsPermutation (dek ∷ mac ∷ enc ∷ before) (enc ∷ mac ∷ dek ∷ before) = IsPermutation-append_left before (dek ∷ mac ∷ enc ∷ []) (enc ∷ mac ∷ dek ∷ []) (IsPermutation-reverse (dek ∷ mac ∷ enc ∷ [])) in
      subst (λ (keys : List T). IsPermutation third (keys ++ stay)) are
      (subst (λ (keys : List T). IsPermutation third (enc ∷ mac ∷ dek ∷ keys)) same (IsPermutation-trans third _ _ three turned))
