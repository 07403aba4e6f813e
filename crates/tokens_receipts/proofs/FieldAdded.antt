-- Fields after their lengths, one after the other.
use Rattle.std.proofs.Common.{◌≡◌, ℕ, List, [], ◌∷◌, ◌++◌, ap, ◌∙◌}
use Rattle.std.specs.List.{flat_map}
use Rattle.std.proofs.lemmas.List.{flat_map_more}
use Rattle.tokens_receipts.specs.Receipt.{with_length}

-- one more field after those that stand
pub field_added : (fields : List (List ℕ)) (field : List ℕ) {old new : List ℕ} {shown : List ℕ} → old ≡ flat_map with_length fields → new ≡ old ++ with_length shown
    → shown ≡ field → new ≡ flat_map with_length (fields ++ field ∷ [])
field_added fields field {shown = shown} stand added same =
    added ∙ ap (λ l. l ++ with_length shown) stand ∙ ap (λ l. flat_map with_length fields ++ with_length l) same ∙ flat_map_more with_length [] fields field
