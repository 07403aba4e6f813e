-- The template of a thing, element by element.
use Rattle.std.proofs.Common.{◌≡◌, ℕ, List, [], ◌∷◌, ◌++◌, sym, subst}
use Rattle.bertlv.proofs.SpellingLemmas.{elements_more}
use Rattle.bertlv.specs.Spelling.{Appends, AreElements, Element, Spelling}

abbrev pub part : ℕ → List ℕ → Element
part tag value = record { tag = tag; value = value }

-- one more element is appended
pub appended : (elements : List Element) (tag : ℕ) (value wanted old new : List ℕ) → AreElements elements old → value ≡ wanted → Appends tag value old new
    → AreElements (elements ++ part tag wanted ∷ []) new
appended elements tag value wanted old new are same (bytes, spelled, joined) =
    subst (AreElements (elements ++ part tag wanted ∷ [])) (sym joined)
    (elements_more elements (part tag wanted) old bytes are (subst (λ (v : List ℕ). Spelling tag v bytes) same spelled))
