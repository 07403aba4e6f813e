-- For the code inside. The verb `why`.
use Rattle.std.specs.Prelude.{◌≡◌, ◌⊎◌, ◌++◌, ℕ, List, [], codes}

-- a line that has `why` where the other has `raw`, before the same digits and perhaps after `- `
abbrev pub AsksWhy : List ℕ → List ℕ → Type 0
AsksWhy line raw =
    (mark : List ℕ) × (digits : List ℕ) × ((mark ≡ []) ⊎ (mark ≡ codes "- "))
    × (line ≡ mark ++ codes "why " ++ digits) × (raw ≡ mark ++ codes "raw " ++ digits)
