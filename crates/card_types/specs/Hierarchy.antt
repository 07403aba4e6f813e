-- Steps from each thing to the next, as from an entry to its security domain (GlobalPlatform Card Specification 2.3.1,
-- 7.2): the path from one to another, and the line from one up to its root, which is its own next.
use Rattle.std.specs.Prelude.{◌≡◌, ◌≢◌, List, [], ◌∷◌, Option, Some}

-- the path leads from one to the other, step by step
abbrev pub IsPath : {A : Type 0} → (A → Option A) → A → List A → A → Type 0
IsPath step from [] to = from ≡ to
IsPath step from (next ∷ path) to = (step from ≡ Some next) × IsPath step next path to

-- the line begins with the one given, goes on by steps, and ends with a root
abbrev pub IsLine : {A : Type 0} → (A → Option A) → A → List A → Type 0
IsLine step from [] = ⊥
IsLine step from (first ∷ []) = (first ≡ from) × (step from ≡ Some from)
IsLine step from (first ∷ next ∷ line) = (first ≡ from) × (next ≢ from) × (step from ≡ Some next) × IsLine step next (next ∷ line)
