-- `tokenkey KEY`, `badtoken KEY` and `tokenkey none` say which tokens later commands carry (GlobalPlatform Card Specification
-- 2.3.1, 9.2 and C.4).
use Rattle.std.specs.Prelude.{◌≡◌, ℕ, List, [], ◌∷◌, codes}
use Rattle.script_lines.specs.Keys.{SpellsKey}
use Rattle.script_lines.specs.declared.tokens.Tokens.{Tokens}
use Rattle.script_lines.specs.declared.tokens.Tokens.TheVariants.{Absent, Made, Damaged}

abbrev pub token_verb : Tokens → List ℕ
token_verb Absent = codes "tokenkey"
token_verb (Made key) = codes "tokenkey"
token_verb (Damaged key) = codes "badtoken"

-- none, those under a key, or those with the lowest bit of their last byte turned
abbrev pub SaysTokens : List (List ℕ) → Tokens → Type 0
SaysTokens (word ∷ []) Absent = word ≡ codes "none"
SaysTokens (word ∷ []) (Made key) = SpellsKey word key
SaysTokens (word ∷ []) (Damaged key) = SpellsKey word key
SaysTokens _ _ = ⊥
