-- `selectable AID` is INSTALL for make selectable (GlobalPlatform Card Specification 2.3.1, 11.5.2.3.3).
use Rattle.std.specs.Prelude.{ℕ, List, [], ◌∷◌}
use Rattle.script_lines.specs.Words.{SpellsAid}
use Rattle.apdu_core.specs.Apdu.{Apdu}
use Rattle.script_lines.specs.Tokens.{install_command}
use Rattle.script_lines.specs.declared.tokens.Tokens.{Tokens}

-- the application
abbrev pub SaysSelectable : List (List ℕ) → List ℕ → Type 0
SaysSelectable (aid ∷ []) a = SpellsAid aid a
SaysSelectable _ a = ⊥

-- INSTALL for make selectable: no privileges and no parameters (GlobalPlatform Card Specification 2.3.1, 11.5.2.3.3)
abbrev pub making_selectable : Tokens → List ℕ → Apdu
making_selectable tokens aid = install_command tokens 0x08 ([] ∷ [] ∷ aid ∷ [] ∷ [] ∷ [])
