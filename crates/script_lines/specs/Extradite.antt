-- `extradite AID DOMAIN` is INSTALL for extradition (GlobalPlatform Card Specification 2.3.1, 11.5.2.3.4).
use Rattle.std.specs.Prelude.{ℕ, List, [], ◌∷◌}
use Rattle.script_lines.specs.Words.{SpellsAid}
use Rattle.script_lines.specs.declared.extradition.Extradition.{Extradition}
use Rattle.apdu_core.specs.Apdu.{Apdu}
use Rattle.script_lines.specs.Tokens.{install_command}
use Rattle.script_lines.specs.declared.tokens.Tokens.{Tokens}

-- the application and its new security domain
abbrev pub SaysExtradite : List (List ℕ) → Extradition → Type 0
SaysExtradite (aid ∷ domain ∷ []) e = SpellsAid aid e.aid × SpellsAid domain e.domain
SaysExtradite _ e = ⊥

-- INSTALL for extradition (GlobalPlatform Card Specification 2.3.1, 11.5.2.3.4)
abbrev pub extraditing : Tokens → Extradition → Apdu
extraditing tokens e = install_command tokens 0x10 (e.domain ∷ [] ∷ e.aid ∷ [] ∷ [] ∷ [])
