-- `install P1 FILE MODULE AID PRIV PARAMS` is INSTALL for install (GlobalPlatform Card Specification 2.3.1, 11.5.2.3.2).
use Rattle.std.specs.Prelude.{◌≡◌, ◌⊎◌, ℕ, List, [], ◌∷◌, length, codes, Bool, true, false}
use Rattle.script_lines.specs.Words.{SpellsAid, SpellsByte, SpellsUpTo}
use Rattle.script_lines.specs.declared.install.Installation.{Installation}
use Rattle.apdu_core.specs.Apdu.{Apdu}
use Rattle.script_lines.specs.Tokens.{install_command}
use Rattle.script_lines.specs.declared.tokens.Tokens.{Tokens}

-- P1: for install, or for install and make selectable
abbrev pub install_p1 : Bool → ℕ
install_p1 false = 0x04
install_p1 true = 0x0c

-- one byte or three
unfoldable pub SpellsPrivileges : List ℕ → List ℕ → Type 0
SpellsPrivileges word bytes = SpellsUpTo 3 word bytes × ((length bytes ≡ 1) ⊎ (length bytes ≡ 3))

-- `-` for none, or 1 to 127 bytes
unfoldable pub SpellsParameters : List ℕ → List ℕ → Type 0
SpellsParameters word bytes = ((word ≡ codes "-") × (bytes ≡ [])) ⊎ SpellsUpTo 127 word bytes

abbrev pub SaysInstall : List (List ℕ) → Installation → Type 0
SaysInstall (p1 ∷ file ∷ module' ∷ aid ∷ privileges ∷ parameters ∷ []) i =
    SpellsByte p1 (install_p1 i.selectable)
    × SpellsAid file i.file × SpellsAid module' i.module × SpellsAid aid i.aid
    × SpellsPrivileges privileges i.privileges.items × SpellsParameters parameters i.parameters.items
SaysInstall _ i = ⊥

-- INSTALL for install (GlobalPlatform Card Specification 2.3.1, 11.5.2.3.2)
abbrev pub installing : Tokens → Installation → Apdu
installing tokens i =
    install_command tokens (install_p1 i.selectable) (i.file ∷ i.module ∷ i.aid ∷ i.privileges.items ∷ i.parameters.items ∷ [])
