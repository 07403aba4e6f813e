-- `delete AID P2` is DELETE of an object (GlobalPlatform Card Specification 2.3.1, 11.2).
use Rattle.std.specs.Prelude.{ℕ, List, [], ◌∷◌, ◌++◌}
use Rattle.script_lines.specs.Words.{SpellsAid, SpellsByte}
use Rattle.script_lines.specs.declared.deletion.Deletion.{Deletion}
use Rattle.apdu_core.specs.Apdu.{Apdu}
use Rattle.tokens_receipts.specs.Token.{object_named_by, token_element}
use Rattle.script_lines.specs.Command.{plain_command}
use Rattle.script_lines.specs.Tokens.{token_made}
use Rattle.script_lines.specs.declared.tokens.Tokens.{Tokens}

-- the object, and P2: whether related objects go with it
abbrev pub SaysDelete : List (List ℕ) → Deletion → Type 0
SaysDelete (aid ∷ p2 ∷ []) d = SpellsAid aid d.aid × SpellsByte p2 d.p2
SaysDelete _ d = ⊥

-- DELETE (GlobalPlatform Card Specification 2.3.1, 11.2.2)
abbrev pub deleting : Tokens → Deletion → Apdu
deleting tokens d =
    let before = object_named_by d.aid in
    plain_command 0xE4 0x00 d.p2 (before ++ token_element (token_made tokens 0x00 d.p2 before))
