-- The tokens that a host makes for delegated management (GlobalPlatform Card Specification 2.3.1, 9.2 and C.4).
use Rattle.std.specs.Prelude.{ℕ, List, ◌++◌, Option, None, Some}
use Rattle.std.specs.List.{flat_map}
use Rattle.apdu_core.specs.Apdu.{Apdu}
use Rattle.tokens_receipts.specs.Receipt.{with_length}
use Rattle.tokens_receipts.specs.Token.{token, token_field}
use Rattle.script_lines.specs.Command.{plain_command, turned_at}
use Rattle.script_lines.specs.declared.keys.OfSize.{OfSize}
use Rattle.script_lines.specs.declared.keys.OfSize.TheVariants.{Aes128, Aes192, Aes256}
use Rattle.script_lines.specs.declared.tokens.Tokens.{Tokens}
use Rattle.script_lines.specs.declared.tokens.Tokens.TheVariants.{Absent, Made, Damaged}

abbrev pub sized_key : OfSize (List ℕ) (List ℕ) (List ℕ) → List ℕ
sized_key (Aes128 key) = key
sized_key (Aes192 key) = key
sized_key (Aes256 key) = key

-- the token of a command with these bytes before it, if it carries one
abbrev pub token_made : Tokens → (p1 p2 : ℕ) → List ℕ → Option (List ℕ)
token_made Absent p1 p2 before = None
token_made (Made key) p1 p2 before = Some (token (sized_key key) p1 p2 before)
token_made (Damaged key) p1 p2 before = Some (turned_at 15 (token (sized_key key) p1 p2 before))

-- INSTALL: its fields and the token, each after its length (11.5.2.3)
abbrev pub install_command : Tokens → ℕ → List (List ℕ) → Apdu
install_command tokens p1 fields =
    let before = flat_map with_length fields in
    plain_command 0xE6 p1 0x00 (before ++ with_length (token_field (token_made tokens p1 0x00 before)))
