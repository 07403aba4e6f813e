-- `store HEX` is STORE DATA, of one block (GlobalPlatform Card Specification 2.3.1, 11.11).
use Rattle.std.specs.Prelude.{ℕ, List}
use Rattle.apdu_core.specs.Apdu.{Apdu}
use Rattle.script_lines.specs.Command.{plain_command}

-- STORE DATA: the last block, of BER-TLV data (GlobalPlatform Card Specification 2.3.1, 11.11.2)
abbrev pub storing : List ℕ → Apdu
storing field = plain_command 0xE2 0x90 0x00 field
