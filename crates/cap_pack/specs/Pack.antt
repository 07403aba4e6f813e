-- The commands that load a CAP file and install its applets.
use Rattle.std.specs.Prelude.{ℕ, ◌*◌, ◌==◌, List, [], ◌∷◌, ◌++◌, codes, drop, map, take}
use Rattle.apdu_core.specs.Apdu.{Apdu}
use Rattle.card_types.specs.declared.level.Level.TheVariants.{EncMac}
use Rattle.hex.specs.Hex.{encode_lower}
use Rattle.scp03_host.specs.Wrapped.{room_for}
use Rattle.script_tool.specs.Command.{command_bytes}
use Rattle.script_tool.specs.Load.{block_command, block_element, load_blocks}
use Rattle.script_tool.specs.Loading.{block_count}
use Rattle.script_tool.specs.Tokens.{install_command}
use Rattle.script_lines.specs.declared.tokens.Tokens.TheVariants.{Absent}
use Rattle.sha2.specs.Sha256.{sha256}

-- how many bytes a block has: as many as a session that enciphers lets a data field have, so that each level takes them
abbrev pub block_size : ℕ
block_size = room_for EncMac

-- INSTALL for load of a file, for the acting domain, with the SHA-256 of its bytes
abbrev pub installing_file : (file bytes : List ℕ) → Apdu
installing_file file bytes = install_command Absent 0x02 (file ∷ [] ∷ sha256 bytes ∷ [] ∷ [])

-- LOAD of the block with this number, which so many follow
abbrev pub block_at : (left number : ℕ) → List ℕ → Apdu
block_at left number bytes = block_command (left == 0) number (take block_size (drop (number * block_size) bytes))

-- the commands that load an Executable Load File whole into the acting domain, in blocks of 239 bytes
abbrev pub load_commands : (file bytes : List ℕ) → List Apdu
load_commands file bytes =
    installing_file file bytes
    ∷ load_blocks block_size (block_count block_size (block_element bytes)) 0 (block_element bytes)

-- INSTALL for install and make selectable of an applet, under the AID of its Module, without privileges and with no parameters of its own
abbrev pub installing_applet : (file aid : List ℕ) → Apdu
installing_applet file aid = install_command Absent 0x0C (file ∷ aid ∷ aid ∷ (0x00 ∷ []) ∷ (0xC9 ∷ 0x00 ∷ []) ∷ [])

-- the commands of a package: its file is loaded, and then its applets are installed in the order of their list
abbrev pub pack : (file bytes : List ℕ) (aids : List (List ℕ)) → List Apdu
pack file bytes aids = load_commands file bytes ++ map (installing_applet file) aids

-- `send` and the hexadecimal digits of a command
abbrev pub send_line : Apdu → List ℕ
send_line command = codes "send " ++ encode_lower (command_bytes command)
