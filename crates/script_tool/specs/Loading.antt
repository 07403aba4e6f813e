-- How an Executable Load File is loaded (GlobalPlatform Card Specification 2.3.1, 11.5.2.3.1, 11.6).
use Rattle.std.specs.Prelude.{ℕ, zero, suc, ◌+◌, ◌-◌, ◌/◌, List, length, take, drop, false, ◌==◌, if◌then◌else◌}
use Rattle.scp03_host.specs.Wrapped.{room_for}
use Rattle.script_tool.specs.Host.{Host}
use Rattle.script_tool.specs.InSession.{for_session, protecting}
use Rattle.script_lines.specs.Load.{beginning_load, block_command, block_element, content_bytes}
use Rattle.script_tool.specs.Printed.{Reply}
use Rattle.script_tool.specs.Talk.{Ends, Talk}
use Rattle.script_lines.specs.declared.load_file.LoadFile.{LoadFile}

-- LOAD of so many blocks of a size, up to the first command whose reply is not 9000
abbrev pub loading_blocks : (size left number : ℕ) → List ℕ → Host → List ℕ → ℕ → Talk
loading_blocks size zero number bytes host body status = Ends (Reply body status) host
loading_blocks size (suc left) number bytes host body status =
    if status == 0x9000 then for_session host
    (λ session. protecting host session false (block_command (left == 0) number (take size bytes)) (loading_blocks size left (number + 1) (drop size bytes)))
    else Ends (Reply body status) host

-- how many blocks of a size the bytes make
abbrev pub block_count : ℕ → List ℕ → ℕ
block_count size bytes = (length bytes + size - 1) / size

-- LOAD of all blocks of a size
abbrev pub loading_all : (size : ℕ) → LoadFile → Host → List ℕ → ℕ → Talk
loading_all size file =
    (let bytes = block_element (content_bytes file.content) in
    loading_blocks size (block_count size bytes) 0 bytes)

-- `load`: INSTALL for load and all blocks, as long as the session lets a data field be
abbrev pub playing_load : Host → LoadFile → Talk
playing_load host file = for_session host
    (λ session. protecting host session false (beginning_load host.tokens file) (loading_all (room_for session.level) file))
