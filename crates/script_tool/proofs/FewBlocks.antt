-- A file that is loaded makes few blocks.
use Rattle.std.proofs.Common.{◌≤◌, ◌<◌, ◌+◌, ◌-◌, ◌/◌, ◌%◌, ℕ, zero, suc, List, [], ◌∷◌, length, drop, take, Bool, true, false, nat_lt, ◌==◌, if◌then◌else◌, arith, length-append}
use Rattle.card_types.specs.declared.level.Level.{Level}
use Rattle.scp03_card.specs.Levels.{has_c_decryption}
use Rattle.scp03_host.specs.Wrapped.{room_for}
use Rattle.script_tool.proofs.SendsAtMost.{SendsAtMost, most_if, most_in, most_protecting}
use Rattle.script_tool.specs.Host.{Host, own_session}
use Rattle.script_tool.specs.InSession.{for_session, protecting}
use Rattle.script_lines.specs.Load.{beginning_load, block_command, block_element, content_bytes, length_field}
use Rattle.script_tool.specs.Loading.{block_count, loading_all, loading_blocks, playing_load}
use Rattle.script_tool.specs.Printed.{Reply}
use Rattle.script_tool.specs.Talk.{Ends}
use Rattle.script_lines.specs.declared.load_file.LoadFile.{LoadFile}

-- a Load File Data Block has at most four bytes before its content
short_field : (a b : Bool) (size : ℕ) → length (if a then size ∷ [] else if b then 0x81 ∷ size ∷ [] else 0x82 ∷ size / 0x100 ∷ size % 0x100 ∷ []) ≤ 3
short_field true b size = omega arith
short_field false true size = omega arith
short_field false false size = omega arith

element_short : (bytes : List ℕ) → length (block_element bytes) ≤ length bytes + 4
element_short bytes =
    let field : length (length_field (length bytes)) ≤ 3 = short_field (nat_lt (length bytes) 0x80) (nat_lt (length bytes) 0x100) (length bytes) in
    let all = length-append (length_field (length bytes)) bytes in
    omega (arith, field, all)

element_fits : (content : List ℕ) → length content ≤ 60_000 → length (block_element content) ≤ 60_004
element_fits content fits = (let short = element_short content in omega (arith, fits, short))

-- the longest file makes few blocks, at each size
blocks_239 : (n : ℕ) → n ≤ 60_004 → (n + 239 - 1) / 239 ≤ 252
blocks_239 n most = omega (arith, most)

blocks_247 : (n : ℕ) → n ≤ 60_004 → (n + 247 - 1) / 247 ≤ 252
blocks_247 n most = omega (arith, most)

blocks_by : (b : Bool) (n : ℕ) → n ≤ 60_004 → (n + (if b then 239 else 247) - 1) / (if b then 239 else 247) ≤ 252
blocks_by true n most = blocks_239 n most
blocks_by false n most = blocks_247 n most

few_blocks : (level : Level) (bytes : List ℕ) → length bytes ≤ 60_004 → block_count (room_for level) bytes ≤ 252
few_blocks level bytes most = blocks_by (has_c_decryption level) (length bytes) most

-- each of them is one command
most_blocks : (size left number : ℕ) (bytes : List ℕ) (host : Host) (body : List ℕ) (status : ℕ) → SendsAtMost (loading_blocks size left number bytes host body status) left
most_blocks size zero number bytes host body status = tt
most_blocks size (suc left) number bytes host body status =
    let command = block_command (left == 0) number (take size bytes) in
    let rest = loading_blocks size left (number + 1) (drop size bytes) in
    most_if (suc left) (status == 0x9000) (for_session host (λ session. protecting host session false command rest)) (Ends (Reply body status) host)
    (most_in (suc left) (own_session host) host (λ session. protecting host session false command rest)
    (λ session. most_protecting left (suc left) (omega arith) host session false command rest (most_blocks size left (number + 1) (drop size bytes)))) tt

under : (count : ℕ) → count ≤ 252 → count < 253
under count few = omega (arith, few)

-- The command before the blocks and the blocks are at most 253 commands.
pub most_load : (host : Host) (file : LoadFile) → length (content_bytes file.content) ≤ 60_000 → SendsAtMost (playing_load host file) 253
most_load host file fits =
    let bytes : List ℕ = block_element (content_bytes file.content) in
    let all : length bytes ≤ 60_004 = element_fits (content_bytes file.content) fits in
    most_in 253 (own_session host) host (λ session. protecting host session false (beginning_load host.tokens file) (loading_all (room_for session.level) file))
    (λ session.
    (let count : ℕ = block_count (room_for session.level) bytes in
    most_protecting count 253 (under count (few_blocks session.level bytes all)) host session false (beginning_load host.tokens file) (loading_all (room_for session.level) file)
    (most_blocks (room_for session.level) count 0 bytes)))
