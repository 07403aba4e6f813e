-- The commands that a host sends.
use Rattle.std.specs.Prelude.{ℕ, List, ◌++◌, None, bit_xor, slice_index, slice_set}
use Rattle.apdu_core.specs.Apdu.{Apdu, after_header, header}

-- a plain command of class 80, without Le
abbrev pub plain_command : (ins p1 p2 : ℕ) → List ℕ → Apdu
plain_command ins p1 p2 body = record { class = 0x80; ins = ins; p1 = p1; p2 = p2; body = body; le = None }

-- its bytes
abbrev pub command_bytes : Apdu → List ℕ
command_bytes command = header command ++ after_header command.body command.le

-- the bytes with the lowest bit of one of them turned
abbrev pub turned_at : ℕ → List ℕ → List ℕ
turned_at place bytes = slice_set bytes place (bit_xor (slice_index bytes place) 1)
