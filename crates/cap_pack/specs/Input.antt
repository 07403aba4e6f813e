-- The lines of an input, and the bytes that they spell.
use Rattle.std.specs.Prelude.{◌≡◌, ◌⊎◌, ℕ, ◌≤◌, List, [], ◌∷◌, ◌++◌, Ok, Option, None, Some, length, if◌then◌else◌, nat_le}
use Rattle.hex.specs.Hex.{decode_of}
use Rattle.line_runs.specs.Taker.{Taker, faultless}
use Rattle.script_tool.specs.Line.{IsBlank, IsComment}
use Rattle.cap_pack.specs.declared.limit.TheConstants.{CAP_LIMIT}

-- a line of an input: blank or a comment, which spells no bytes, or the hexadecimal digits of one byte at least
abbrev pub SpellsLine : (line bytes : List ℕ) → Type 0
SpellsLine line bytes = ((IsBlank line ⊎ IsComment line) × (bytes ≡ [])) ⊎ ((decode_of line ≡ Ok bytes) × (1 ≤ length bytes))

-- bytes, or none where they are more than a CAP file can have
abbrev pub within_cap_limit : List ℕ → Option (List ℕ)
within_cap_limit bytes = if nat_le (length bytes) CAP_LIMIT then Some bytes else None

-- what is kept of an input once further bytes were joined to it
abbrev pub input_with : Option (List ℕ) → List ℕ → Option (List ℕ)
input_with None bytes = None
input_with (Some before) bytes = within_cap_limit (before ++ bytes)

-- the bytes that lines spell, one line after the other
abbrev pub SpellLines : (lines : List (List ℕ)) (bytes : List ℕ) → Type 0
SpellLines [] bytes = bytes ≡ []
SpellLines (line ∷ lines) bytes =
    (first : List ℕ) × (rest : List ℕ) × SpellsLine line first × SpellLines lines rest × (bytes ≡ first ++ rest)

-- what a line does to the bytes that are kept: its own are joined to them, and nothing is written
abbrev pub JoinsLine : Option (List ℕ) → List ℕ → Option (List ℕ) → List ℕ → Type 0
JoinsLine before line after said = (bytes : List ℕ) × SpellsLine line bytes × (after ≡ input_with before bytes) × (said ≡ [])

-- what joins the lines: it never fails
abbrev pub joining : Taker (Option (List ℕ))
joining = faultless JoinsLine
