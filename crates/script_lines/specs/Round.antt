-- The lines of a round of the workload.
use Rattle.std.specs.Prelude.{ℕ, List, [], ◌∷◌, ◌++◌, codes, decimal}
use Rattle.std.specs.Int.{w32, w64, to_be_bytes}
use Rattle.hex.specs.Hex.{encode_lower}
use Rattle.script_lines.specs.declared.round.Round.{Round}

-- two digits
abbrev pub digits_of : ℕ → List ℕ
digits_of byte = encode_lower (byte ∷ [])

-- the host challenge, in 16 digits
abbrev pub challenge_of : Round → List ℕ
challenge_of r = encode_lower (to_be_bytes w64 r.challenge)

-- the AID of the file, and that of its module and of the application
abbrev pub round_file : Round → List ℕ
round_file r = codes "f0" ++ encode_lower (to_be_bytes w32 r.number) ++ codes "01"

abbrev pub application_of : Round → List ℕ
application_of r = codes "f0" ++ encode_lower (to_be_bytes w32 r.number) ++ codes "02"

-- A session is opened, a file is loaded, an application is installed, made selectable, locked and unlocked, and the
-- file is deleted with it.
abbrev pub lines_of : Round → List (List ℕ)
lines_of r =
    codes "reset"
    ∷ (codes "open 00 " ++ digits_of r.level ++ codes " " ++ challenge_of r)
    ∷ (codes "store 4508" ++ challenge_of r)
    ∷ (codes "load " ++ round_file r ++ codes " - none fill " ++ decimal r.count ++ codes " " ++ digits_of r.byte)
    ∷ (codes "install 04 " ++ round_file r ++ codes " " ++ application_of r ++ codes " " ++ application_of r ++ codes " 00 c900")
    ∷ (codes "selectable " ++ application_of r)
    ∷ codes "list 40"
    ∷ (codes "life 40 80 " ++ application_of r)
    ∷ (codes "life 40 00 " ++ application_of r)
    ∷ (codes "delete " ++ round_file r ++ codes " 80")
    ∷ []
