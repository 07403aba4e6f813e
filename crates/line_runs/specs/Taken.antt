-- What was taken of an input: the lines that come first in it, and what stands ahead of the next one.
use Rattle.std.specs.Prelude.{◌≡◌, ◌⊎◌, ℕ, ◌+◌, ◌-◌, ◌<◌, ◌≤◌, List, [], ◌∷◌, ◌++◌, length}
use Rattle.std.specs.Str.Lines.{lines, strip_carriage_return}
use Rattle.io_edge.specs.Lines.{NoNewline, IsNextLine, IsCut, IsNextText}
use Rattle.io_edge.specs.declared.line.TheConstants.{HELD_LIMIT, INPUT_LIMIT, LINE_LIMIT}

-- how many bytes may be taken of what stands ahead
abbrev pub room_ahead : List ℕ → List ℕ → ℕ
room_ahead input ahead = INPUT_LIMIT - (length input - length ahead)

-- The lines come first in an input of which so many bytes may be taken, and this stands ahead of the next one.
abbrev pub ComeFirst : ℕ → List ℕ → List (List ℕ) → List ℕ → Type 0
ComeFirst room input [] ahead = ahead ≡ input
ComeFirst room input (line ∷ lines) ahead = (after : List ℕ) × IsNextLine room input line after × ComeFirst (room - (length input - length after)) after lines ahead

-- the next line has none of these forms, or is too long
abbrev pub IsBadLine : (List ℕ → Type 0) → ℕ → List ℕ → Type 0
IsBadLine has_form room ahead =
    (text : List ℕ) × (((after : List ℕ) × IsNextLine room ahead text after × (has_form text → ⊥)) ⊎ (IsNextText room ahead text × (LINE_LIMIT < length text)))

-- the limit of the input comes before the next line's end, and the line is not too long already
abbrev pub IsShortCut : ℕ → List ℕ → Type 0
IsShortCut room ahead = (text : List ℕ) × IsCut room ahead text × (length text ≤ LINE_LIMIT)

-- the bytes ahead that are not left are no whole line, and no line that is too long already
abbrev pub HoldsNoLine : List ℕ → List ℕ → Type 0
HoldsNoLine ahead left = (held : List ℕ) × (ahead ≡ held ++ left) × NoNewline held × (length (strip_carriage_return held) ≤ LINE_LIMIT)

-- What stands ahead of the next line is no more than the bytes held at once, and then what is left in the source. Of an
-- input of so many bytes no more is taken in all than may be.
pub record TakesNoMore (total : ℕ) (ahead left : List ℕ) : Type 0 where
  pub held : List ℕ
  pub rest : ahead ≡ held ++ left
  pub few : length held ≤ HELD_LIMIT
  pub within : total ≤ length left + INPUT_LIMIT

-- all lines of the input were given, and it is short enough
abbrev pub AreAllTaken : List ℕ → List (List ℕ) → List ℕ → Type 0
AreAllTaken input given ahead = (lines input ≡ given) × (ahead ≡ []) × (length input < INPUT_LIMIT)
