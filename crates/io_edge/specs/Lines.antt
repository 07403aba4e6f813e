-- The lines of an input of which only so many bytes are taken.
-- `lines` of `Rattle.std.specs.Str.Lines` says which lines a text has: it is cut at each newline, one carriage return
-- before a newline is dropped, and a last piece that is not empty counts.
use Rattle.std.specs.Prelude.{◌≡◌, ◌≢◌, ◌⊎◌, ℕ, ◌+◌, ◌-◌, ◌<◌, ◌≤◌, List, [], ◌∷◌, ◌++◌, length, Option, None, Some, Result, Ok, Err, MatchResult, All}
use Rattle.std.specs.Str.Lines.{lines, strip_carriage_return}
use Rattle.faults.specs.Faults.{Rose}
use Rattle.io_edge.specs.declared.line.TheConstants.{HELD_LIMIT, INPUT_LIMIT, LINE_LIMIT}
use Rattle.io_edge.specs.declared.line.Line.{Line}
use Rattle.io_edge.specs.declared.line.LineStop.{LineStop}
use Rattle.io_edge.specs.declared.line.LineStop.TheVariants.{End, ReadFailed, TooLong, InputTooLong}

-- no byte is a newline
abbrev pub NoNewline : List ℕ → Type 0
NoNewline bytes = All (λ b. b ≢ 10) bytes

-- How far the reading has come: the lines given, the bytes before those held, the bytes taken and not given yet, and
-- the stop, if one has come.
pub record Reading : Type 0 where
  pub number : ℕ
  pub passed : ℕ
  pub held : List ℕ
  pub stop : Option LineStop

-- what stands ahead of a reading: what it holds, and then what its source has left
abbrev pub ahead : Reading → List ℕ → List ℕ
ahead reading left = reading.held ++ left

-- how many of the bytes ahead may be taken
abbrev pub room : Reading → ℕ
room reading = INPUT_LIMIT - reading.passed

-- a line with its newline, within the room
pub record IsWholeLine (room : ℕ) (ahead text after : List ℕ) : Type 0 where
  pub piece : List ℕ
  pub no_newline : NoNewline piece
  pub is : ahead ≡ piece ++ 10 ∷ after
  pub within : length piece < room
  pub stripped : text ≡ strip_carriage_return piece

-- the last line of the input, with no newline: it keeps a carriage return
pub record IsLast (room : ℕ) (ahead text after : List ℕ) : Type 0 where
  pub no_newline : NoNewline ahead
  pub some : 0 < length ahead
  pub within : length ahead < room
  pub is : text ≡ ahead
  pub nothing : after ≡ []

-- the next line is text, and after follows it
abbrev pub IsNextLine : ℕ → List ℕ → List ℕ → List ℕ → Type 0
IsNextLine room ahead text after = IsWholeLine room ahead text after ⊎ IsLast room ahead text after

-- the room ends before the next line does: of that line it holds text
pub record IsCut (room : ℕ) (ahead text : List ℕ) : Type 0 where
  pub piece : List ℕ
  pub rest : List ℕ
  pub no_newline : NoNewline piece
  pub is : ahead ≡ piece ++ rest
  pub full : length piece ≡ room
  pub stripped : text ≡ strip_carriage_return piece

-- the next line, as it would be given
abbrev pub IsNextText : ℕ → List ℕ → List ℕ → Type 0
IsNextText room ahead text = ((after : List ℕ) × IsNextLine room ahead text after) ⊎ IsCut room ahead text

-- What holds of the bytes ahead where no line is given, and the next one would have this number.
abbrev pub StopsLines : ℕ → ℕ → List ℕ → LineStop → Type 0
StopsLines room number ahead End = (ahead ≡ []) × (0 < room)
StopsLines room number ahead (TooLong n) = (n ≡ number) × ((text : List ℕ) × IsNextText room ahead text × (LINE_LIMIT < length text))
StopsLines room number ahead InputTooLong = (text : List ℕ) × IsCut room ahead text × (length text ≤ LINE_LIMIT)
StopsLines room number ahead ReadFailed = Unit {0}

-- a line that is too long has this number
abbrev pub IsNumbered : ℕ → LineStop → Type 0
IsNumbered number (TooLong n) = n ≡ number
IsNumbered number End = Unit {0}
IsNumbered number InputTooLong = Unit {0}
IsNumbered number ReadFailed = Unit {0}

-- the source's count of faults has risen where its read was refused, and stands still at each other stop
abbrev pub StopCause : ℕ → ℕ → LineStop → Type 0
StopCause before now ReadFailed = (before ≤ now) × Rose before now
StopCause before now End = now ≡ before
StopCause before now (TooLong n) = now ≡ before
StopCause before now InputTooLong = now ≡ before

-- the source's count of faults stands still where a line is given, and at a stop rises by its cause
abbrev pub LineCause : {T : Type 0} → ℕ → ℕ → Result T LineStop → Type 0
LineCause before now result = MatchResult result (λ _. now ≡ before) (StopCause before now)

-- no more is taken than may be taken
abbrev pub IsWithin : Reading → Type 0
IsWithin reading = reading.passed + length reading.held ≤ INPUT_LIMIT

-- what a call passed, and what is held after that, are no more than may be held at once
abbrev pub IsFew : Reading → Reading → Type 0
IsFew old new = new.passed + length new.held ≤ old.passed + HELD_LIMIT

-- The reading after a line is given.
pub record GivesLine (tells : Type 0) (old new : Reading) (left left' : List ℕ) (given : Line) : Type 0 where
  pub number : new.number ≡ given.number
  pub stop : new.stop ≡ None
  pub within : IsWithin new
  pub few : IsFew old new
  pub line : tells → IsNextLine (room old) (ahead old left) given.text.now (ahead new left')
  pub lines : tells → lines (ahead old left) ≡ given.text.now ∷ lines (ahead new left')
  -- a byte is passed, and as many as the line has
  pub further : old.passed < new.passed
  pub spent : old.passed + length given.text.now ≤ new.passed
  pub passed : tells → new.passed + length (ahead new left') ≡ old.passed + length (ahead old left)

-- The reading after a stop: no byte is lost.
pub record GivesStop (tells : Type 0) (old new : Reading) (left left' : List ℕ) (cause : LineStop) : Type 0 where
  pub number : new.number ≡ old.number
  pub stop : new.stop ≡ Some cause
  pub within : IsWithin new
  pub few : IsFew old new
  pub passed : new.passed ≡ old.passed
  pub kept : tells → ahead new left' ≡ ahead old left
  -- A read is refused only where no whole line is held, and what is held of the next line is not too long already.
  pub clear : old.stop ≡ None → cause ≡ ReadFailed → NoNewline new.held
  pub short : old.stop ≡ None → cause ≡ ReadFailed → length (strip_carriage_return new.held) ≤ LINE_LIMIT

-- The reading after a call, by its answer.
abbrev pub GivesNext : Type 0 → Reading → Reading → List ℕ → List ℕ → Result Line LineStop → Type 0
GivesNext tells old new left left' (Ok line) = GivesLine tells old new left left' line
GivesNext tells old new left left' (Err stop) = GivesStop tells old new left left' stop
