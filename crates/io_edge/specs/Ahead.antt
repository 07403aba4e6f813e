-- For the code inside. What is found ahead, in the bytes that are held.
use Rattle.std.specs.Prelude.{◌≡◌, ℕ, ◌<◌, List, length, take, slice_index}
use Rattle.std.specs.Str.Lines.{strip_carriage_return}
use Rattle.io_edge.specs.Lines.{NoNewline}
use Rattle.io_edge.specs.declared.line.TheConstants.{LINE_LIMIT}
use Rattle.io_edge.specs.declared.ahead.Ahead.{Ahead}
use Rattle.io_edge.specs.declared.ahead.Ahead.TheVariants.{Newline, Long, Last, Limit}

abbrev pub Finds : ℕ → List ℕ → Ahead → Type 0
Finds room held (Newline at) = (at < length held) × NoNewline (take at held) × (slice_index held at ≡ 10)
Finds room held Long = NoNewline held × (LINE_LIMIT < length (strip_carriage_return held))
Finds room held Last = NoNewline held × (length held < room)
Finds room held Limit = NoNewline held × (length held ≡ room)
