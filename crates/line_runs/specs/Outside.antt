-- What is around the taking of lines: a source and a sink.
use Rattle.std.specs.Prelude.{◌≡◌, ℕ, List, [], ◌∷◌, ◌++◌, codes, decimal, take}
use Rattle.std.specs.List.{concat}
use Rattle.faults.specs.Faults.{Rose}
use Rattle.io_edge.specs.Streams.{SinkState, SourceState}

pub record Outside : Type 0 where
  pub source : SourceState
  pub sink : SinkState

abbrev pub outside : SourceState → SinkState → Outside
outside source sink = record { source = source; sink = sink }

-- a fact where neither the source nor the sink has failed on the way
abbrev pub IfFaultless : Outside → Outside → Type 0 → Type 0
IfFaultless old new fact = (Rose old.source.faults new.source.faults → ⊥) → (Rose old.sink.faults new.sink.faults → ⊥) → fact

-- In what follows `writes` is a fact where the sink tells its bytes, and `⊥` where it doesn't.

-- the texts were written
abbrev pub Wrote : Type 0 → List (List ℕ) → Outside → Outside → Type 0
Wrote writes texts old new = writes → new.sink.written ≡ old.sink.written ++ concat texts

-- A text was refused after those before it: it is missing or cut, and nothing was flushed.
abbrev pub CutsText : Type 0 → List (List ℕ) → List ℕ → Outside → Outside → Type 0
CutsText writes before text old new =
    (new.sink.flushes ≡ old.sink.flushes) × (writes → (count : ℕ) × (new.sink.written ≡ old.sink.written ++ (concat before ++ take count text)))

-- what is written of a line that is malformed or too long, by its number
abbrev pub bad_line : ℕ → List ℕ
bad_line number = codes "line " ++ decimal number ++ 10 ∷ []
