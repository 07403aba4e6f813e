-- What is written and flushed at the end of a run.
use Rattle.std.specs.Prelude.{◌≡◌, ◌⊎◌, List, ℕ, ◌++◌, take}
use Rattle.faults.specs.Faults.{next_count}
use Rattle.io_edge.specs.Streams.{SinkState}
use Rattle.line_runs.specs.declared.exit.Ending.{Ending}
use Rattle.line_runs.specs.declared.exit.Ending.TheVariants.{Finished, Failed, ReadFault, WriteFault}

-- A sink was flushed once, and all that was written is handed on.
pub record IsHandedOn (writes : Type 0) (old new : SinkState) : Type 0 where
  pub once : new.flushes ≡ next_count old.flushes
  pub all : writes → new.handed_on ≡ new.written

-- Where a write or the flush was refused: the sink was not flushed, or it was once, and all of the text was written before.
abbrev pub FlushesLast : Type 0 → SinkState → List ℕ → SinkState → Type 0
FlushesLast writes old text new =
    (new.flushes ≡ old.flushes) ⊎ ((new.flushes ≡ next_count old.flushes) × (writes → new.written ≡ old.written ++ text))

-- A text was written, or a prefix of it where a write or the flush was refused.
abbrev pub WritesText : Type 0 → List ℕ → Ending → SinkState → SinkState → Type 0
WritesText writes text Finished old new = writes → new.written ≡ old.written ++ text
WritesText writes text WriteFault old new = (writes → (n : ℕ) × (new.written ≡ old.written ++ take n text)) × FlushesLast writes old text new
WritesText writes text ending old new = ⊥

-- the ending stays as the flush is answered, and a refused one makes it a write fault
abbrev pub IsFlushed : Type 0 → Ending → SinkState → SinkState → Ending → Type 0
IsFlushed writes ending old new result =
    ((result ≡ ending) × IsHandedOn writes old new) ⊎ ((result ≡ WriteFault) × (new.flushes ≡ next_count old.flushes))

-- How a run ends after its last line, by how it came to it: no flush follows a refused write, and one that follows a
-- refused read or a failed device changes no status.
abbrev pub AfterFlush : Type 0 → Ending → SinkState → SinkState → Ending → Type 0
AfterFlush writes Failed old new result = (result ≡ Failed) × (new.flushes ≡ next_count old.flushes)
AfterFlush writes ReadFault old new result = (result ≡ ReadFault) × (new.flushes ≡ next_count old.flushes)
AfterFlush writes WriteFault old new result = (result ≡ WriteFault) × (new.flushes ≡ old.flushes)
AfterFlush writes ending old new result = IsFlushed writes ending old new result
