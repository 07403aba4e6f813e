-- For the code inside. How a script ends after its last line. No flush follows a refused write.
use Rattle.std.specs.Prelude.{◌≡◌, ◌⊎◌}
use Rattle.faults.specs.Faults.{Rose, next_count}
use Rattle.io_edge.specs.Streams.{SinkState}
use Rattle.line_runs.specs.declared.exit.Ending.{Ending}
use Rattle.line_runs.specs.declared.exit.Ending.TheVariants.{WriteFault}

-- the sink was flushed once, and nothing was written
pub record Flushed (writes : Type 0) (old new : SinkState) : Type 0 where
  pub once : new.flushes ≡ next_count old.flushes
  pub same : writes → new.written ≡ old.written

pub record HandedOn (writes : Type 0) (old new : SinkState) : Type 0 where
  pub all : writes → new.handed_on ≡ new.written
  pub quiet : new.faults ≡ old.faults

abbrev pub HostFlushes : Type 0 → Ending → SinkState → SinkState → Ending → Type 0
HostFlushes writes WriteFault old new result = (result ≡ WriteFault) × (new ≡ old)
HostFlushes writes ending old new result =
    Flushed writes old new × (((result ≡ ending) × HandedOn writes old new) ⊎ ((result ≡ WriteFault) × Rose old.faults new.faults))
