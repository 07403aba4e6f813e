-- For the code inside. What a source and a sink in memory stand for.
use Rattle.std.specs.Prelude.{ℕ, List}

-- a source: the bytes left, the most that one call gives, the numbers of the calls that fail, and the counts of calls and faults
pub record MemorySource : Type 0 where
  pub left : List ℕ
  pub piece : ℕ
  pub fails : List ℕ
  pub calls : ℕ
  pub faults : ℕ

-- a sink: the bytes written, those of them that were handed on, the room for them in all, the numbers of the calls that
-- fail, and the counts of calls, flushes and faults
pub record MemorySink : Type 0 where
  pub written : List ℕ
  pub handed_on : List ℕ
  pub room : ℕ
  pub fails : List ℕ
  pub calls : ℕ
  pub flushes : ℕ
  pub faults : ℕ
