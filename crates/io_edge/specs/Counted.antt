-- For the code inside. A reader, with a count of the calls that failed.
use Rattle.std.specs.Prelude.{ℕ}

-- a reader of std, and how many of the calls on it have failed
pub record CountedReader (T : Type 0) : Type 0 where
  pub inner : T
  pub faults : ℕ

-- a writer of std, how often it was flushed, and how many of the calls on it have failed
pub record CountedWriter (T : Type 0) : Type 0 where
  pub inner : T
  pub flushes : ℕ
  pub faults : ℕ
