-- What contracts see of a source and of a sink, each as one value.
use Rattle.std.specs.Prelude.{ℕ, List}

-- a source: the bytes that are left, and how many calls have failed
pub record SourceState : Type 0 where
  pub left : List ℕ
  pub faults : ℕ

-- A sink: the bytes that were written, and those that were handed on for good. That these are all that were written is said by
-- a flush alone. And how many flushes there were, and how many calls have failed.
pub record SinkState : Type 0 where
  pub written : List ℕ
  pub handed_on : List ℕ
  pub flushes : ℕ
  pub faults : ℕ
