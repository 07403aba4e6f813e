-- For the code inside. The bytes that a reader of lines holds.
use Rattle.std.specs.Prelude.{ℕ, List}

-- a buffer: the text that was cut off last, and the bytes that are held after it
pub record Buffered : Type 0 where
  pub text : List ℕ
  pub held : List ℕ
