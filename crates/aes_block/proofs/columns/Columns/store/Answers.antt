use Rattle.std.proofs.Common.{refl}
use Rattle.aes_block.specs.Words.{word_bytes}
use Rattle.aes_block.specs.State.{state_bytes}
use Rattle.aes_block.proofs.columns.Columns.store.Goals as goal

pub returns : goal.returns
unfolding state_bytes word_bytes
returns c = rw (c.to_be_bytes.ensures, c.to_be_bytes-2.ensures, c.to_be_bytes-3.ensures, c.to_be_bytes-4.ensures) refl
