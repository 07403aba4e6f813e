use Rattle.std.proofs.Common.{◌++◌}
use Rattle.aes_block.specs.Words.{word_bytes}
use Rattle.aes_block.specs.Cipher.{xor_bytes, sub_bytes, shift_rows}
use Rattle.aes_block.specs.State.{state_bytes}
use Rattle.aes_block.proofs.columns.Columns.sealed_last.Goals as goal

pub returns : goal.returns
unfolding state_bytes word_bytes xor_bytes sub_bytes shift_rows
returns c = (λ i. c.last_sealed_column.ensures i ++ c.last_sealed_column-2.ensures i ++ c.last_sealed_column-3.ensures i ++ c.last_sealed_column-4.ensures i)
