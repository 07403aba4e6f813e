use Rattle.std.proofs.Common.{◌++◌}
use Rattle.aes_block.specs.Words.{word_bytes}
use Rattle.aes_block.specs.Cipher.{xor_bytes}
use Rattle.aes_block.specs.Inverse.{inv_sub_bytes, inv_shift_rows}
use Rattle.aes_block.specs.State.{state_bytes}
use Rattle.aes_block.proofs.columns.Columns.unsealed_last.Goals as goal

pub returns : goal.returns
unfolding state_bytes word_bytes xor_bytes inv_sub_bytes inv_shift_rows
returns c = (λ i. c.last_unsealed_column.ensures i ++ c.last_unsealed_column-2.ensures i ++ c.last_unsealed_column-3.ensures i ++ c.last_unsealed_column-4.ensures i)
