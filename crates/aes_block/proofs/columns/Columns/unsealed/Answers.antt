use Rattle.std.proofs.Common.{◌++◌}
use Rattle.aes_block.specs.Words.{word_bytes}
use Rattle.aes_block.specs.Cipher.{xor_bytes}
use Rattle.aes_block.specs.Inverse.{inv_sub_bytes, inv_shift_rows, inv_mix_column, inv_mix_column_at, inv_mix_columns}
use Rattle.aes_block.specs.State.{state_bytes}
use Rattle.aes_block.proofs.WordRules.{column_sum}
use Rattle.aes_block.proofs.columns.Columns.unsealed.Goals as goal

pub returns : goal.returns
unfolding state_bytes word_bytes xor_bytes inv_sub_bytes inv_shift_rows inv_mix_column inv_mix_column_at inv_mix_columns
returns c =
    let a = (column_sum 0x0e 0x09 0x0d 0x0b _ _ _ _ _ _ _ _ _ _ c.summed.ensures c.unsealing_shares-a.ensures.first c.unsealing_shares-d.ensures.second c.unsealing_shares-c.ensures.third c.unsealing_shares-b.ensures.fourth) in
    let b = (column_sum 0x0e 0x09 0x0d 0x0b _ _ _ _ _ _ _ _ _ _ c.summed-2.ensures c.unsealing_shares-b.ensures.first c.unsealing_shares-a.ensures.second c.unsealing_shares-d.ensures.third c.unsealing_shares-c.ensures.fourth) in
    let d = (column_sum 0x0e 0x09 0x0d 0x0b _ _ _ _ _ _ _ _ _ _ c.summed-3.ensures c.unsealing_shares-c.ensures.first c.unsealing_shares-b.ensures.second c.unsealing_shares-a.ensures.third c.unsealing_shares-d.ensures.fourth) in
    let e = (column_sum 0x0e 0x09 0x0d 0x0b _ _ _ _ _ _ _ _ _ _ c.summed-4.ensures c.unsealing_shares-d.ensures.first c.unsealing_shares-c.ensures.second c.unsealing_shares-b.ensures.third c.unsealing_shares-a.ensures.fourth) in
    (λ i. a i ++ b i ++ d i ++ e i)
