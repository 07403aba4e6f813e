use Rattle.std.proofs.Common.{◌++◌}
use Rattle.aes_block.specs.Words.{word_bytes}
use Rattle.aes_block.specs.Cipher.{xor_bytes, sub_bytes, shift_rows, mix_column, mix_column_at, mix_columns}
use Rattle.aes_block.specs.State.{state_bytes}
use Rattle.aes_block.proofs.WordRules.{column_sum}
use Rattle.aes_block.proofs.columns.Columns.sealed.Goals as goal

pub returns : goal.returns
unfolding state_bytes word_bytes xor_bytes sub_bytes shift_rows mix_column mix_column_at mix_columns
returns c =
    let a = (column_sum 2 1 1 3 _ _ _ _ _ _ _ _ _ _ c.summed.ensures c.sealing_shares-a.ensures.first c.sealing_shares-b.ensures.second c.sealing_shares-c.ensures.third c.sealing_shares-d.ensures.fourth) in
    let b = (column_sum 2 1 1 3 _ _ _ _ _ _ _ _ _ _ c.summed-2.ensures c.sealing_shares-b.ensures.first c.sealing_shares-c.ensures.second c.sealing_shares-d.ensures.third c.sealing_shares-a.ensures.fourth) in
    let d = (column_sum 2 1 1 3 _ _ _ _ _ _ _ _ _ _ c.summed-3.ensures c.sealing_shares-c.ensures.first c.sealing_shares-d.ensures.second c.sealing_shares-a.ensures.third c.sealing_shares-b.ensures.fourth) in
    let e = (column_sum 2 1 1 3 _ _ _ _ _ _ _ _ _ _ c.summed-4.ensures c.sealing_shares-d.ensures.first c.sealing_shares-a.ensures.second c.sealing_shares-b.ensures.third c.sealing_shares-c.ensures.fourth) in
    (λ i. a i ++ b i ++ d i ++ e i)
