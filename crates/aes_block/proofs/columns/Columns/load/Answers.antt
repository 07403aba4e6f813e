use Rattle.std.proofs.Common.{ℕ, ◌++◌, ◌+◌, slice_index, sym, ◌∙◌}
use Rattle.aes_block.specs.State.{state_bytes}
use Rattle.aes_block.proofs.Blocks.{sixteen_of}
use Rattle.aes_block.proofs.WordRules.{word_bytes-from}
use Rattle.aes_block.proofs.columns.Columns.load.Goals as goal

pub returns : goal.returns
unfolding state_bytes
returns c =
    let b = c.args.block.now in
    let byte = c.fits-block in
    let word = λ (i n : ℕ). word_bytes-from (slice_index b i) (slice_index b (i + 1)) (slice_index b (i + 2)) (slice_index b (i + 3)) n (byte i) (byte (i + 1)) (byte (i + 2)) (byte (i + 3)) in
    (λ t. word 0 _ c.from_be_bytes.ensures t ++ word 4 _ c.from_be_bytes-2.ensures t ++ word 8 _ c.from_be_bytes-3.ensures t ++ word 12 _ c.from_be_bytes-4.ensures t)
    ∙ sym (sixteen_of b c.told-block)
