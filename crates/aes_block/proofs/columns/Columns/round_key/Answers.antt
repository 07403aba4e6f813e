use Rattle.std.proofs.Common.{refl}
use Rattle.aes_block.specs.Cipher.{four_words}
use Rattle.aes_block.specs.State.{state_bytes}
use Rattle.aes_block.proofs.columns.Columns.round_key.Goals as goal

pub returns : goal.returns
unfolding state_bytes four_words
returns c = refl
