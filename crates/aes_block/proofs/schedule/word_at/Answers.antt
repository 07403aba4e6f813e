use Rattle.aes_block.specs.Words.{key_word}
use Rattle.aes_block.proofs.schedule.word_at.Goals as goal

pub returns : goal.returns
unfolding key_word
returns c = c.from_be_bytes.ensures
