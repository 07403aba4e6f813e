use Rattle.std.proofs.Common.{◌∙◌, refl}
use Rattle.aes_block.specs.Words.{sub_word, word_bytes}
use Rattle.aes_block.proofs.schedule.substituted.Goals as goal

pub returns : goal.returns
unfolding sub_word word_bytes
returns c =
    c.from_be_bytes.ensures
    ∙ rw (c.substitute.ensures, c.substitute-2.ensures, c.substitute-3.ensures, c.substitute-4.ensures, c.first.ensures.value, c.second.ensures.value, c.third.ensures.value, c.fourth.ensures.value) refl
