use Rattle.std.proofs.Common.{◌≡◌, ◌+◌, take}
use Rattle.aes_block.specs.Words.{first_words, words_after}
use Rattle.aes_block.proofs.schedule.expand.Given as goal

abbrev pub invariant-first : goal.invariant-first
invariant-first l = take l.i l.words ≡ first_words l.key l.i

abbrev pub invariant-next : goal.invariant-next
invariant-next l = take (l.key_len + l.i) l.words ≡ words_after l.key_len l.key l.i
