use Rattle.std.proofs.Common.{◌∙◌, ◌/◌, ◌*◌, ◌+◌, [], take, sym}
use Rattle.aes_block.specs.Cipher.{cipher_rounds}
use Rattle.aes_block.proofs.Inverting.{cipher_of}
use Rattle.aes_block.proofs.kept.seal_by.Goals as goal

pub returns : goal.returns
returns g c =
    let count = c.rounds-rounds.ensures.value in
    c.seal_rounds.ensures ∙ (λ i. cipher_rounds (take (4 * count i + 4) c.args.words.now) (count i) c.args.block.now)
    ∙ sym (cipher_of _ [] (g.S.KeySize.BYTES / 4) c.requires.schedule c.args.block.now)
