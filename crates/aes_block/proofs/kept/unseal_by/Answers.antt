use Rattle.std.proofs.Common.{◌∙◌, ◌/◌, ◌*◌, ◌+◌, take}
use Rattle.aes_block.specs.Cipher.{IsBlock}
use Rattle.aes_block.specs.Inverse.{inv_cipher_rounds}
use Rattle.aes_block.proofs.Inverting.{given_back, only_one}
use Rattle.aes_block.proofs.kept.unseal_by.Goals as goal

pub returns-clause-gives_back : goal.returns-clause-gives_back
returns-clause-gives_back g c =
    let count = c.rounds-rounds.ensures.value in
    let r = c.requires in
    let block : IsBlock c.args.block.now = record { sixteen = c.told-block; bytes = c.fits-block } in
    given_back _ _ (g.S.KeySize.BYTES / 4) r.schedule.schedule r.inverse c.args.block.now c.unseal_rounds.new.block block
    (c.unseal_rounds.ensures ∙ (λ i. inv_cipher_rounds (take (4 * count i + 4) c.args.inverse.now) (count i) c.args.block.now))

pub returns-clause-alone : goal.returns-clause-alone
returns-clause-alone g c =
    let count = c.rounds-rounds.ensures.value in
    let r = c.requires in
    let block : IsBlock c.args.block.now = record { sixteen = c.told-block; bytes = c.fits-block } in
    only_one _ _ (g.S.KeySize.BYTES / 4) r.schedule.schedule r.inverse c.args.block.now c.unseal_rounds.new.block block
    (c.unseal_rounds.ensures ∙ (λ i. inv_cipher_rounds (take (4 * count i + 4) c.args.inverse.now) (count i) c.args.block.now))
