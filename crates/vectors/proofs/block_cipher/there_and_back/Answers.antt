use Rattle.std.proofs.Common.{sym}
use Rattle.aes_block.specs.Cipher.{IsBlock}
use Rattle.vectors.proofs.block_cipher.there_and_back.Goals as goal

pub returns : goal.returns
returns g c =
    let block : IsBlock c.args.block.now = record { sixteen = c.told-block; bytes = c.fits-block } in
    sym (c.unseal.ensures.alone c.args.block.now block (sym c.seal.ensures.sealed))
