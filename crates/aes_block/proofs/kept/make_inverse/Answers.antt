use Rattle.std.proofs.Common.{◌∙◌, arith}
use Rattle.std.proofs.lemmas.List.{length-take-le}
use Rattle.aes_block.proofs.InverseRules.{schedule_inverted}
use Rattle.aes_block.proofs.kept.make_inverse.Goals as goal

pub returns : goal.returns
returns g c =
    let count = c.rounds-rounds.ensures in
    schedule_inverted g.S.KeySize.BYTES c.rounds-rounds.result c.args.words.now c.invert.new.inverse _ count.value (c.invert.auto.inverse ∙ length-take-le _ _ (omega (arith, count.most))) c.invert.ensures
