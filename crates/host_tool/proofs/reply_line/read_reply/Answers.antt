use Rattle.std.proofs.Common.{arith}
use Rattle.hex.proofs.HexLemmas.{decode_of-ok}
use Rattle.host_tool.proofs.reply_line.read_reply.Goals as goal

pub returns-then-count-gt258-clause-none : goal.returns-then-count-gt258-clause-none
returns-then-count-gt258-clause-none c not bytes spells =
    let many = c.if-count-gt258.true in
    let few = spells.1 in
    let digits = (decode_of-ok c.args.line.now bytes spells.0).2 in
    omega (arith, many, few, digits)
