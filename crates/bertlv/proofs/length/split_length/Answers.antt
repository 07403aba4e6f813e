use Rattle.std.proofs.Common.{arith}
use Rattle.bertlv.proofs.LengthLemmas.{after_short, after_81, after_82, bad_82}
use Rattle.bertlv.proofs.length.split_length.Goals as goal

pub returns-in-0-to-127-clause-ok : goal.returns-in-0-to-127-clause-ok
returns-in-0-to-127-clause-ok c =
    after_short c.args.bytes.now _ (omega arith) c.from-in-0-to-127.ensures (omega arith)

pub returns-in-128-to-255-clause-ok : goal.returns-in-128-to-255-clause-ok
returns-in-128-to-255-clause-ok c =
    after_81 c.args.bytes.now _ (omega arith) (omega arith) c.from.ensures (omega arith) (omega arith)

pub returns-in-1-to-255-clause-ok : goal.returns-in-1-to-255-clause-ok
returns-in-1-to-255-clause-ok c =
    after_82 c.args.bytes.now c.from-in-1-to-255.result (omega arith) (omega arith) (omega arith)
    (omega arith) (omega arith) (omega (arith, c.type_inv.bytes 2))

pub returns-in-len3-up-clause-form : goal.returns-in-len3-up-clause-form
returns-in-len3-up-clause-form c _ =
    bad_82 c.args.bytes.now (omega arith) (omega arith) (omega arith) (omega (arith, c.type_inv.bytes 2))
