use Rattle.std.proofs.Common.{arith}
use Rattle.bertlv.proofs.LengthLemmas.{after_short, after_81, after_82}
use Rattle.load_session.proofs.block.split_length.Goals as goal

pub returns-in-0-to-127-clause-some : goal.returns-in-0-to-127-clause-some
returns-in-0-to-127-clause-some c = after_short c.args.bytes.now _ (omega arith) c.from-in-0-to-127.ensures (omega arith)

pub returns-in-128-to-255-clause-some : goal.returns-in-128-to-255-clause-some
returns-in-128-to-255-clause-some c = after_81 c.args.bytes.now _ (omega arith) (omega arith) c.from.ensures (omega arith) (omega arith)

pub returns-in-1-to-255-clause-some : goal.returns-in-1-to-255-clause-some
returns-in-1-to-255-clause-some c =
    after_82 c.args.bytes.now c.from_be_bytes.result (omega arith) (omega arith) (omega arith) (omega arith) (omega arith) (omega (arith, c.type_inv.bytes 2))
