use Rattle.std.proofs.Common.{arith}
use Rattle.card_types.proofs.PrivilegeFacts.{IfSome-IsNamed, answer-named}
use Rattle.card_types.proofs.privileges.from_three.Goals as goal

pub returns-clause-named : goal.returns-clause-named
returns-clause-named c = IfSome-IsNamed _ _ (c.from_bits.ensures.value tt) (c.from_bits.ensures.known tt).0

pub returns-clause-back : goal.returns-clause-back
returns-clause-back c =
    answer-named _ c.from_be_bytes.result c.args.first c.args.second c.args.third
    (omega (arith, c.from_be_bytes.ensures)) (c.from_bits.ensures.value tt) (c.from_bits.ensures.known tt).1
