use Rattle.gp_tool.proofs.Spaces.{few_digits, tail_is, wants_digits}
use Rattle.gp_tool.proofs.replay.read_wanted.Goals as goal

pub returns-then-digits-lt-DIGITS_LEAST-clause-wanted :
    goal.returns-then-digits-lt-DIGITS_LEAST-clause-wanted
returns-then-digits-lt-DIGITS_LEAST-clause-wanted c want wants =
    let sign = c.requires.sign in
    few_digits c.args.line.now sign.0 _ c.skip_spaces-digits.result.now want sign.1 (tail_is 61 c.args.line.now sign.0 sign.1) c.skip_spaces-digits.ensures wants c.if-digits-lt-DIGITS_LEAST.true

pub returns-clause-wanted : goal.returns-clause-wanted
returns-clause-wanted c =
    let sign = c.requires.sign in
    wants_digits c.args.line.now sign.0 _ c.skip_spaces-digits.result.now c.decode.result c.decode.new.bytes sign.1 (tail_is 61 c.args.line.now sign.0 sign.1) c.skip_spaces-digits.ensures
    c.if-digits-lt-DIGITS_LEAST.false c.decode.ensures
