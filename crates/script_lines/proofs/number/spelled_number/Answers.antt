use Rattle.std.proofs.Common.{◌≡◌}
use Rattle.script_lines.proofs.number.spelled_number.Goals as goal

pub returns-in_err-number-clause-digits : goal.returns-in_err-number-clause-digits
returns-in_err-number-clause-digits c = λ n small digits.
    absurd (let read = c.parsed.ensures n small digits in cc (read, c.in_err-number.was))

pub returns-then-not-are_digits-clause-digits : goal.returns-then-not-are_digits-clause-digits
returns-then-not-are_digits-clause-digits c = λ n small digits.
    let read = c.parsed.ensures n small digits in
    let e : c.in_ok-number.number ≡ n = cc (read, c.in_ok-number.was) in
    absurd (cc (c.are_digits.ensures.1 (rw e digits), c.if-not-are_digits.true))

pub returns-clause-digits : goal.returns-clause-digits
returns-clause-digits c = λ n small digits.
    let read = c.parsed.ensures n small digits in
    cc (read, c.in_ok-number.was)
