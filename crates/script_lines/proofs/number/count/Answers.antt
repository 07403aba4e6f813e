use Rattle.std.proofs.Common.{◌≡◌, arith}
use Rattle.script_lines.specs.Load.{SpellsCount}
use Rattle.script_lines.proofs.number.count.Goals as goal

pub returns-then-not-is_count : goal.returns-then-not-is_count
unfolding SpellsCount
returns-then-not-is_count c = λ value h.
    let most = h.2 in
    let read = c.short_number.ensures.digits value (omega (arith, most)) h.0 in
    let e : c.in_ok-count.count ≡ value = cc (read, c.in_ok-count.was) in
    cc (c.is_count.ensures.1 (rw e (h.1, h.2)), c.if-not-is_count.true)

pub returns-in_err-count : goal.returns-in_err-count
unfolding SpellsCount
returns-in_err-count c = rw c.from_residual.ensures (λ value h.
    let most = h.2 in
    cc (c.short_number.ensures.digits value (omega (arith, most)) h.0, c.in_err-count.was))

pub returns : goal.returns
unfolding SpellsCount
returns c =
    let few = c.is_count.ensures.0 c.if-not-is_count.false in
    (c.in_ok-count.ensures.number, few.0, few.1)
