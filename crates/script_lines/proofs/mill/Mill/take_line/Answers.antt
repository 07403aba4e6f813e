use Rattle.std.proofs.Common.{arith}
use Rattle.std.specs.Prelude.{codes}
use Rattle.script_lines.proofs.Workload.{given, next_round, no_more, one_more}
use Rattle.script_lines.proofs.mill.Mill.take_line.Goals as goal

pub returns-in-Some : goal.returns-in-Some
returns-in-Some c = one_more c.args.self.now c.in-Some.line.items c.in-Some.ensures

pub returns-then-self-eq0 : goal.returns-then-self-eq0
returns-then-self-eq0 c = no_more c.args.self.now c.in_default.ensures c.if-self-eq0.true

pub returns : goal.returns
returns c =
    let none = c.if-self-eq0.false in
    let next = c.next_round-self in
    given _ _ (codes "reset") c.line-2.result c.line-2.ensures
    (next_round c.args.self.now next.result next.new.rng c.in_default.ensures (omega (arith, none)) next.ensures.round next.ensures.after)
