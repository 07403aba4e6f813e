use Rattle.std.proofs.Common.{◌≤◌, ◌∙◌, ◌++◌, ap, subst, take}
use Rattle.std.proofs.lemmas.Result.{on_err_weaker, on_ok_weaker}
use Rattle.cap_pack.specs.Held.{pack_of}
use Rattle.gp_tool.proofs.CapLines.{line_waits, lines_all, lines_part, none_waits, on_err}
use Rattle.gp_tool.proofs.cap_verb.write_commands.Goals as goal
use Rattle.gp_tool.proofs.cap_verb.write_commands.Goals.{then-len-gt-WAITING_LIMIT+in_ok-write_all, else-len-gt-WAITING_LIMIT}

pub returns-in_err-write_all-clause-err : goal.returns-in_err-write_all-clause-err
returns-in_err-write_all-clause-err g c told aids is =
    on_err c.from_residual.result
    (lines_part (pack_of c.args.cap.now aids) c.loop-index.index _ _ _ (c.loop-index.invariant.waits told aids is) _
    (let part = c.in_err-write_all.ensures.err told in
    (part.0, part.1 ∙ ap (λ text. (g.K.Sink.state c.loop-index.sink).written ++ take part.0 text) c.deref.ensures.0)))

pub loop-index-preserved : goal.loop-index-preserved
loop-index-preserved g c = record {
  waits = λ told aids is.
      rw (c.push_word.ensures.written ∙ ap (λ more. c.if-len-gt-WAITING_LIMIT.waiting.items ++ more) (c.deref-in-loop-index.ensures.0 ∙ c.push.ensures.items))
      (line_waits (pack_of c.args.cap.now aids) c.loop-index.index _ (g.K.Sink.state c.if-len-gt-WAITING_LIMIT.sink).written c.if-len-gt-WAITING_LIMIT.waiting.items
      (elim c.if-len-gt-WAITING_LIMIT.branch [
        | then-len-gt-WAITING_LIMIT+in_ok-write_all w ↦ rw w.sink-is (rw w.waiting-is (rw w.clear.ensures
            (none_waits _ _ _ _ (c.loop-index.invariant.waits told aids is) _
            (w.in_ok-write_all.ensures.ok told ∙ ap (λ text. (g.K.Sink.state c.loop-index.sink).written ++ text) w.deref.ensures.0))))
        | else-len-gt-WAITING_LIMIT w ↦ rw w.sink-is (rw w.waiting-is (c.loop-index.invariant.waits told aids is))
      ])
      c.line.new.out.items (c.line.ensures.line aids is));
  flushes = elim c.if-len-gt-WAITING_LIMIT.branch [
    | then-len-gt-WAITING_LIMIT+in_ok-write_all w ↦ rw w.sink-is (w.write_all.ensures.flushes ∙ c.loop-index.invariant.flushes)
    | else-len-gt-WAITING_LIMIT w ↦ rw w.sink-is c.loop-index.invariant.flushes
  ];
  faults = elim c.if-len-gt-WAITING_LIMIT.branch [
    | then-len-gt-WAITING_LIMIT+in_ok-write_all w ↦ rw w.sink-is (w.in_ok-write_all.ensures.cause.ok ∙ c.loop-index.invariant.faults)
    | else-len-gt-WAITING_LIMIT w ↦ rw w.sink-is c.loop-index.invariant.faults
  ];
}

pub returns-clause-ok : goal.returns-clause-ok
returns-clause-ok g c told aids is =
    on_ok_weaker c.write_all-2.result
    (λ wrote. lines_all (pack_of c.args.cap.now aids) c.loop-index.index _ _ _ (c.loop-index.invariant.waits told aids is) (subst (λ n. n ≤ c.loop-index.index) (c.lines-index-end.ensures aids is) c.loop-index-test.false) _
    (wrote ∙ ap (λ text. (g.K.Sink.state c.loop-index.sink).written ++ text) c.deref-2.ensures.0))
    (c.write_all-2.ensures.ok told)

pub returns-clause-err : goal.returns-clause-err
returns-clause-err g c told aids is =
    on_err_weaker c.write_all-2.result
    (λ part. lines_part (pack_of c.args.cap.now aids) c.loop-index.index _ _ _ (c.loop-index.invariant.waits told aids is) _
    (part.0, part.1 ∙ ap (λ text. (g.K.Sink.state c.loop-index.sink).written ++ take part.0 text) c.deref-2.ensures.0))
    (c.write_all-2.ensures.err told)
