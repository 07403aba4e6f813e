use Rattle.std.proofs.Common.{◌++◌, take, ap, ◌∙◌}
use Rattle.std.proofs.lemmas.Result.{MatchResult-from_err}
use Rattle.access_matrix.proofs.NextRights.{next_rights_are_all}
use Rattle.gp_tool.proofs.RightsWritten.{all_written, turn_part, turn_written}
use Rattle.gp_tool.proofs.rights.write_rights.Goals as goal

pub loop-walk-preserved : goal.loop-walk-preserved
loop-walk-preserved g c =
    let K = g.K.Sink in
    let seen = K.state in
    let turn = c.next_line.ensures in record {
      written = λ page said says.
          turn_written said K.tells c.loop-walk.walk.last c.next_line.new.self.last (seen c.args.sink.now).written (seen c.loop-walk.sink).written (seen c.write_all.new.self).written
          c.next_line.new.out.items (turn.next page said says c.loop-walk-test.true) (turn.line page said says c.loop-walk-test.true) (c.loop-walk.invariant.written page said says)
          (λ told. c.in_ok-write_all.ensures.ok told ∙ ap (λ text. (seen c.loop-walk.sink).written ++ text) c.deref.ensures.0);
      flushes = c.write_all.ensures.flushes ∙ c.loop-walk.invariant.flushes;
      faults = c.in_ok-write_all.ensures.cause.ok ∙ c.loop-walk.invariant.faults;
    }

pub returns-in_err-write_all-clause-written : goal.returns-in_err-write_all-clause-written
returns-in_err-write_all-clause-written g c page said says =
    let K = g.K.Sink in
    let seen = K.state in
    let turn = c.next_line.ensures in
    MatchResult-from_err c.from_residual.result _ _ c.from_residual.ensures.0 (λ _.
    turn_part said K.tells c.loop-walk.walk.last c.next_line.new.self.last (seen c.args.sink.now).written (seen c.loop-walk.sink).written (seen c.write_all.new.self).written
    c.next_line.new.out.items (turn.next page said says c.loop-walk-test.true) (turn.line page said says c.loop-walk-test.true) (c.loop-walk.invariant.written page said says)
    (λ told. (let part = c.in_err-write_all.ensures.err told in (part.0, part.1 ∙ ap (λ text. (seen c.loop-walk.sink).written ++ take part.0 text) c.deref.ensures.0))))

pub returns-clause-written : goal.returns-clause-written
returns-clause-written g c page said says =
    let K = g.K.Sink in
    all_written said next_rights_are_all K.tells c.loop-walk.walk.last (K.state c.args.sink.now) (K.state c.loop-walk.sink) (c.loop-walk.invariant.written page said says)
    (c.next_line.ensures.end page said says c.loop-walk-test.false)
