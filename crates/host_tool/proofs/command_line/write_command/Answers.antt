use Rattle.std.proofs.Common.{◌∙◌, ◌++◌, ℕ, List, [], take, drop, ap, sym, refl}
use Rattle.std.proofs.lemmas.List.{append-nil, take-append-drop}
use Rattle.std.proofs.lemmas.Result.{on_err_weaker, on_ok_weaker}
use Rattle.host_tool.proofs.Pieces.{all_written, last_cut, no_digits, on_err, one_more, piece_cut}
use Rattle.host_tool.proofs.command_line.write_command.Goals as goal

pub loop-rest-init : goal.loop-rest-init
loop-rest-init g c = record {
  partly = λ _. record {
    front = [];
    whole = refl;
    written = sym (ap (λ (w : List ℕ). (g.K.Sink.state c.args.sink.now).written ++ w) no_digits ∙ append-nil (g.K.Sink.state c.args.sink.now).written);
  };
  faults = refl;
}

pub returns-in_err-write_all-clause-err : goal.returns-in_err-write_all-clause-err
returns-in_err-write_all-clause-err g c told =
    on_err c.from_residual.result
    (piece_cut _ _ _ _ _ _ _ (c.loop-rest.invariant.partly told)
    (sym (take-append-drop 261 c.loop-rest.rest.now) ∙ ap (λ (w : List ℕ). w ++ drop 261 c.loop-rest.rest.now) (sym c.split_at.ensures.front) ∙ ap (λ (w : List ℕ). c.split_at.result.0.now ++ w) (sym c.split_at.ensures.back))
    (let part = c.in_err-write_all.ensures.err told in
    (part.0, part.1 ∙ ap (λ text. (g.K.Sink.state c.loop-rest.sink).written ++ take part.0 text) (c.deref.ensures.0 ∙ c.digits.ensures))))

pub loop-rest-preserved : goal.loop-rest-preserved
loop-rest-preserved g c = record {
  partly = λ told. one_more _ _ _ _ _ _ _ (c.loop-rest.invariant.partly told)
      (sym (take-append-drop 261 c.loop-rest.rest.now) ∙ ap (λ (w : List ℕ). w ++ drop 261 c.loop-rest.rest.now) (sym c.split_at.ensures.front) ∙ ap (λ (w : List ℕ). c.split_at.result.0.now ++ w) (sym c.split_at.ensures.back))
      (c.in_ok-write_all.ensures.ok told ∙ ap (λ text. (g.K.Sink.state c.loop-rest.sink).written ++ text) (c.deref.ensures.0 ∙ c.digits.ensures));
  faults = c.in_ok-write_all.ensures.cause.ok ∙ c.loop-rest.invariant.faults;
}

pub returns-clause-ok : goal.returns-clause-ok
returns-clause-ok g c told =
    on_ok_weaker c.hand_on.result
    (λ wrote. all_written _ _ _ _ _ (c.loop-rest.invariant.partly told)
    (wrote ∙ ap (λ text. (g.K.Sink.state c.loop-rest.sink).written ++ text) (c.deref-2.ensures.0 ∙ c.last_line.ensures)))
    (c.hand_on.ensures.ok told)

pub returns-clause-err : goal.returns-clause-err
returns-clause-err g c told =
    on_err_weaker c.hand_on.result
    (λ part. last_cut _ _ _ _ _ (c.loop-rest.invariant.partly told)
    (part.0, part.1 ∙ ap (λ text. (g.K.Sink.state c.loop-rest.sink).written ++ take part.0 text) (c.deref-2.ensures.0 ∙ c.last_line.ensures)))
    (c.hand_on.ensures.err told)
