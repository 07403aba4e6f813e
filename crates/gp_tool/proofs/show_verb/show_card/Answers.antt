use Rattle.gp_tool.proofs.ShownCard.{shown_failed, shown_refused, shown_whole}
use Rattle.gp_tool.proofs.show_verb.show_card.Goals as goal
use Rattle.gp_tool.proofs.show_verb.show_card.Goals.{in-Ok, in-Err-Flash, in-Err-Write}

pub returns-clause-ends : goal.returns-clause-ends
returns-clause-ends g c state stands =
    let F = g.F.Flash in
    let K = g.K.Sink in
    let seen = K.state in
    elim c.match-write_view.branch [
      | in-Ok w ↦ shown_whole c.args.view (F.tells × K.tells) K.tells (λ t. t.1) state.registry (seen c.args.sink.now) (seen c.write_view.new.sink) (seen c.flush_at_end.new.sink)
          c.flush_at_end.ensures.same c.write_view.ensures.flushes c.flush_at_end.result (rw w.ending-is at c.flush_at_end.ensures.ending)
          (rw w.in-Ok.is at (c.write_view.ensures.written state stands))
      | in-Err-Flash w ↦ shown_failed c.args.view (F.tells × K.tells) K.tells (λ t. t.1) state.registry (seen c.args.sink.now) (seen c.write_view.new.sink) (seen c.flush_at_end.new.sink)
          c.flush_at_end.ensures.same c.write_view.ensures.flushes c.flush_at_end.result (rw w.ending-is at c.flush_at_end.ensures.ending)
          (rw w.in-Err-Flash.is at (c.write_view.ensures.part state stands))
      | in-Err-Write w ↦ shown_refused c.args.view (F.tells × K.tells) K.tells (λ t. t.1) state.registry (seen c.args.sink.now) (seen c.write_view.new.sink) (seen c.flush_at_end.new.sink)
          c.flush_at_end.ensures.same c.write_view.ensures.flushes c.flush_at_end.result (rw w.ending-is at c.flush_at_end.ensures.ending)
          (rw w.in-Err-Write.is at (c.write_view.ensures.part state stands))
    ]
