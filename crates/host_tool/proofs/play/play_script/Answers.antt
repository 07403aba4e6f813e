use Rattle.std.proofs.Common.{ap, sym, subst, ◌∙◌}
use Rattle.host_tool.proofs.Causes.{good_script}
use Rattle.host_tool.proofs.WholeRuns.{host_done, host_ends}
use Rattle.host_tool.specs.Ends.{HostEnds, NoneRefused, flow, tells_of}
use Rattle.host_tool.specs.Flush.{HostFlushes}
use Rattle.host_tool.specs.Link.{Linked, sides_of}
use Rattle.host_tool.specs.Ending.{host_ending}
use Rattle.line_runs.specs.declared.exit.Ending.{Ending}
use Rattle.host_tool.proofs.play.play_script.Goals as goal

pub returns-clause-ends : goal.returns-clause-ends
returns-clause-ends g c =
    let old = flow (g.C.Source.state c.args.script.now) (g.S.Source.state c.args.replies) (g.K.Sink.state c.args.commands) (g.T.Sink.state c.args.transcript.now) in
    let link = c.new-host.ensures.link in
    subst
    (λ (p : g.row.S.Denot × g.row.K.Denot).
    HostEnds (tells_of g.C.Source.tells g.S.Source.tells g.K.Sink.tells g.T.Sink.tells) c.status-status.result old
    (flow (g.C.Source.state c.take_lines-end.new.source) (g.S.Source.state p.0) (g.K.Sink.state p.1) (g.T.Sink.state c.flush_at_end.new.sink)))
    (sym c.into_streams-replies.ensures)
    (host_ends g.S.Source g.K.Sink g.C.Source.tells g.T.Sink.tells old c.new-host.result c.take_lines-end.new.taker
    (ap (λ (l : Linked g.row.S.Denot g.row.K.Denot). sides_of g.S.Source g.K.Sink l) link)
    (record {
      kept = c.new-host.ensures.host;
      up = ap (λ (l : Linked g.row.S.Denot g.row.K.Denot). l.up) link;
      sound = ap (λ (l : Linked g.row.S.Denot g.row.K.Denot). l.why) link;
    })
    c.new-host.ensures.differs (g.C.Source.state c.take_lines-end.new.source) (g.T.Sink.state c.take_lines-end.new.sink) (g.T.Sink.state c.flush_at_end.new.sink)
    c.take_lines-end.ensures.flushes c.take_lines-end.result c.take_lines-end.ensures.ends _ _ c.take_lines-end.ensures.cause c.flush_at_end.result
    (subst (λ (e : Ending). HostFlushes g.T.Sink.tells e (g.T.Sink.state c.take_lines-end.new.sink) (g.T.Sink.state c.flush_at_end.new.sink) c.flush_at_end.result)
    (c.ending_of-ending.ensures ∙ (λ i. host_ending c.take_lines-end.result (c.differs.ensures i) (c.why.ensures i))) c.flush_at_end.ensures)
    c.status-status.result c.status-status.ensures)

pub returns-clause-complete : goal.returns-clause-complete
returns-clause-complete g c told good faultless =
    let old = flow (g.C.Source.state c.args.script.now) (g.S.Source.state c.args.replies) (g.K.Sink.state c.args.commands) (g.T.Sink.state c.args.transcript.now) in
    let link = c.new-host.ensures.link in
    let complete = c.take_lines-end.ensures.complete told (good_script g.S.Source g.K.Sink c.new-host.result (g.C.Source.state c.args.script.now).left good) in
    host_done g.S.Source g.K.Sink g.C.Source.tells g.T.Sink.tells old c.new-host.result c.take_lines-end.new.taker
    (ap (λ (l : Linked g.row.S.Denot g.row.K.Denot). sides_of g.S.Source g.K.Sink l) link)
    (record {
      kept = c.new-host.ensures.host;
      up = ap (λ (l : Linked g.row.S.Denot g.row.K.Denot). l.up) link;
      sound = ap (λ (l : Linked g.row.S.Denot g.row.K.Denot). l.why) link;
    })
    c.new-host.ensures.differs (g.C.Source.state c.take_lines-end.new.source) (g.T.Sink.state c.take_lines-end.new.sink) (g.T.Sink.state c.flush_at_end.new.sink)
    c.take_lines-end.ensures.flushes c.take_lines-end.result c.take_lines-end.ensures.ends _ _ c.take_lines-end.ensures.cause c.flush_at_end.result
    (subst (λ (e : Ending). HostFlushes g.T.Sink.tells e (g.T.Sink.state c.take_lines-end.new.sink) (g.T.Sink.state c.flush_at_end.new.sink) c.flush_at_end.result)
    (c.ending_of-ending.ensures ∙ (λ i. host_ending c.take_lines-end.result (c.differs.ensures i) (c.why.ensures i))) c.flush_at_end.ensures)
    c.status-status.result c.status-status.ensures complete.0 complete.1
    (subst
    (λ (p : g.row.S.Denot × g.row.K.Denot).
    NoneRefused old (flow (g.C.Source.state c.take_lines-end.new.source) (g.S.Source.state p.0) (g.K.Sink.state p.1) (g.T.Sink.state c.flush_at_end.new.sink)))
    c.into_streams-replies.ensures faultless)
