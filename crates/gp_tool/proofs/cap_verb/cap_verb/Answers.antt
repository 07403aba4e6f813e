use Rattle.line_runs.specs.Outside.{outside}
use Rattle.gp_tool.proofs.CapEnding.{cap_done, cap_ends, flushed_well}
use Rattle.gp_tool.proofs.DeskEnding.{flush_keeps}
use Rattle.gp_tool.proofs.Flush.{after_from, flushed}
use Rattle.gp_tool.proofs.cap_verb.cap_verb.Goals as goal

pub returns-in-Ok-clause-ends : goal.returns-in-Ok-clause-ends
returns-in-Ok-clause-ends g c other =
    let S = g.S.Source in
    let K = g.K.Sink in
    let packed = c.pack-ending.ensures.ends in
    let after = after_from K.tells c.pack-ending.result (K.state c.args.sink.now) (K.state c.pack-ending.new.sink) (K.state c.flush_at_end.new.sink) c.flush_at_end.result
    c.pack-ending.ensures.flushes c.flush_at_end.ensures.ending in
    record {
      ending = c.flush_at_end.result;
      status_is = c.status_with.ensures;
      cause = c.flush_at_end.ensures.cause _ (S.state c.pack-ending.new.source).faults 0 c.pack-ending.ensures.cause;
      flushes = flushed K.tells c.pack-ending.result c.flush_at_end.result (K.state c.args.sink.now) (K.state c.flush_at_end.new.sink) after;
      course = packed.0;
      ends = cap_ends K.tells (outside (S.state c.args.source.now) (K.state c.args.sink.now)) (S.state c.pack-ending.new.source)
          (K.state c.pack-ending.new.sink) (K.state c.flush_at_end.new.sink) c.flush_at_end.ensures.same c.pack-ending.ensures.flushes packed.0
          c.pack-ending.result c.flush_at_end.result packed.1 after;
    }

pub returns-in-Ok-clause-complete : goal.returns-in-Ok-clause-complete
returns-in-Ok-clause-complete g c told good unread unwritten =
    let S = g.S.Source in
    let K = g.K.Sink in
    let packed = c.pack-ending.ensures.ends in
    let result = c.flush_at_end.result in
    let new = K.state c.flush_at_end.new.sink in
    let well = flushed_well c.pack-ending.result result (c.pack-ending.ensures.complete told good)
    (flush_keeps K.tells c.pack-ending.result result (K.state c.pack-ending.new.sink) new c.flush_at_end.ensures.ending) in
    let after = after_from K.tells c.pack-ending.result (K.state c.args.sink.now) (K.state c.pack-ending.new.sink) new result
    c.pack-ending.ensures.flushes c.flush_at_end.ensures.ending in
    let old = outside (S.state c.args.source.now) (K.state c.args.sink.now) in
    rw c.status_with.ensures (cap_done K.tells old (outside (S.state c.pack-ending.new.source) new) packed.0 result _ _ _ _
    (cap_ends K.tells old (S.state c.pack-ending.new.source) (K.state c.pack-ending.new.sink) new c.flush_at_end.ensures.same c.pack-ending.ensures.flushes packed.0
    c.pack-ending.result result packed.1 after)
    (c.flush_at_end.ensures.cause _ (S.state c.pack-ending.new.source).faults 0 c.pack-ending.ensures.cause) unread unwritten well.0 well.1)
