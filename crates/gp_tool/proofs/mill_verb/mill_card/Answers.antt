use Rattle.std.proofs.Common.{refl}
use Rattle.gp_tool.proofs.MillEnding.{mill_failed, mill_refused, mill_whole, plays_all}
use Rattle.gp_tool.proofs.CardStands.{says_seen}
use Rattle.gp_tool.specs.Mill.{summary}
use Rattle.gp_tool.proofs.mill_verb.mill_card.Goals as goal
use Rattle.gp_tool.proofs.mill_verb.mill_card.Goals.{in-Ok+in-Ok-write_summary, in-Ok+in-Err-write_summary, in-Err}

pub returns-clause-ends : goal.returns-clause-ends
returns-clause-ends g c first stands =
    let F = g.F.Flash in
    let K = g.K.Sink in
    let work = c.args.work in
    let made = c.args.end.now.card.flash in
    let end = c.mill_lines.new.end in
    let old = K.state c.args.sink.now in
    let last = K.state c.flush_at_end.new.sink in
    let result = c.flush_at_end.result in
    elim c.match-mill_lines.branch [
      | in-Ok+in-Ok-write_summary w ↦
          (let milled = w.in-Ok.ensures.milled first stands in
          let counter = w.spell_counter-counter.result.items in
          let plays = plays_all F work made first end w.in-Ok.tally counter milled
          (λ behind. w.spell_counter-counter.ensures behind.page milled.last.state.registry behind.whole (says_seen F end.card milled.last.state behind w.tables.result.now w.tables.ensures.tables) behind.sound.well) in
          mill_whole F work made first K.tells end.card.flash end.done old (K.state w.write_summary.new.sink) last (rw w.sink-is at c.flush_at_end.ensures.same) w.write_summary.ensures.flushes
          (summary work w.in-Ok.tally counter) plays (λ told. rw (← w.deref.ensures.0) (w.in-Ok-write_summary.ensures.ok told)) result (rw (w.sink-is, w.ending-is) at c.flush_at_end.ensures.ending))
      | in-Ok+in-Err-write_summary w ↦
          (let milled = w.in-Ok.ensures.milled first stands in
          let counter = w.spell_counter-counter.result.items in
          let plays = plays_all F work made first end w.in-Ok.tally counter milled
          (λ behind. w.spell_counter-counter.ensures behind.page milled.last.state.registry behind.whole (says_seen F end.card milled.last.state behind w.tables.result.now w.tables.ensures.tables) behind.sound.well) in
          mill_refused F work made first K.tells end.card.flash end.done old (K.state w.write_summary.new.sink) last (rw w.sink-is at c.flush_at_end.ensures.same) w.write_summary.ensures.flushes
          (summary work w.in-Ok.tally counter) plays (λ told. rw (← w.deref.ensures.0) (w.in-Err-write_summary.ensures.err told)) result (rw (w.sink-is, w.ending-is) at c.flush_at_end.ensures.ending))
      | in-Err w ↦
          mill_failed F work made first K.tells end.card.flash end.done old old last (rw w.sink-is at c.flush_at_end.ensures.same) refl (w.in-Err.ensures.broken first stands) (λ told. refl) result
          (rw (w.sink-is, w.ending-is) at c.flush_at_end.ensures.ending)
    ]
