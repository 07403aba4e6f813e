use Rattle.std.proofs.Common.{◌≡◌, ap, ◌∙◌, arith, false, replicate, length, vec_len}
use Rattle.flash_core.specs.Replay.{Medium, settled_medium, after_call, after_calls}
use Rattle.flash_core.proofs.Steps.{after_push, synced}
use Rattle.flash_core.proofs.memory.MemFlash.take.Goals as goal

pub invariant_of-self-in-Write : goal.invariant_of-self-in-Write
invariant_of-self-in-Write c =
    let i = c.self.invariant in
    let start = settled_medium c.self.inside.first.items in (
      i.0,
      i.1,
      i.2,
      i.3,
      ap (after_calls start) c.push_reserved.ensures.items ∙ after_push start c.self.inside.calls.items c.args.call
          ∙ ap (λ m. after_call m c.args.call) i.4 ∙ ap (after_call (record { seen = c.self.inside.seen.items; kept = c.self.inside.kept.items; written = c.self.inside.written.items })) c.in-Write.is,
      omega (arith, c.push_reserved.ensures.len),
      omega (arith, c.push_reserved.ensures.capacity, i.6),
    )

pub invariant_of-self-in-Sync : goal.invariant_of-self-in-Sync
invariant_of-self-in-Sync c =
    let i = c.self.invariant in
    let start = settled_medium c.self.inside.first.items in
    let old : Medium = record { seen = c.self.inside.seen.items; kept = c.self.inside.kept.items; written = c.self.inside.written.items } in
    let kept = c.copy_from_slice.ensures.items ∙ c.deref.ensures.value in
    let count : vec_len c.self.inside.written ≡ length c.self.inside.written.items = omega (arith, c.self.inside.written.ok.0) in
    let written = c.fill.ensures.items (λ y same. same) in (
      i.0,
      i.1,
      omega (arith, c.copy_from_slice.ensures.len, i.2),
      omega (arith, c.fill.ensures.len, i.3),
      ap (after_calls start) c.push_reserved.ensures.items ∙ after_push start c.self.inside.calls.items c.args.call
          ∙ ap (λ m. after_call m c.args.call) i.4 ∙ ap (after_call old) c.in-Sync.is ∙ synced old c.copy_from_slice.new.self.items c.fill.new.self.items kept (written ∙ ap (λ n. replicate n false) count),
      omega (arith, c.push_reserved.ensures.len),
      omega (arith, c.push_reserved.ensures.capacity, i.6),
    )
