use Rattle.std.proofs.Common.{◌++◌, slice_range, append_assoc, sym, ap, ◌∙◌}
use Rattle.io_edge.proofs.Ranges.{slice_range-grown}
use Rattle.io_edge.proofs.buffer.read_on.Goals as goal

pub returns-clause-bytes : goal.returns-clause-bytes
returns-clause-bytes g c told =
    let old = slice_range c.args.bytes.now c.args.start c.args.end.now in
    let left = (g.S.Source.state c.read_after.new.source).left in
    ap (λ part. part ++ left) (slice_range-grown _ _ _ _ c.in_ok-count.count c.requires.order c.read_after.ensures.same)
    ∙ append_assoc old _ left ∙ ap (λ rest. old ++ rest) (sym (c.in_ok-count.ensures.bytes told))
