use Rattle.std.proofs.Common.{◌≤◌, length, sym, arith}
use Rattle.std.proofs.lemmas.List.{length-take}
use Rattle.io_edge.proofs.Ranges.{drop-slice_range}
use Rattle.io_edge.proofs.buffer.Buffer.cut.Goals as goal

pub returns-clause-held : goal.returns-clause-held
returns-clause-held c =
    let held : c.args.whole ≤ length (c.args.self.now.held) = c.requires.held in
    let most = simp length-take at (rw (← c.self.view_is) at held) in
    rw (← c.self.view_is) (sym (drop-slice_range c.self.inside.bytes c.self.inside.start c.self.inside.end c.args.whole (omega arith)))
