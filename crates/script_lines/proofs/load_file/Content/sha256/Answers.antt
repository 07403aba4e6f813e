use Rattle.script_lines.specs.Load.{content_bytes}
use Rattle.script_lines.proofs.Pieces.{take_piece}
use Rattle.script_lines.proofs.load_file.Content.sha256.Goals as goal

pub loop-index-preserved : goal.loop-index-preserved
loop-index-preserved c =
    rw (take_piece (content_bytes c.args.self.now) c.loop-index.index) (rw c.piece.ensures at (c.update.ensures _ c.loop-index.invariant))
