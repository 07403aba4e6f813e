use Rattle.std.proofs.Common.{rules}
use Rattle.receipt_desk.proofs.Lines.{read_text}
use Rattle.receipt_desk.proofs.line.DeskLine.read.Goals as goal

pub returns : goal.returns
returns c = read_text c.args.text.now c.read_words.result (search rules) (rw c.new.ensures at c.read_words.ensures)
