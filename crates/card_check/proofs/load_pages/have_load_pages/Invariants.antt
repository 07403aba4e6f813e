use Rattle.std.proofs.Common.{take}
use Rattle.card_check.proofs.LoadFilesNamed.{HaveMarks}
use Rattle.card_check.proofs.load_pages.have_load_pages.Given as goal

abbrev pub invariant-loop-slot : goal.invariant-loop-slot
invariant-loop-slot l = HaveMarks l.marks (take l.slot-index l.files)
