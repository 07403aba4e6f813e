use Rattle.std.proofs.Common.{take}
use Rattle.card_check.specs.LoadPages.{HasMarks, all_pages}
use Rattle.load_session.proofs.free_page.mark_files.Given as goal

abbrev pub invariant-loop-slot : goal.invariant-loop-slot
invariant-loop-slot l = HasMarks l.marks (all_pages (take l.slot-index l.tables.files.items))
