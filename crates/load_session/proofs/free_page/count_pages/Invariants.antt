use Rattle.std.proofs.Common.{◌≡◌, ◌*◌, ◌≤◌, take}
use Rattle.std.specs.Prelude.{All}
use Rattle.std.specs.List.{sum_by}
use Rattle.load_session.specs.Prelude.{HasPageNumbers, pages_of, things_in}
use Rattle.card_types.specs.declared.tables.LoadFile.{LoadFile}
use Rattle.load_session.proofs.free_page.count_pages.Given as goal

abbrev pub invariant-loop-slot : goal.invariant-loop-slot
invariant-loop-slot l =
    (l.count ≡ sum_by (λ (file : LoadFile). pages_of file.len) (things_in (take l.slot-index l.tables.files.items)))
    × (l.count ≤ 256 * l.slot-index)
    × All HasPageNumbers (things_in (take l.slot-index l.tables.files.items))
