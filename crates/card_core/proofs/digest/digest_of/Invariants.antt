use Rattle.std.proofs.Common.{◌≡◌, map, take}
use Rattle.std.specs.List.{concat}
use Rattle.card_core.specs.Prelude.{Holds256, IsLoadRead, load_page}
use Rattle.card_core.proofs.digest.digest_of.Given as goal

abbrev pub invariant-loop-index : goal.invariant-loop-index
invariant-loop-index g l =
    let F = g.F.Flash in
    IsLoadRead F l.fn.records l.records
    × (F.tells → Holds256 l.hasher (take l.fn.file.len (concat (map (load_page (F.pages l.fn.records.flash)) (take l.index l.fn.file.pages)))))
    × (F.faults l.records.flash ≡ F.faults l.fn.records.flash)
