use Rattle.std.proofs.Common.{refl, ◌∙◌, arith}
use Rattle.flash_core.specs.Device.{Only}
use Rattle.rec_store.specs.Reopens.{KeepsRegistry, load_page}
use Rattle.rec_store.proofs.LaidOut.{laid_out}
use Rattle.rec_store.proofs.OneRegistry.{card_of_said}
use Rattle.rec_store.proofs.Reopening.{on_ok}
use Rattle.page_journal.proofs.PageKinds.{gate_page}
use Rattle.rec_store.proofs.layout.lay_out.Goals as goal

pub returns-clause-keeps : goal.returns-clause-keeps
returns-clause-keeps g c told tables registry first card says =
    let F = g.F.Flash in
    let written = F.pages c.write_tables.new.flash in
    let device = c.sync.new.self in
    let laid = c.in_ok-write_tables.ensures in
    let synced = c.sync.ensures in
    on_ok c.sync.result (Only written (F.may_leave device)) (KeepsRegistry F device registry)
    (λ only. laid_out written (F.pages device) _ (F.may_leave device) tables registry (laid.held told tables first) (laid.others told gate_page (omega arith) ∙ c.in_ok-write-2.ensures.written told) refl (synced.torn told) only (card_of_said (load_page (F.pages device)) tables registry card says))
    (synced.written told)
