use Rattle.std.proofs.Common.{◌≡◌, ◌+◌, ◌/◌, refl, ap, sym, subst, ◌∙◌, arith}
use Rattle.std.specs.Prelude.{All}
use Rattle.card_check.specs.IsCard.{IsInLoadPages}
use Rattle.card_types.specs.Represents.{things_in}
use Rattle.rec_store.specs.FileSlot.{HoldsFile}
use Rattle.rec_store.specs.Places.{file_page}
use Rattle.rec_store.specs.Room.{HasFrame, with_staged}
use Rattle.rec_store.specs.StoredTables.{HoldsPage}
use Rattle.rec_store.proofs.ChangedTables.{file_set}
use Rattle.rec_store.proofs.Roomy.{of_all_set}
use Rattle.rec_store.proofs.Staging.{frame_for, numbers_anew}
use Rattle.rec_store.proofs.records.Records.set_file.Goals as goal
use Rattle.rec_store.specs.declared.slot_places.TheConstants.{FILE_BYTES, FIRST_FILE_PAGE}

pub stage_slots-requires-clause-frame : goal.stage_slots-requires-clause-frame
stage_slots-requires-clause-frame g c =
    let is : file_page c.args.slot ≡ FIRST_FILE_PAGE + c.args.slot / (256 / FILE_BYTES) = omega arith in
    frame_for c.self.inside.store.staged c.args.self.now.staged (FIRST_FILE_PAGE + c.args.slot / (256 / FILE_BYTES)) (ap (λ r. r.staged) c.self.view_is) (subst (HasFrame c.args.self.now.staged) is c.requires.frame)

pub stage_slots-requires-clause-roomy : goal.stage_slots-requires-clause-roomy
stage_slots-requires-clause-roomy g c = subst (λ slots. All IsInLoadPages (things_in slots)) (sym c.deref.ensures.value) (of_all_set IsInLoadPages c.self.inside.tables.files.items c.from.result c.args.value c.self.invariant.0.files c.requires.roomy)

pub invariant_of-self : goal.invariant_of-self
invariant_of-self g c =
    let e = c.stage_slots.ensures in
    file_set g.F.Flash c.self.inside.store c.stage_slots.new.store (FIRST_FILE_PAGE + c.args.slot / (256 / FILE_BYTES)) e.0 e.1 c.self.inside.tables c.self.invariant (ap (λ r. r.live) c.self.view_is ∙ c.requires.live) c.args.slot c.from.result c.args.value c.from.ensures c.requires.range refl
    (subst (HoldsPage HoldsFile 256 e.0.bytes (c.args.slot / 1)) c.deref.ensures.value e.2) c.requires.roomy

pub returns-clause-staged : goal.returns-clause-staged
returns-clause-staged g c =
    let is : FIRST_FILE_PAGE + c.args.slot / (256 / FILE_BYTES) ≡ file_page c.args.slot = omega arith in
    numbers_anew c.self.inside.store c.stage_slots.new.store (FIRST_FILE_PAGE + c.args.slot / (256 / FILE_BYTES)) c.stage_slots.ensures.0 c.stage_slots.ensures.1 c.args.self.now.staged (ap (λ r. r.staged) c.self.view_is) ∙ ap (with_staged c.args.self.now.staged) is
