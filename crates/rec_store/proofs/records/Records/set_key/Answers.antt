use Rattle.std.proofs.Common.{◌/◌, refl, ap, sym, subst, ◌∙◌}
use Rattle.std.specs.Prelude.{All}
use Rattle.card_types.specs.Represents.{things_in}
use Rattle.rec_store.specs.KeySlot.{HoldsKey, IsRoomyKey}
use Rattle.rec_store.specs.Places.{key_page}
use Rattle.rec_store.specs.StoredTables.{HoldsPage}
use Rattle.rec_store.proofs.ChangedTables.{key_set}
use Rattle.rec_store.proofs.Roomy.{of_all_set}
use Rattle.rec_store.proofs.Staging.{frame_for, numbers_anew}
use Rattle.rec_store.proofs.records.Records.set_key.Goals as goal

pub stage_slots-requires-clause-frame : goal.stage_slots-requires-clause-frame
stage_slots-requires-clause-frame g c = frame_for c.self.inside.store.staged c.args.self.now.staged (key_page c.args.slot) (ap (λ r. r.staged) c.self.view_is) c.requires.frame

pub stage_slots-requires-clause-roomy : goal.stage_slots-requires-clause-roomy
stage_slots-requires-clause-roomy g c = subst (λ slots. All IsRoomyKey (things_in slots)) (sym c.deref.ensures.value) (of_all_set IsRoomyKey c.self.inside.tables.keys.items c.from.result c.args.value c.self.invariant.0.keys c.requires.roomy)

pub invariant_of-self : goal.invariant_of-self
invariant_of-self g c =
    let e = c.stage_slots.ensures in
    key_set g.F.Flash c.self.inside.store c.stage_slots.new.store (key_page c.args.slot) e.0 e.1 c.self.inside.tables c.self.invariant (ap (λ r. r.live) c.self.view_is ∙ c.requires.live) c.args.slot c.from.result c.args.value c.from.ensures c.requires.range refl
    (subst (HoldsPage HoldsKey 64 e.0.bytes (c.args.slot / 4)) c.deref.ensures.value e.2) c.requires.roomy

pub returns-clause-staged : goal.returns-clause-staged
returns-clause-staged g c = numbers_anew c.self.inside.store c.stage_slots.new.store (key_page c.args.slot) c.stage_slots.ensures.0 c.stage_slots.ensures.1 c.args.self.now.staged (ap (λ r. r.staged) c.self.view_is)
