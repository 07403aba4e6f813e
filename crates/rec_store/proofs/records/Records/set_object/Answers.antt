use Rattle.std.proofs.Common.{◌/◌, refl, ap, subst, ◌∙◌}
use Rattle.rec_store.specs.ObjectSlot.{HoldsObject}
use Rattle.rec_store.specs.Places.{object_page}
use Rattle.rec_store.specs.StoredTables.{HoldsPage}
use Rattle.rec_store.proofs.ChangedTables.{object_set}
use Rattle.rec_store.proofs.Staging.{frame_for, numbers_anew}
use Rattle.rec_store.proofs.records.Records.set_object.Goals as goal

pub stage_slots-requires-clause-frame : goal.stage_slots-requires-clause-frame
stage_slots-requires-clause-frame g c = frame_for c.self.inside.store.staged c.args.self.now.staged (object_page c.args.slot) (ap (λ r. r.staged) c.self.view_is) c.requires.frame

pub invariant_of-self : goal.invariant_of-self
invariant_of-self g c =
    let e = c.stage_slots.ensures in
    object_set g.F.Flash c.self.inside.store c.stage_slots.new.store (object_page c.args.slot) e.0 e.1 c.self.inside.tables c.self.invariant (ap (λ r. r.live) c.self.view_is ∙ c.requires.live) c.args.slot c.from.result c.args.value c.from.ensures c.requires.range refl
    (subst (HoldsPage HoldsObject 128 e.0.bytes (c.args.slot / 2)) c.deref.ensures.value e.2)

pub returns-clause-staged : goal.returns-clause-staged
returns-clause-staged g c = numbers_anew c.self.inside.store c.stage_slots.new.store (object_page c.args.slot) c.stage_slots.ensures.0 c.stage_slots.ensures.1 c.args.self.now.staged (ap (λ r. r.staged) c.self.view_is)
