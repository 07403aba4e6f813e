use Rattle.std.proofs.Common.{◌≡◌, ◌+◌, ◌*◌, ◌/◌, below_more, ap, sym, subst, arith}
use Rattle.card_types.specs.Represents.{thing_in}
use Rattle.rec_store.specs.Places.{slot_at}
use Rattle.rec_store.specs.Slot.{SlotHolds}
use Rattle.rec_store.proofs.slots.page_of.Goals as goal

pub loop-place-preserved : goal.loop-place-preserved
loop-place-preserved g c =
    let slots = c.args.slots.now in
    let size = g.T.Slot.SIZE in
    let each : 256 / c.SIZE-each.result ≡ 256 / size = ap (λ n. 256 / n) c.SIZE-each.ensures in
    let same : c.args.number * (256 / c.SIZE-each.result) + c.loop-place.place ≡ c.args.number * (256 / size) + c.loop-place.place = ap (λ n. c.args.number * n + c.loop-place.place) each in
    let written = c.write_held.ensures in
    below_more (λ place. SlotHolds g.T.Slot.is_in (slot_at c.write_held.new.bytes size place) (thing_in slots (c.args.number * (256 / size) + place))) c.loop-place.place
    (λ place lt. subst (λ bytes. SlotHolds g.T.Slot.is_in bytes (thing_in slots (c.args.number * (256 / size) + place)))
    (sym (written.others place (omega (arith, lt, c.loop-place-test.true, each)) (λ is. omega (arith, is, lt)))) (c.loop-place.invariant place lt))
    (subst (SlotHolds g.T.Slot.is_in (slot_at c.write_held.new.bytes size c.loop-place.place)) (ap (thing_in slots) same) written.put)

pub returns : goal.returns
returns g c place within =
    let each : 256 / c.SIZE-each.result ≡ 256 / g.T.Slot.SIZE = ap (λ n. 256 / n) c.SIZE-each.ensures in
    c.loop-place.invariant place (omega (arith, within, c.loop-place-test.false, each))
