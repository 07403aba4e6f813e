use Rattle.std.proofs.Common.{◌≡◌, ◌+◌, ◌*◌, ◌/◌, ◌<◌, ℕ, None, slice_set, below_more, ap, sym, subst, ◌∙◌, arith}
use Rattle.std.specs.Prelude.{IfSome}
use Rattle.std.proofs.lemmas.List.{get_or-set_other, get_or-set_same}
use Rattle.card_types.specs.Represents.{thing_in}
use Rattle.rec_store.specs.Places.{slot_at}
use Rattle.rec_store.specs.Slot.{SlotHolds}
use Rattle.rec_store.proofs.slots.read_page.Goals as goal

pub loop-place-preserved : goal.loop-place-preserved
loop-place-preserved g c =
    let size = g.T.Slot.SIZE in
    let first = c.args.number * (256 / size) in
    let each : 256 / c.SIZE-each.result ≡ 256 / size = ap (λ n. 256 / n) c.SIZE-each.ensures in
    let slot = c.args.number * (256 / c.SIZE-each.result) + c.loop-place.place in
    let same : slot ≡ first + c.loop-place.place = ap (λ n. c.args.number * n + c.loop-place.place) each in
    let thing = c.in_ok-slots.field-0 in
    let was = c.loop-place.invariant in
    let slots = slice_set c.loop-place.slots slot thing in
    let here : thing_in slots (first + c.loop-place.place) ≡ thing = ap (thing_in slots) (sym same) ∙ get_or-set_same c.loop-place.slots slot thing None (omega (arith, c.loop-place-test.true, c.requires, same, each, c.loop-place.auto.slots)) in
    let others : (other : ℕ) → other < first + c.loop-place.place → thing_in slots other ≡ thing_in c.loop-place.slots other = λ other lt. get_or-set_other c.loop-place.slots slot other thing None (λ is. omega (arith, is, lt, same)) in
    record {
      holds = below_more (λ place. SlotHolds g.T.Slot.is_in (slot_at c.args.bytes.now size place) (thing_in slots (first + place))) c.loop-place.place
          (λ place lt. subst (SlotHolds g.T.Slot.is_in (slot_at c.args.bytes.now size place)) (sym (others (first + place) (omega (arith, lt)))) (was.holds place lt))
          (subst (SlotHolds g.T.Slot.is_in (slot_at c.args.bytes.now size c.loop-place.place)) (sym here) c.in_ok-slots.ensures.ok);
      roomy = below_more (λ place. IfSome (thing_in slots (first + place)) g.T.Slot.is_read) c.loop-place.place
          (λ place lt. subst (λ thing. IfSome thing g.T.Slot.is_read) (sym (others (first + place) (omega (arith, lt)))) (was.roomy place lt))
          (subst (λ thing. IfSome thing g.T.Slot.is_read) (sym here) c.in_ok-slots.ensures.read_each);
      before = λ slot lt. others slot (omega (arith, lt)) ∙ was.before slot lt;
    }

pub returns-clause-ok : goal.returns-clause-ok
returns-clause-ok g c place within =
    let each : 256 / c.SIZE-each.result ≡ 256 / g.T.Slot.SIZE = ap (λ n. 256 / n) c.SIZE-each.ensures in
    c.loop-place.invariant.holds place (omega (arith, within, c.loop-place-test.false, each))

pub returns-clause-read_each : goal.returns-clause-read_each
returns-clause-read_each g c place within =
    let each : 256 / c.SIZE-each.result ≡ 256 / g.T.Slot.SIZE = ap (λ n. 256 / n) c.SIZE-each.ensures in
    c.loop-place.invariant.roomy place (omega (arith, within, c.loop-place-test.false, each))
