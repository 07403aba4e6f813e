use Rattle.std.proofs.Common.{◌≡◌, ℕ, ◌+◌, ◌*◌, ◌/◌, ◌<◌, Option, length, ap, sym, subst, ◌∙◌, arith}
use Rattle.std.specs.Prelude.{IfSome}
use Rattle.card_types.specs.Represents.{thing_in}
use Rattle.rec_store.specs.Reopens.{store_page}
use Rattle.rec_store.specs.Places.{slot_at, slot_from}
use Rattle.rec_store.proofs.Causes.{no_card}
use Rattle.rec_store.proofs.Places.{all_pages, page_more, page_of_all, page_within, slot_in_page, some_each}
use Rattle.rec_store.proofs.Readings.{reads_on}
use Rattle.rec_store.proofs.Roomy.{of_all}
use Rattle.rec_store.specs.Slot.{SlotHolds}
use Rattle.rec_store.proofs.slots.read_slots.Goals as goal

pub read_store-requires-clause-range : goal.read_store-requires-clause-range
read_store-requires-clause-range g c =
    let size = g.T.Slot.SIZE in
    let all = length c.args.slots.now in
    omega (
      arith,
      c.FIRST.ensures,
      page_within g.T.Slot.FIRST c.loop-number.number all (256 / size) c.requires.range
          (page_of_all size c.SIZE.result c.loop-number.number all c.SIZE.ensures c.requires.whole (omega (arith, c.loop-number-test.true))) (some_each size g.met.T.Slot.sizes.1),
    )

pub returns-in_err-read_page-clause-err : goal.returns-in_err-read_page-clause-err
returns-in_err-read_page-clause-err g c =
    let size = g.T.Slot.SIZE in
    let F = g.F.Flash in
    let store = store_page (F.pages c.args.store.now.flash) in
    let bad = c.in_err-read_page.ensures.err in
    let number = c.loop-number.number in
    no_card c.from_residual-in_err-read_page.result F.tells (F.faults c.args.store.now.flash) (F.faults c.read_store.new.store.flash)
    ((slot : ℕ) × (slot < length c.args.slots.now) × ((thing : Option g.row.T.Denot) → SlotHolds g.T.Slot.is_in (slot_from store g.T.Slot.FIRST size slot) thing → ⊥))
    c.from_residual-in_err-read_page.ensures.1
    (λ told.
    let seen : store (g.T.Slot.FIRST + number) ≡ c.in_ok-page.page.bytes =
    ap (λ pages. store_page pages (g.T.Slot.FIRST + number)) (sym (c.loop-number.invariant.read.seen told))
    ∙ ap (λ n. store_page (F.pages c.loop-number.store.flash) (n + number)) (sym c.FIRST.ensures)
    ∙ c.in_ok-page.ensures.page told in
    let here = slot_in_page store g.T.Slot.FIRST size number bad.0 bad.1 ∙ ap (λ bytes. slot_at bytes size bad.0) seen in (
      number * (256 / size) + bad.0,
      omega (arith, bad.1, page_of_all size c.SIZE.result number (length c.args.slots.now) c.SIZE.ensures c.requires.whole (omega (arith, c.loop-number-test.true))),
      λ thing holds. bad.2 thing (subst (λ bytes. SlotHolds g.T.Slot.is_in bytes thing) here holds),
    ))

pub loop-number-preserved : goal.loop-number-preserved
loop-number-preserved g c =
    let size = g.T.Slot.SIZE in
    let F = g.F.Flash in
    let was = c.loop-number.invariant in
    let slots = c.read_page.new.slots in
    let read = c.in_ok-read_page.ensures in
    record {
      read = reads_on F c.args.store.now c.loop-number.store c.read_store.new.store was.read c.read_store.ensures.read;
      holds = λ told. page_more (256 / size) c.loop-number.number (λ slot. SlotHolds g.T.Slot.is_in (slot_from (store_page (F.pages c.args.store.now.flash)) g.T.Slot.FIRST size slot) (thing_in slots slot))
          (λ slot lt. subst (SlotHolds g.T.Slot.is_in (slot_from (store_page (F.pages c.args.store.now.flash)) g.T.Slot.FIRST size slot)) (sym (read.before slot lt)) (was.holds told slot lt))
          (λ place lt.
          let here = slot_in_page (store_page (F.pages c.args.store.now.flash)) g.T.Slot.FIRST size c.loop-number.number place lt in
          let seen : store_page (F.pages c.args.store.now.flash) (g.T.Slot.FIRST + c.loop-number.number) ≡ c.in_ok-page.page.bytes =
          ap (λ pages. store_page pages (g.T.Slot.FIRST + c.loop-number.number)) (sym (was.read.seen told))
          ∙ ap (λ n. store_page (F.pages c.loop-number.store.flash) (n + c.loop-number.number)) (sym c.FIRST.ensures)
          ∙ c.in_ok-page.ensures.page told in
          subst (λ bytes. SlotHolds g.T.Slot.is_in bytes (thing_in slots (c.loop-number.number * (256 / size) + place))) (sym (here ∙ ap (λ bytes. slot_at bytes size place) seen)) (read.ok place lt));
      roomy = page_more (256 / size) c.loop-number.number (λ slot. IfSome (thing_in slots slot) g.T.Slot.is_read)
          (λ slot lt. subst (λ thing. IfSome thing g.T.Slot.is_read) (sym (read.before slot lt)) (was.roomy slot lt))
          read.read_each;
    }

pub returns-clause-read_each : goal.returns-clause-read_each
returns-clause-read_each g c =
    let size = g.T.Slot.SIZE in
    let all = length c.args.slots.now in
    let each : all / (256 / c.SIZE.result) ≡ all / (256 / size) = ap (λ n. all / (256 / n)) c.SIZE.ensures in
    let number : c.loop-number.number ≡ all / (256 / size) = omega (arith, each, c.loop-number-test.false, c.loop-number.auto.number-end) in
    let row : c.loop-number.number * (256 / size) ≡ all = ap (λ n. n * (256 / size)) number ∙ all_pages all (256 / size) c.requires.whole in
    of_all g.T.Slot.is_read c.loop-number.slots (λ slot lt. c.loop-number.invariant.roomy slot (omega (arith, lt, row, c.loop-number.auto.slots)))
