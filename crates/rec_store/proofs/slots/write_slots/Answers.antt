use Rattle.std.proofs.Common.{◌≡◌, ◌≢◌, ◌⊎◌, inl, inr, ℕ, ◌+◌, ◌*◌, ◌/◌, ◌%◌, ◌<◌, ap, ◌∙◌, arith}
use Rattle.rec_store.proofs.Places.{page_of_all, page_within, some_each}
use Rattle.rec_store.proofs.Written.{held_more}
use Rattle.rec_store.specs.Slot.{SlotHolds}
use Rattle.page_journal.specs.Pages.{IsStorePage}
use Rattle.page_journal.proofs.PageKinds.{AreWithinStore, IsPastStore}
use Rattle.rec_store.proofs.slots.write_slots.Goals as goal

-- a page of another kind is not the one that is written
another : (page first number at : ℕ) → at ≡ first + number → IsStorePage (first + number) → (page < first) ⊎ IsPastStore page → page ≢ at
another page first number at is lt (inl less) same = omega (arith, is, less, same)
another page first number at is lt (inr more) same = omega (arith, is, lt, more, same)

-- the page that is written is one of the store pages
within : (first size read number count : ℕ) → read ≡ size → 256 / size * size ≡ 256 → count % (256 / size) ≡ 0 → AreWithinStore first count (256 / size) → number < count / (256 / read) → IsStorePage (first + number)
within first size read number count same whole even range lt =
    page_within first number count (256 / size) range (page_of_all size read number count same even lt) (some_each size whole)

pub returns-in_err-write-clause-others : goal.returns-in_err-write-clause-others
returns-in_err-write-clause-others g c told page out =
    let number = c.loop-number.number in
    let first = g.T.Slot.FIRST in
    let lt = within first g.T.Slot.SIZE c.SIZE.result number c.args.count c.SIZE.ensures g.met.T.Slot.sizes.1 c.requires.whole c.requires.range (omega (arith, c.loop-number-test.true)) in
    (c.in_err-write.ensures.torn told).others page (another page first number (c.FIRST.result + number) (ap (λ n. n + number) c.FIRST.ensures) lt out) ∙ c.loop-number.invariant.others told page out

pub loop-number-preserved : goal.loop-number-preserved
loop-number-preserved g c =
    let number = c.loop-number.number in
    let first = g.T.Slot.FIRST in
    let size = g.T.Slot.SIZE in
    let was = c.loop-number.invariant in
    let written = c.in_ok-write.ensures in
    let lt = within first size c.SIZE.result number c.args.count c.SIZE.ensures g.met.T.Slot.sizes.1 c.requires.whole c.requires.range (omega (arith, c.loop-number-test.true)) in
    let at : c.FIRST.result + number ≡ first + number = ap (λ n. n + number) c.FIRST.ensures in
    record {
      held = λ told. held_more (SlotHolds g.T.Slot.is_in) first size number (c.FIRST.result + number) (g.F.Flash.pages c.loop-number.flash) (g.F.Flash.pages c.write.new.self) _ c.args.slots.now at (written.torn told) (written.written told) c.page_of.ensures (was.held told);
      others = λ told page out. (written.torn told).others page (another page first number (c.FIRST.result + number) at lt out) ∙ was.others told page out;
      faults = written.cause.ok ∙ was.faults;
    }
