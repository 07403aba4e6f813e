use Rattle.std.proofs.Common.{◌+◌, ◌/◌, length, arith}
use Rattle.rec_store.proofs.Places.{staged_page}
use Rattle.page_journal.specs.Pages.{IsStorePage}
use Rattle.rec_store.proofs.slots.stage_slots.Given as given
use Rattle.rec_store.proofs.slots.stage_slots.Goals as goal
use Rattle.rec_store.proofs.slots.stage_slots.Goals.{After-SIZE}

within : (g : given.Over) (c : After-SIZE g) → IsStorePage (g.T.Slot.FIRST + c.from.result / (256 / c.SIZE.result))
within g c = staged_page g.T.Slot.FIRST g.T.Slot.SIZE (length c.args.slots.now) c.args.slot g.met.T.Slot.sizes.1 c.requires.slot c.requires.whole c.requires.range c.SIZE.result c.from.result c.SIZE.ensures c.from.ensures

pub page_of-requires-clause-range : goal.page_of-requires-clause-range
page_of-requires-clause-range g c = omega (arith, within g (goal.at.page_of-requires-clause-range g c).After-SIZE)

pub stage-requires-clause-range : goal.stage-requires-clause-range
stage-requires-clause-range g c = omega (arith, within g (goal.at.stage-requires-clause-range g c).After-SIZE, c.FIRST.ensures)
