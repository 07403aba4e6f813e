use Rattle.std.proofs.Common.{◌≡◌, ℕ, List, length, subst, ◌∙◌, arith}
use Rattle.std.specs.Prelude.{Ok}
use Rattle.card_types.proofs.Room.{entry_room, no_entry_room}
use Rattle.card_types.specs.Registry.{Registry}
use Rattle.card_types.specs.Represents.{Represents}
use Rattle.card_types.specs.declared.limits.TheConstants.{ENTRIES}
use Rattle.card_types.specs.declared.tables.Tables.{Tables}
use Rattle.registry.proofs.Added.{Judged, first_free_of, placed_so, refused_so}
use Rattle.registry.specs.Adding.{NoneHas}
use Rattle.registry.proofs.entries.add_entry.Given as given
use Rattle.registry.proofs.entries.add_entry.Goals as goal
use Rattle.registry.proofs.entries.add_entry.Goals.{After-from_residual, After-place_entry}

refused : (g : given.Over) (c : After-from_residual g) (page : ℕ → List ℕ) (said : Registry) (says : Represents page c.args.records.now.tables said) → Judged page c.args.records.now.tables said says c.args.value.aid (length said.entries ≡ ENTRIES) c.from_residual.result
refused g c page said says =
    let tables = c.tables-tables in
    refused_so page c.args.records.now.tables said says c.args.value.aid (length said.entries ≡ ENTRIES) (λ (t : Tables). t.entries.items) tables.result.now c.deref.result.now tables.ensures.tables c.deref.ensures.value
    (λ all. no_entry_room page c.args.records.now.tables said says all ∙ tables.ensures.roomy.slots.entries) c.from_residual.result c.in_err-place.field-0.0 c.from_residual.ensures.1 c.in_err-place.ensures.err

pub returns-in_err-place-clause-taken : goal.returns-in_err-place-clause-taken
returns-in_err-place-clause-taken g c page said says = (refused g (goal.at.returns-in_err-place-clause-taken g c).After-from_residual page said says).0

pub returns-in_err-place-clause-full : goal.returns-in_err-place-clause-full
returns-in_err-place-clause-full g c page said says = (refused g (goal.at.returns-in_err-place-clause-full g c).After-from_residual page said says).1

pub place_entry-requires-clause-fresh : goal.place_entry-requires-clause-fresh
place_entry-requires-clause-fresh g c = subst (λ (t : Tables). NoneHas t c.args.value.aid) c.tables-tables.ensures.tables c.in_ok-place.ensures.fresh

pub place_entry-requires-clause-free : goal.place_entry-requires-clause-free
place_entry-requires-clause-free g c none =
    let tables = c.tables-tables in
    let free = first_free_of (λ (t : Tables). t.entries.items) c.args.records.now.tables tables.result.now c.deref.result.now tables.ensures.tables c.deref.ensures.value c.in_ok-place.field-0 c.in_ok-place.ensures.ok in
    none c.in_ok-place.field-0 free.within free.free

placed : (g : given.Over) (c : After-place_entry g) (page : ℕ → List ℕ) (said : Registry) (says : Represents page c.args.records.now.tables said) → Judged page c.args.records.now.tables said says c.args.value.aid (length said.entries ≡ ENTRIES) (Ok c.place_entry.result)
placed g c page said says =
    let free = c.place_entry.ensures.slots.free in
    let below = entry_room page c.args.records.now.tables said says c.place_entry.result free.within free.free in
    placed_so page c.args.records.now.tables said says c.args.value.aid (length said.entries ≡ ENTRIES) (place_entry-requires-clause-fresh g c.before) (λ all. omega (arith, all, below, c.tables-tables.ensures.roomy.slots.entries)) c.place_entry.result

pub returns-clause-taken : goal.returns-clause-taken
returns-clause-taken g c page said says = (placed g (goal.at.returns-clause-taken g c).After-place_entry page said says).0

pub returns-clause-full : goal.returns-clause-full
returns-clause-full g c page said says = (placed g (goal.at.returns-clause-full g c).After-place_entry page said says).1
