use Rattle.std.proofs.Common.{◌≡◌, ℕ, List, length, subst, ◌∙◌, arith}
use Rattle.std.specs.Prelude.{Ok}
use Rattle.card_types.proofs.Room.{file_room, no_file_room}
use Rattle.card_types.specs.Registry.{Registry}
use Rattle.card_types.specs.Represents.{Represents}
use Rattle.card_types.specs.declared.limits.TheConstants.{FILES}
use Rattle.card_types.specs.declared.tables.Tables.{Tables}
use Rattle.registry.proofs.Added.{Judged, first_free_of, placed_so, refused_so}
use Rattle.registry.specs.Adding.{NoneHas}
use Rattle.registry.proofs.files.add_file.Given as given
use Rattle.registry.proofs.files.add_file.Goals as goal
use Rattle.registry.proofs.files.add_file.Goals.{After-from_residual, After-place_file}

refused : (g : given.Over) (c : After-from_residual g) (page : ℕ → List ℕ) (said : Registry) (says : Represents page c.args.records.now.tables said) → Judged page c.args.records.now.tables said says c.args.value.aid (length said.files ≡ FILES) c.from_residual.result
refused g c page said says =
    let tables = c.tables-tables in
    refused_so page c.args.records.now.tables said says c.args.value.aid (length said.files ≡ FILES) (λ (t : Tables). t.files.items) tables.result.now c.deref.result.now tables.ensures.tables c.deref.ensures.value
    (λ all. no_file_room page c.args.records.now.tables said says all ∙ tables.ensures.roomy.slots.files) c.from_residual.result c.in_err-place.field-0.0 c.from_residual.ensures.1 c.in_err-place.ensures.err

pub returns-in_err-place-clause-taken : goal.returns-in_err-place-clause-taken
returns-in_err-place-clause-taken g c page said says = (refused g (goal.at.returns-in_err-place-clause-taken g c).After-from_residual page said says).0

pub returns-in_err-place-clause-full : goal.returns-in_err-place-clause-full
returns-in_err-place-clause-full g c page said says = (refused g (goal.at.returns-in_err-place-clause-full g c).After-from_residual page said says).1

pub place_file-requires-clause-fresh : goal.place_file-requires-clause-fresh
place_file-requires-clause-fresh g c = subst (λ (t : Tables). NoneHas t c.args.value.aid) c.tables-tables.ensures.tables c.in_ok-place.ensures.fresh

pub place_file-requires-clause-free : goal.place_file-requires-clause-free
place_file-requires-clause-free g c none =
    let tables = c.tables-tables in
    let free = first_free_of (λ (t : Tables). t.files.items) c.args.records.now.tables tables.result.now c.deref.result.now tables.ensures.tables c.deref.ensures.value c.in_ok-place.field-0 c.in_ok-place.ensures.ok in
    none c.in_ok-place.field-0 free.within free.free

placed : (g : given.Over) (c : After-place_file g) (page : ℕ → List ℕ) (said : Registry) (says : Represents page c.args.records.now.tables said) → Judged page c.args.records.now.tables said says c.args.value.aid (length said.files ≡ FILES) (Ok c.place_file.result)
placed g c page said says =
    let free = c.place_file.ensures.slots.free in
    let below = file_room page c.args.records.now.tables said says c.place_file.result free.within free.free in
    placed_so page c.args.records.now.tables said says c.args.value.aid (length said.files ≡ FILES) (place_file-requires-clause-fresh g c.before) (λ all. omega (arith, all, below, c.tables-tables.ensures.roomy.slots.files)) c.place_file.result

pub returns-clause-taken : goal.returns-clause-taken
returns-clause-taken g c page said says = (placed g (goal.at.returns-clause-taken g c).After-place_file page said says).0

pub returns-clause-full : goal.returns-clause-full
returns-clause-full g c page said says = (placed g (goal.at.returns-clause-full g c).After-place_file page said says).1
