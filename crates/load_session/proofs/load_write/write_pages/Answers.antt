use Rattle.std.proofs.Common.{◌<◌, length, get_or, [], arith}
use Rattle.std.proofs.lemmas.List.{take_more}
use Rattle.std.proofs.lemmas.List.Elements.{Contains-get_or}
use Rattle.page_journal.specs.Pages.{IsLoadPage}
use Rattle.load_session.proofs.Writes.{IsTried, its_page, next_keeps, next_moments, one_more}
use Rattle.load_session.specs.declared.load_write.LoadWrite.{LoadWrite}
use Rattle.load_session.proofs.load_write.write_pages.Given as given
use Rattle.load_session.proofs.load_write.write_pages.Goals as goal
use Rattle.load_session.proofs.load_write.write_pages.Goals.{After-write_load}

-- read in place of a write where none is
abbrev blank : LoadWrite
blank = record { number = 0; page = record { bytes = [] } }

-- what the call of `write_load` leaves
tried : (g : given.Over) (c : After-write_load g) → IsTried g.F.Flash (get_or c.args.writes.now c.loop-write.write-index blank).number c.loop-write.records c.write_load.new.self
tried g c =
    let e = c.write_load.ensures in
    record {
      tables = e.same.0;
      staged = e.same.1;
      live = e.same.2;
      others = e.others;
      moments = e.moments;
      keeps = e.keeps;
      spare = e.spare;
    }

pub write_load-requires-clause-range : goal.write_load-requires-clause-range
write_load-requires-clause-range g c =
    let writes = c.args.writes.now in
    let i = c.loop-write.write-index in
    its_page writes (get_or writes i blank) (Contains-get_or writes i blank (omega (arith, c.loop-write-test.true))) IsLoadPage c.requires.range

pub returns-in_err-write_load-clause-moments : goal.returns-in_err-write_load-clause-moments
returns-in_err-write_load-clause-moments g c =
    let writes = c.args.writes.now in
    let i = c.loop-write.write-index in
    next_moments g.F.Flash c.args.records.now writes i c.loop-write.records c.loop-write.invariant (get_or writes i blank) (Contains-get_or writes i blank (omega (arith, c.loop-write-test.true))) c.write_load.new.self
    (tried g c.before.before.before)

pub returns-in_err-write_load-clause-keeps : goal.returns-in_err-write_load-clause-keeps
returns-in_err-write_load-clause-keeps g c =
    let writes = c.args.writes.now in
    let i = c.loop-write.write-index in
    next_keeps g.F.Flash c.args.records.now writes i c.loop-write.records c.loop-write.invariant (get_or writes i blank) (Contains-get_or writes i blank (omega (arith, c.loop-write-test.true))) c.write_load.new.self
    (tried g c.before.before.before)

pub loop-write-preserved : goal.loop-write-preserved
loop-write-preserved g c =
    let writes = c.args.writes.now in
    let i = c.loop-write.write-index in
    let within : i < length writes = omega (arith, c.loop-write-test.true) in
    one_more g.F.Flash c.args.records.now writes i c.loop-write.records c.loop-write.invariant (get_or writes i blank) (Contains-get_or writes i blank within) c.write_load.new.self
    (tried g c.before.before) (take_more writes i blank within) c.in_ok-write_load.ensures.bytes c.in_ok-write_load.ensures.cause.ok
