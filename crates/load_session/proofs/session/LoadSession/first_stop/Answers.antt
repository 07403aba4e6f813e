use Rattle.std.proofs.Common.{◌≡◌, ◌++◌, drop, true, sym, ◌∙◌}
use Rattle.std.proofs.lemmas.Bool.{false≢true}
use Rattle.load_session.proofs.Judged.{has_hash, has_room, no_room, other_count, other_hash, same_count, same_hash, some_length, up_to_end}
use Rattle.policy_machine.specs.LoadBlocks.{Block, HaveHash}
use Rattle.load_session.proofs.session.LoadSession.first_stop.Goals as goal
use Rattle.load_session.proofs.session.LoadSession.first_stop.Goals.{else-last-via-then-last+else-not-fits, else-last-via-else-last}

pub returns-then-not-has_room-clause-stopped : goal.returns-then-not-has_room-clause-stopped
returns-then-not-has_room-clause-stopped c page said load whole says stands =
    let block : Block = record { last = c.args.last; field = c.args.block.now } in
    let taken = c.in-Some.taken in
    no_room page whole c.args.tables.now said says c.args.self.now load stands block taken.size (drop taken.start c.args.block.now) (c.in-Some.ensures.some c.args.last)
    c.requires.roomy.files c.has_room.ensures.arrays (c.has_room.ensures.no c.if-not-has_room.true)

pub returns-then-not-has_count-clause-stopped : goal.returns-then-not-has_count-clause-stopped
returns-then-not-has_count-clause-stopped c page said load whole says stands =
    let block : Block = record { last = c.args.last; field = c.args.block.now } in
    let taken = c.in-Some.taken in
    let bytes = drop taken.start c.args.block.now in
    let brings = c.in-Some.ensures.some c.args.last in
    let room = c.has_room.ensures.yes c.if-not-has_room.false in (
      has_room page whole c.args.tables.now said says c.args.self.now load stands block taken.size bytes brings c.requires.roomy.files c.has_room.ensures.arrays room.0 room.1,
      other_count page whole c.args.tables.now said says c.args.self.now load stands block taken.size bytes brings _ (up_to_end c.args.block.now taken.start)
          (c.has_count.ensures.no c.if-not-has_count.true),
    )

pub returns-then-not-fits-clause-stopped : goal.returns-then-not-fits-clause-stopped
returns-then-not-fits-clause-stopped c page said load whole says stands =
    let block : Block = record { last = c.args.last; field = c.args.block.now } in
    let taken = c.in-Some.taken in
    let bytes = drop taken.start c.args.block.now in
    let brings = c.in-Some.ensures.some c.args.last in
    let sent = up_to_end c.args.block.now taken.start in
    let room = c.has_room.ensures.yes c.if-not-has_room.false in (
      has_room page whole c.args.tables.now said says c.args.self.now load stands block taken.size bytes brings c.requires.roomy.files c.has_room.ensures.arrays room.0 room.1,
      same_count page whole c.args.tables.now said says c.args.self.now load stands block taken.size bytes brings _ sent
          (c.has_count.ensures.yes c.if-not-has_count.false) (c.has_count.ensures.all c.if-not-has_count.false),
      other_hash page whole c.args.tables.now said says c.args.self.now load stands block taken.size bytes brings _ sent c.deref.result.now c.deref.ensures.0 c.fits.result c.fits.ensures
          c.if-last.true c.if-not-fits.true,
    )

pub returns-clause-passes : goal.returns-clause-passes
returns-clause-passes c page said load whole says stands =
    let block : Block = record { last = c.args.last; field = c.args.block.now } in
    let taken = c.in-Some.taken in
    let bytes = drop taken.start c.args.block.now in
    let kept = c.args.self.now in
    let brings = c.in-Some.ensures.some c.args.last in
    let sent = up_to_end c.args.block.now taken.start in
    let room = c.has_room.ensures.yes c.if-not-has_room.false in
    let have : c.args.last ≡ true → HaveHash (load.bytes ++ bytes) kept.hash.items = elim c.else-last.branch [
      | else-last-via-then-last+else-not-fits w ↦ λ last.
          has_hash page whole c.args.tables.now said says kept load stands block taken.size bytes brings _ sent w.deref.result.now w.deref.ensures.0 w.fits.result w.fits.ensures w.if-not-fits.false
      | else-last-via-else-last w ↦ λ last. absurd (false≢true (sym w.if-last.false ∙ last))
    ] in
    record {
      length_is = some_length page whole c.args.tables.now said says kept load stands block taken.size bytes brings;
      room = has_room page whole c.args.tables.now said says kept load stands block taken.size bytes brings c.requires.roomy.files c.has_room.ensures.arrays room.0 room.1;
      count = same_count page whole c.args.tables.now said says kept load stands block taken.size bytes brings _ sent
          (c.has_count.ensures.yes c.if-not-has_count.false) (c.has_count.ensures.all c.if-not-has_count.false);
      hash = same_hash page whole c.args.tables.now said says kept load stands block taken.size bytes brings have;
    }
