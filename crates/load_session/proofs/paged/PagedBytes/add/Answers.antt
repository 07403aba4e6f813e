use Rattle.std.proofs.Common.{refl}
use Rattle.load_session.proofs.Loading.{taken_none}
use Rattle.load_session.proofs.paged.PagedBytes.add.Goals as goal

pub returns-then-bytes-free-clause-taken : goal.returns-then-bytes-free-clause-taken
returns-then-bytes-free-clause-taken c = let pages = c.args.self.now.pages.items in taken_none c.args.tables.now pages pages c.args.writes.now.items c.requires.none refl

pub returns-clause-taken : goal.returns-clause-taken
returns-clause-taken c =
    let pages = c.args.self.now.pages.items in
    c.write_rest.ensures.taken pages (taken_none c.args.tables.now pages pages c.args.writes.now.items c.requires.none refl)
