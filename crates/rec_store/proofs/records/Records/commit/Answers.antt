use Rattle.std.proofs.Common.{◌≡◌, ◌⊎◌, inl, inr, ⊎_elim, ◌<◌, [], length, ap, sym, subst, ◌∙◌}
use Rattle.std.specs.Prelude.{OnOk}
use Rattle.card_check.specs.IsCard.{IsCard}
use Rattle.card_types.specs.Represents.{Represents}
use Rattle.flash_core.specs.Device.{Only}
use Rattle.page_journal.specs.Journal.{bytes_of, stored_page}
use Rattle.page_journal.specs.Moments.{LeavesOnly, current}
use Rattle.page_journal.specs.Store.{StandsForList, Store}
use Rattle.rec_store.specs.Contents.{Contents}
use Rattle.rec_store.specs.Reopens.{AreSpare, KeepsRegistry, Reopens, load_in, load_page, store_in, store_page}
use Rattle.rec_store.proofs.Committing.{Either, done, either, idle, load_now, some_or_none}
use Rattle.rec_store.proofs.Leaving.{weaker}
use Rattle.rec_store.proofs.OneRegistry.{card_of_said}
use Rattle.rec_store.proofs.Readings.{now_left}
use Rattle.rec_store.proofs.Reopening.{always_ok, both_ok, load_same, on_ok, spare_of_held, tables_same}
use Rattle.rec_store.proofs.records.Records.commit.Goals as goal

pub returns-clause-moments : goal.returns-clause-moments
returns-clause-moments g c told before after =
    let F = g.F.Flash in
    let store = c.self.inside.store in
    let tables = c.self.inside.tables in
    let old = store.flash in
    let new = c.commit.new.self.flash in
    let held = c.self.invariant.3 told (ap (λ r. r.live) c.self.view_is ∙ c.requires.live) in
    let card = subst (λ (r : Contents g.row.F.Denot). IsCard (load_page (F.pages r.flash)) r.tables) (sym c.self.view_is) (c.requires.card told) in
    subst (λ (r : Contents g.row.F.Denot). KeepsRegistry F r.flash before → Represents (load_page (F.pages r.flash)) r.tables after
    → LeavesOnly F r.flash new (λ outcome. Reopens outcome before ⊎ Reopens outcome after)) c.self.view_is
    (λ was says.
    let of = card_of_said (load_page (F.pages old)) tables after card says in
    weaker F old new (Either store.staged (F.pages old) (F.may_leave old) tables before after c.self.invariant.2 held of was)
    (λ outcome. Reopens outcome before ⊎ Reopens outcome after) (c.commit.ensures.moments told was.loose was.leaves)
    (either store.staged (F.pages old) (F.may_leave old) tables before after c.self.invariant.2 held of was))

pub returns-clause-keeps : goal.returns-clause-keeps
returns-clause-keeps g c told before after =
    let F = g.F.Flash in
    let store = c.self.inside.store in
    let tables = c.self.inside.tables in
    let old = store.flash in
    let new = c.commit.new.self.flash in
    let list = current store.staged (F.pages old) in
    let e = c.commit.ensures in
    let held = c.self.invariant.3 told (ap (λ r. r.live) c.self.view_is ∙ c.requires.live) in
    let card = subst (λ (r : Contents g.row.F.Denot). IsCard (load_page (F.pages r.flash)) r.tables) (sym c.self.view_is) (c.requires.card told) in
    let K = KeepsRegistry F new after in
    subst (λ (r : Contents g.row.F.Denot). KeepsRegistry F r.flash before → Represents (load_page (F.pages r.flash)) r.tables after → OnOk c.commit.result K) c.self.view_is
    (λ was says. let of = card_of_said (load_page (F.pages old)) tables after card says in ⊎_elim
    (λ (empty : store.staged ≡ []). always_ok c.commit.result K
    (subst (λ (s : Store g.row.F.Denot). KeepsRegistry F s.flash after) (sym (e.idle empty).1) (idle store.staged (F.pages old) (F.may_leave old) tables before after c.self.invariant.2 held of was empty)))
    (λ (some : 0 < length store.staged).
    let leaves = now_left F old new (Either store.staged (F.pages old) (F.may_leave old) tables before after c.self.invariant.2 held of was)
    (e.moments told was.loose was.leaves) told g.met.F.Flash.counts_now (F.pages new) (g.met.F.Flash.as_read new told) in
    on_ok c.commit.result (StandsForList list (F.pages new) × Only (F.pages new) (F.may_leave new)) K
    (λ committed. done store.staged (F.pages old) (F.may_leave old) tables before after c.self.invariant.2 held of was (F.pages new) (F.may_leave new) leaves committed.0 committed.1)
    (both_ok c.commit.result (StandsForList list (F.pages new)) (Only (F.pages new) (F.may_leave new)) (e.list told) (e.only told some)))
    (some_or_none store.staged))

pub returns-clause-load : goal.returns-clause-load
returns-clause-load g c told =
    let F = g.F.Flash in
    let store = c.self.inside.store in
    let old = store.flash in
    let new = c.commit.new.self.flash in
    let list = current store.staged (F.pages old) in
    on_ok c.commit.result (StandsForList list (F.pages new)) (load_page (F.pages new) ≡ load_page (F.pages c.args.self.now.flash))
    (λ listed.
    let loads : load_page (F.pages new) ≡ load_in list = λ i n. load_same (stored_page (F.pages new)) list n (λ high. listed n (inr high)) i in
    loads ∙ load_now store.staged (F.pages old) c.self.invariant.2 ∙ ap (λ r. load_page (F.pages r.flash)) c.self.view_is)
    (c.commit.ensures.list told)

pub returns-clause-spare : goal.returns-clause-spare
returns-clause-spare g c told =
    let F = g.F.Flash in
    let store = c.self.inside.store in
    let new = c.commit.new.self.flash in
    let list = current store.staged (F.pages store.flash) in
    let held = c.self.invariant.3 told (ap (λ r. r.live) c.self.view_is ∙ c.requires.live) in
    on_ok c.commit.result (StandsForList list (F.pages new)) (AreSpare F new c.self.inside.tables)
    (λ listed. spare_of_held F new c.self.inside.tables (tables_same (store_in list) (store_page (F.pages new)) (λ n lt. ap bytes_of (listed n (inl lt))) c.self.inside.tables held))
    (c.commit.ensures.list told)
