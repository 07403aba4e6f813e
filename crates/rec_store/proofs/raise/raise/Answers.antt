use Rattle.std.proofs.Common.{◌≡◌, ◌<◌, [], length, ap, subst, ◌∙◌, arith}
use Rattle.std.specs.Prelude.{OnOk}
use Rattle.flash_core.specs.Device.{Only}
use Rattle.flash_core.specs.declared.page.Page.{Page}
use Rattle.frame_pool.specs.Staged.{with_page}
use Rattle.page_journal.specs.Journal.{stored_page}
use Rattle.page_journal.specs.Moments.{Always, Leaves, LeavesPages, LeavesOnly, current}
use Rattle.page_journal.specs.Store.{StandsForList, Store}
use Rattle.rec_store.specs.Reopens.{KeepsRegistry, Reopens, load_page}
use Rattle.rec_store.proofs.Leaving.{weaker}
use Rattle.rec_store.proofs.Raising.{OldOrRaised, one_registry, pool, raised_keeps, raised_load, still_keeps}
use Rattle.rec_store.proofs.Readings.{now_left}
use Rattle.rec_store.proofs.Reopening.{both_ok, on_ok}
use Rattle.rec_store.proofs.raise.raise.Goals as goal

pub returns-then-eq-clause-keeps : goal.returns-then-eq-clause-keeps
returns-then-eq-clause-keeps g c told registry was = let flash = c.args.store.now.flash in still_keeps (g.F.Flash.pages flash) (g.F.Flash.may_leave flash) registry (c.requires.only told) was

-- the store with the superblock alone staged
abbrev Raised : {F : Type 0} → Store F → Page → Store F
Raised store page = record store { staged = with_page [] 0 page }

alone : {F : Type 0} (store new : Store F) (page : Page) → store.staged ≡ [] → new ≡ record store { staged = with_page store.staged 0 page } → new ≡ Raised store page
alone store new page none is = is ∙ ap (λ staged. record store { staged = with_page staged 0 page }) none

pub returns-clause-load : goal.returns-clause-load
returns-clause-load g c told =
    let F = g.F.Flash in
    let s0 = c.args.store.now in
    let new = c.commit.new.self.flash in
    let page : Page = record { bytes = c.superblock.result } in
    let is = alone s0 c.stage.new.self page c.requires.none c.stage.ensures in
    on_ok c.commit.result (StandsForList (current (pool (F.pages s0.flash) page) (F.pages s0.flash)) (F.pages new)) (load_page (F.pages new) ≡ load_page (F.pages s0.flash))
    (raised_load (F.pages s0.flash) page (F.pages new))
    (subst (λ (s : Store g.row.F.Denot). OnOk c.commit.result (StandsForList (current s.staged (F.pages s.flash)) (F.pages new))) is (c.commit.ensures.list told))

pub returns-clause-keeps : goal.returns-clause-keeps
returns-clause-keeps g c told registry was =
    let F = g.F.Flash in
    let s0 = c.args.store.now in
    let old = F.pages s0.flash in
    let new = c.commit.new.self.flash in
    let page : Page = record { bytes = c.superblock.result } in
    let is = alone s0 c.stage.new.self page c.requires.none c.stage.ensures in
    let kept = still_keeps old (F.may_leave s0.flash) registry (c.requires.only told) was in
    let moments = subst (λ (s : Store g.row.F.Denot). Always (F.may_leave s.flash) (Leaves (stored_page (F.pages s.flash)) kept.loose) → LeavesOnly F s.flash new (LeavesPages (stored_page (F.pages s.flash)) kept.loose (current s.staged (F.pages s.flash)))) is
    (c.commit.ensures.moments told kept.loose) kept.leaves in
    let now = now_left F s0.flash new (OldOrRaised old page c.args.layout c.args.life (c.requires.superblock told) c.superblock.ensures (F.may_leave s0.flash) registry kept) moments told g.met.F.Flash.counts_now (F.pages new) (g.met.F.Flash.as_read new told) in
    on_ok c.commit.result (StandsForList (current (pool old page) old) (F.pages new) × Only (F.pages new) (F.may_leave new)) (KeepsRegistry F new registry)
    (λ committed. raised_keeps old page c.args.layout c.args.life (c.requires.superblock told) c.superblock.ensures (F.may_leave s0.flash) registry kept (F.pages new) (F.may_leave new) now committed.0 committed.1)
    (both_ok c.commit.result (StandsForList (current (pool old page) old) (F.pages new)) (Only (F.pages new) (F.may_leave new))
    (subst (λ (s : Store g.row.F.Denot). OnOk c.commit.result (StandsForList (current s.staged (F.pages s.flash)) (F.pages new))) is (c.commit.ensures.list told))
    (subst (λ (s : Store g.row.F.Denot). 0 < length s.staged → OnOk c.commit.result (Only (F.pages new) (F.may_leave new))) is (c.commit.ensures.only told) (omega arith)))

pub returns-clause-moments : goal.returns-clause-moments
returns-clause-moments g c told registry was =
    let F = g.F.Flash in
    let s0 = c.args.store.now in
    let old = F.pages s0.flash in
    let new = c.commit.new.self.flash in
    let page : Page = record { bytes = c.superblock.result } in
    let is = alone s0 c.stage.new.self page c.requires.none c.stage.ensures in
    let kept = still_keeps old (F.may_leave s0.flash) registry (c.requires.only told) was in
    let moments = subst (λ (s : Store g.row.F.Denot). Always (F.may_leave s.flash) (Leaves (stored_page (F.pages s.flash)) kept.loose) → LeavesOnly F s.flash new (LeavesPages (stored_page (F.pages s.flash)) kept.loose (current s.staged (F.pages s.flash)))) is
    (c.commit.ensures.moments told kept.loose) kept.leaves in
    weaker F s0.flash new (OldOrRaised old page c.args.layout c.args.life (c.requires.superblock told) c.superblock.ensures (F.may_leave s0.flash) registry kept) (λ outcome. Reopens outcome registry) moments
    (one_registry old page c.args.layout c.args.life (c.requires.superblock told) c.superblock.ensures (F.may_leave s0.flash) registry kept)
