use Rattle.std.proofs.Common.{◌≡◌, ◌≢◌, inl, inr, ℕ, ◌∷◌, Some, ap, sym, subst, ◌∙◌, arith}
use Rattle.std.specs.Prelude.{Contains}
use Rattle.std.proofs.lemmas.List.Elements.{All-contains}
use Rattle.card_check.specs.IsCard.{pages_named}
use Rattle.card_types.specs.Represents.{things_in}
use Rattle.card_types.proofs.Members.{contains_cases}
use Rattle.flash_core.specs.declared.flash.Flash.{Ghosts as Flash}
use Rattle.page_journal.specs.Journal.{bytes_of, stored_page}
use Rattle.page_journal.specs.Moments.{Leaves, LeavesOnly}
use Rattle.rec_store.specs.Contents.{Contents}
use Rattle.rec_store.specs.Reopens.{IsFree, IsSpare, KeepsRegistry, Reopens, load_page}
use Rattle.rec_store.proofs.Leaving.{weaker}
use Rattle.rec_store.proofs.Readings.{now_left}
use Rattle.rec_store.proofs.Reopening.{keeps_left, left, load_read, load_same, on_ok, says_same, spare_same}
use Rattle.rec_store.proofs.records.Records.write_load.Goals as goal

pub returns-clause-bytes : goal.returns-clause-bytes
returns-clause-bytes g c told =
    let pages = g.F.Flash.pages c.write_free.new.self.flash in
    on_ok c.write_free.result (stored_page pages c.args.page ≡ Some c.args.from.now) (load_page pages c.args.page ≡ c.args.from.now.bytes)
    (λ is. sym (load_read (stored_page pages) c.args.page c.args.from.now c.requires.range.0 is c.if-prove.false)) (c.write_free.ensures.written told)

-- with the page that is written, which no file on the device has, no loose page is one of a file
freed : {F : Type 0} (device : Flash F) (flash : F) (page : ℕ) → IsSpare device flash page → {registry : _} → (was : KeepsRegistry device flash registry) → (n : ℕ) → Contains (page ∷ was.loose) n → IsFree was.now.holds.tables n
freed device flash page spare was n among = elim (contains_cases page was.loose n among) [
  | inl same ↦ subst (IsFree was.now.holds.tables) same (spare was.now.holds.layout was.now.holds.tables was.now.holds.held)
  | inr later ↦ was.free n later
]

pub returns-clause-moments : goal.returns-clause-moments
returns-clause-moments g c told spare_page registry =
    let F = g.F.Flash in
    let new = c.write_free.new.self.flash in
    let page = c.args.page in
    subst (λ (r : Contents g.row.F.Denot). IsSpare F r.flash page → KeepsRegistry F r.flash registry → LeavesOnly F r.flash new (λ outcome. Reopens outcome registry)) c.self.view_is
    (λ spare was.
    let old = c.self.inside.store.flash in
    let on = was.now.holds in
    let free = freed F old page spare was in
    weaker F old new (Leaves (stored_page (F.pages old)) (page ∷ was.loose)) (λ outcome. Reopens outcome registry)
    (c.write_free.ensures.moments told was.loose was.leaves)
    (λ outcome leaves. left (stored_page (F.pages old)) (page ∷ was.loose) outcome on.tables leaves free registry on.card on.held)) spare_page

pub returns-clause-keeps : goal.returns-clause-keeps
returns-clause-keeps g c told spare_page registry =
    let F = g.F.Flash in
    let new = c.write_free.new.self.flash in
    let page = c.args.page in
    subst (λ (r : Contents g.row.F.Denot). IsSpare F r.flash page → KeepsRegistry F r.flash registry → KeepsRegistry F new registry) c.self.view_is
    (λ spare was.
    let old = c.self.inside.store.flash in
    let on = was.now.holds in
    let free = freed F old page spare was in
    let later = now_left F old new (Leaves (stored_page (F.pages old)) (page ∷ was.loose)) (c.write_free.ensures.moments told was.loose was.leaves) told g.met.F.Flash.counts_now in
    keeps_left (stored_page (F.pages old)) (page ∷ was.loose) on.tables registry free on.held on.card (F.pages new) (F.may_leave new) (later (F.pages new) (g.met.F.Flash.as_read new told)) later) spare_page

pub returns-clause-spare : goal.returns-clause-spare
returns-clause-spare g c told other =
    let F = g.F.Flash in
    let new = c.write_free.new.self.flash in
    subst (λ (r : Contents g.row.F.Denot). IsSpare F r.flash other → IsSpare F new other) c.self.view_is
    (spare_same F c.self.inside.store.flash new (λ n lt. ap bytes_of (c.write_free.ensures.others told n (λ is. omega (arith, is, lt, c.requires.range.0)))) other)

pub returns-clause-says : goal.returns-clause-says
returns-clause-says g c told registry free says =
    let pages = g.F.Flash.pages in
    let flash_is = ap (λ r. r.flash) c.self.view_is in
    let tables = c.args.self.now.tables in
    let page = c.args.page in
    let others : (n : ℕ) → n ≢ page → load_page (pages c.write_free.new.self.flash) n ≡ load_page (pages c.args.self.now.flash) n =
    λ n apart. load_same (stored_page (pages c.write_free.new.self.flash)) (stored_page (pages c.self.inside.store.flash)) n (λ high. c.write_free.ensures.others told n apart) ∙ ap (λ f. load_page (pages f) n) flash_is in
    says_same (load_page (pages c.args.self.now.flash)) (load_page (pages c.write_free.new.self.flash)) tables
    (λ file among n named. others n (λ is. All-contains (λ file. Contains (pages_named file) page → ⊥) (things_in tables.files.items) file free among (subst (Contains (pages_named file)) is named)))
    registry says
