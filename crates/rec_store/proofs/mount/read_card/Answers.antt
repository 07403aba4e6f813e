use Rattle.std.proofs.Common.{sym, subst, ◌∙◌}
use Rattle.card_types.specs.Registry.{Registry}
use Rattle.card_types.specs.Represents.{Represents}
use Rattle.page_journal.specs.Journal.{stored_page}
use Rattle.page_journal.specs.Moments.{LeavesOnly}
use Rattle.rec_store.specs.Reopens.{Reopens, load_page, store_page}
use Rattle.rec_store.proofs.OneRegistry.{read_card}
use Rattle.rec_store.proofs.Raising.{left_load, left_registry, left_tables, settled_first, settled_now, settled_registry}
use Rattle.rec_store.proofs.Reopening.{has_pages}
use Rattle.rec_store.proofs.mount.read_card.Given as given
use Rattle.rec_store.proofs.mount.read_card.Goals as goal
use Rattle.rec_store.proofs.mount.read_card.Goals.{After-raise}

pub returns-then-not-is_card-clause-err : goal.returns-then-not-is_card-clause-err
returns-then-not-is_card-clause-err g c told =
    let pages = g.F.Flash.pages c.args.store.now.flash in
    let read = c.in_ok-layout.ensures in
    record {
      none = λ registry reopens.
          let card = read_card (store_page pages) (load_page pages) c.read_tables.new.tables reopens.holds.tables registry (read.held told) read.entries reopens.holds.held reopens.holds.card in
          let is = (c.is_card.ensures (load_page pages) (has_pages (stored_page pages))).1 (record { said = registry; of = card }) in
          let not_it = c.if-not-is_card.true in
          absurd (cc (is, not_it));
      unwritten = record { pages = read.read.seen told; moments = read.read.moments told };
    }

pub returns-in_err-settle-clause-moments : goal.returns-in_err-settle-clause-moments
returns-in_err-settle-clause-moments g c told =
    let F = g.F.Flash in
    let s0 = c.args.store.now in
    let s2 = c.settle.new.self.flash in
    settled_registry F s0 c.read_tables.new.store s2 told (c.requires.sound told) (c.requires.only told) c.read_tables.ensures.read (c.settle.ensures.moments told)

pub raise-requires-clause-sound : goal.raise-requires-clause-sound
raise-requires-clause-sound g c told =
    let F = g.F.Flash in
    let s0 = c.args.store.now in
    let s2 = c.settle.new.self.flash in
    (settled_now F s0 c.read_tables.new.store s2 told (c.requires.sound told) (c.requires.only told) c.read_tables.ensures.read (c.settle.ensures.moments told) g.met.F.Flash.counts_now g.met.F.Flash.as_read).sound

moments : (g : given.Over) (c : After-raise g) (told : g.F.Flash.tells) (registry : Registry) → Reopens (g.F.Flash.pages c.args.store.now.flash) registry
    → LeavesOnly g.F.Flash c.args.store.now.flash c.raise.new.store.flash (λ outcome. Reopens outcome registry)
moments g c told registry was =
    settled_first g.F.Flash c.args.store.now c.read_tables.new.store c.settle.new.self.flash told (c.requires.sound told) (c.requires.only told) c.read_tables.ensures.read (c.settle.ensures.moments told) g.met.F.Flash.counts_now g.met.F.Flash.as_read
    c.raise.new.store.flash registry was (c.raise.ensures.moments told registry)

pub returns-in_err-raise-clause-moments : goal.returns-in_err-raise-clause-moments
returns-in_err-raise-clause-moments g c = moments g (goal.at.returns-in_err-raise-clause-moments g c).After-raise

pub returns-clause-moments : goal.returns-clause-moments
returns-clause-moments g c = moments g (goal.at.returns-clause-moments g c).After-raise

pub returns-clause-held : goal.returns-clause-held
returns-clause-held g c told =
    let F = g.F.Flash in
    let s0 = c.args.store.now in
    let s2 = c.settle.new.self.flash in
    let now = settled_now F s0 c.read_tables.new.store s2 told (c.requires.sound told) (c.requires.only told) c.read_tables.ensures.read (c.settle.ensures.moments told) g.met.F.Flash.counts_now g.met.F.Flash.as_read in
    c.in_ok-raise.ensures.held told c.read_tables.new.tables (left_tables (F.pages s0.flash) (F.pages s2) now c.read_tables.new.tables (c.in_ok-layout.ensures.held told))

pub returns-clause-load : goal.returns-clause-load
returns-clause-load g c told =
    let F = g.F.Flash in
    let s0 = c.args.store.now in
    let s2 = c.settle.new.self.flash in
    let now = settled_now F s0 c.read_tables.new.store s2 told (c.requires.sound told) (c.requires.only told) c.read_tables.ensures.read (c.settle.ensures.moments told) g.met.F.Flash.counts_now g.met.F.Flash.as_read in
    c.in_ok-raise.ensures.load told ∙ left_load (F.pages s0.flash) (F.pages s2) now

pub returns-clause-says : goal.returns-clause-says
returns-clause-says g c told =
    let F = g.F.Flash in
    let s0 = c.args.store.now in
    let s2 = c.settle.new.self.flash in
    let tables = c.read_tables.new.tables in
    let pages = F.pages s0.flash in
    let now = settled_now F s0 c.read_tables.new.store s2 told (c.requires.sound told) (c.requires.only told) c.read_tables.ensures.read (c.settle.ensures.moments told) g.met.F.Flash.counts_now g.met.F.Flash.as_read in
    let it = c.if-not-is_card.false in
    let card = (c.is_card.ensures (load_page pages) (has_pages (stored_page pages))).0 (cc it) in
    let loads = c.in_ok-raise.ensures.load told ∙ left_load pages (F.pages s2) now in
    let reopens : Reopens pages card.said = record { sound = c.requires.sound told; holds = record { layout = c.in_ok-layout.layout; tables = tables; held = c.in_ok-layout.ensures.held told; card = card.of } } in (
      card.said,
      reopens,
      subst (λ load. Represents load tables card.said) (sym loads) card.of.says,
      c.in_ok-raise.ensures.keeps told card.said (left_registry pages (F.pages s2) now card.said reopens),
    )
