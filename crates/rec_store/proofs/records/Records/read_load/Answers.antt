use Rattle.std.proofs.Common.{◌≡◌, Some, ap, sym, subst, ◌∙◌, arith}
use Rattle.page_journal.specs.Journal.{stored_page}
use Rattle.page_journal.specs.Moments.{current}
use Rattle.rec_store.specs.Reopens.{KeepsRegistry, load_page}
use Rattle.rec_store.proofs.Reopening.{keeps_on, load_current, load_read, on_ok}
use Rattle.rec_store.proofs.records.Records.read_load.Goals as goal

pub returns-clause-bytes : goal.returns-clause-bytes
returns-clause-bytes g c told =
    let pages = g.F.Flash.pages in
    let store = c.self.inside.store in
    let page = c.args.page in
    let into = c.read-answer.new.into in
    on_ok c.read-answer.result (current store.staged (pages store.flash) page ≡ Some into) (into.bytes ≡ load_page (pages c.args.self.now.flash) page)
    (λ is.
    let there : stored_page (pages store.flash) page ≡ Some into = sym (load_current store.staged (pages store.flash) page c.self.invariant.2 (omega (arith, c.requires.range.0))) ∙ is in
    load_read (stored_page (pages store.flash)) page into c.requires.range.0 there c.if-prove.false ∙ ap (λ r. load_page (pages r.flash) page) c.self.view_is)
    (c.read-answer.ensures.list told (ap (λ r. r.live) c.self.view_is ∙ c.requires.live))

pub returns-clause-keeps : goal.returns-clause-keeps
returns-clause-keeps g c told registry was =
    let F = g.F.Flash in
    let old = c.self.inside.store.flash in
    let new = c.read-answer.new.self.flash in
    keeps_on (F.pages old) (F.pages new) (F.may_leave old) (F.may_leave new) registry (c.read-answer.ensures.pages told) (c.read-answer.ensures.loss told)
    (subst (λ f. KeepsRegistry F f registry) (sym (ap (λ r. r.flash) c.self.view_is)) was)
