use Rattle.std.proofs.Common.{◌∷◌, ap, ◌∙◌, subst}
use Rattle.page_journal.specs.Journal.{stored_page}
use Rattle.page_journal.specs.Moments.{Always, LeavesOnly, Leaves}
use Rattle.page_journal.proofs.Runs.{by_write}
use Rattle.page_journal.proofs.Stages.{free, none_some}
use Rattle.page_journal.proofs.store.PageStore.write_free.Goals as goal

pub returns-clause-moments : goal.returns-clause-moments
returns-clause-moments g c told loose before =
    let F = g.F.Flash in
    let page = c.args.page in
    let old = c.self.inside.flash in
    let new = c.write.new.self in
    let stands = c.self.invariant.2 told (ap (λ s. s.live) c.self.view_is ∙ c.requires.live) in
    let closed = stands.as_read.gate ∙ none_some c.self.inside.journal (ap (λ s. s.settled) c.self.view_is ∙ c.requires.settled) in
    let e = c.write.ensures in
    let run = by_write F g.met.F.Flash.only_now told page old new (e.torn told) (e.loss told) (e.time told) in
    subst (λ f. Always (F.may_leave f) (Leaves (stored_page (F.pages f)) loose) → LeavesOnly F f new (Leaves (stored_page (F.pages f)) (page ∷ loose))) (ap (λ s. s.flash) c.self.view_is)
    (λ was. free F g.met.F.Flash.only_now told loose page old new c.requires.range.0 closed stands.calm was run) before
