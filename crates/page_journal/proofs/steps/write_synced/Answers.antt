use Rattle.std.proofs.Common.{◌≡◌}
use Rattle.page_journal.proofs.Runs.{by_write, quiet, goes_on}
use Rattle.page_journal.proofs.steps.write_synced.Goals as goal

pub returns-in_err-write-clause-touches : goal.returns-in_err-write-clause-touches
returns-in_err-write-clause-touches g c told =
    let F = g.F.Flash in
    let e = c.in_err-write.ensures in
    by_write F g.met.F.Flash.only_now told c.args.page _ _ (e.torn told) (e.loss told) (e.time told)

pub returns-clause-touches : goal.returns-clause-touches
returns-clause-touches g c told =
    let F = g.F.Flash in
    let w = c.in_ok-write.ensures in
    let s = c.sync.ensures in
    goes_on F g.met.F.Flash.only_now told (λ p. p ≡ c.args.page) _ _ _
    (by_write F g.met.F.Flash.only_now told c.args.page _ _ (w.torn told) (w.loss told) (w.time told))
    (quiet F g.met.F.Flash.only_now told (λ p. p ≡ c.args.page) _ _ (s.torn told) (s.loss told) (s.time told))
