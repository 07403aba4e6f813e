use Rattle.std.proofs.Common.{sym, subst}
use Rattle.page_journal.specs.Moments.{LeavesOnly}
use Rattle.rec_store.specs.Reopens.{Reopens}
use Rattle.rec_store.proofs.Reopening.{spare_of_held}
use Rattle.rec_store.proofs.mount.open.Goals as goal

pub returns-in-Err-clause-err_moments : goal.returns-in-Err-clause-err_moments
returns-in-Err-clause-err_moments g c told registry was =
    subst (λ flash. LeavesOnly g.F.Flash c.args.store.flash flash (λ outcome. Reopens outcome registry)) (sym c.into_flash.ensures) (c.read_card.ensures.moments told registry was)

pub returns-in-Ok-clause-spare : goal.returns-in-Ok-clause-spare
returns-in-Ok-clause-spare g c told = spare_of_held g.F.Flash c.read_card.new.store.flash c.read_card.new.tables (c.in-Ok.ensures.held told)
