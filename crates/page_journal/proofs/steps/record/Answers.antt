use Rattle.std.proofs.Common.{◌∙◌, arith}
use Rattle.page_journal.proofs.Causes.{on_ok}
use Rattle.page_journal.proofs.PageKinds.{copy_page}
use Rattle.page_journal.proofs.steps.record.Goals as goal

pub returns-clause-copies : goal.returns-clause-copies
returns-clause-copies g c told =
    on_ok c.write_synced.result _ (λ i entry lt is.
    (c.write_synced.ensures.touches told).seen (copy_page i) (λ same. omega (arith, same)) ∙ c.in_ok-write_copies.ensures.copies told i entry lt is)
