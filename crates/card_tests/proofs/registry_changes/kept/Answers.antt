use Rattle.std.proofs.Common.{subst}
use Rattle.card_check.specs.IsCard.{IsCard}
use Rattle.card_types.specs.declared.tables.Tables.{Tables}
use Rattle.flash_core.specs.Memory.{medium}
use Rattle.page_journal.specs.Journal.{stored_page}
use Rattle.rec_store.specs.Reopens.{load_page}
use Rattle.rec_store.proofs.Reopening.{has_pages}
use Rattle.card_tests.proofs.registry_changes.kept.Goals as goal

pub commit-requires-clause-card : goal.commit-requires-clause-card
commit-requires-clause-card c told =
    let pages = (medium c.args.records.flash).seen in
    subst (λ (t : Tables). IsCard (load_page pages) t) c.tables.ensures.tables ((c.is_card.ensures (load_page pages) (has_pages (stored_page pages))).0 c.if-not-is_card.false)
