use Rattle.std.proofs.Common.{subst}
use Rattle.card_check.specs.IsCard.{IsCard}
use Rattle.page_journal.specs.Journal.{stored_page}
use Rattle.rec_store.specs.Reopens.{load_page}
use Rattle.rec_store.proofs.Reopening.{has_pages}
use Rattle.cases.proofs.act.commit.Goals as goal

pub commit-requires-clause-card : goal.commit-requires-clause-card
commit-requires-clause-card g c told =
    let pages = g.F.Flash.pages c.args.records.now.flash in
    let it = c.if-not-is_card.false in
    subst (IsCard (load_page pages)) c.tables.ensures.tables ((c.is_card.ensures (load_page pages) (has_pages (stored_page pages))).0 (cc it))
