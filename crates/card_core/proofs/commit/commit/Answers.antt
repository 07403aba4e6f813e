use Rattle.std.proofs.Common.{inl, sym, subst}
use Rattle.card_core.specs.Prelude.{IsCard, Reopens, ReopensEither, Represents, load_page, stored_page}
use Rattle.rec_store.proofs.Leaving.{joined, weaker}
use Rattle.rec_store.proofs.Reopening.{has_pages}
use Rattle.card_core.proofs.commit.commit.Goals as goal

pub returns-in_err-write_pages-clause-moments : goal.returns-in_err-write_pages-clause-moments
returns-in_err-write_pages-clause-moments g c told before after keeps says =
    weaker g.F.Flash c.args.records.now.flash c.write_pages.new.records.flash (λ outcome. Reopens outcome before) (ReopensEither before after)
    (c.write_pages.ensures.moments told (c.requires.spare told) before keeps) (λ outcome is. inl is)

pub commit-requires-clause-card : goal.commit-requires-clause-card
commit-requires-clause-card g c told =
    let pages = g.F.Flash.pages c.write_pages.new.records.flash in
    subst (IsCard (load_page pages)) (sym c.write_pages.ensures.same.0) (c.requires.cards (load_page pages) (has_pages (stored_page pages)))

pub returns-clause-moments : goal.returns-clause-moments
returns-clause-moments g c told before after keeps says =
    let old = c.args.records.now.flash in
    let mid = c.write_pages.new.records.flash in
    let written = c.in_ok-write_pages.ensures in
    let first = weaker g.F.Flash old mid (λ outcome. Reopens outcome before) (ReopensEither before after)
    (c.write_pages.ensures.moments told (c.requires.spare told) before keeps) (λ outcome is. inl is) in
    let here = subst (λ t. Represents (load_page (g.F.Flash.pages mid)) t after) (sym c.write_pages.ensures.same.0)
    (subst (λ page. Represents page c.args.records.now.tables after) (sym (written.bytes told)) says) in
    joined g.F.Flash old mid c.commit.new.self.flash (ReopensEither before after) (ReopensEither before after) first
    (c.commit.ensures.moments told before after (c.write_pages.ensures.keeps told (c.requires.spare told) before keeps) here) (λ outcome is. is)

pub returns-clause-keeps : goal.returns-clause-keeps
returns-clause-keeps g c told before after keeps says =
    let mid = c.write_pages.new.records.flash in
    let here = subst (λ t. Represents (load_page (g.F.Flash.pages mid)) t after) (sym c.write_pages.ensures.same.0)
    (subst (λ page. Represents page c.args.records.now.tables after) (sym (c.in_ok-write_pages.ensures.bytes told)) says) in
    c.commit.ensures.keeps told before after (c.write_pages.ensures.keeps told (c.requires.spare told) before keeps) here
