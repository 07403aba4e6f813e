use Rattle.std.proofs.Common.{◌≡◌, Some, sym, ap, subst, ◌∙◌}
use Rattle.std.specs.Prelude.{IfSome}
use Rattle.card_core.specs.Prelude.{AreCards, IsInLoadPages, RepresentsSome, kept_of, load_page, stored_page, thing_in}
use Rattle.rec_store.proofs.Reopening.{has_pages}
use Rattle.rec_store.proofs.Roomy.{of_slot}
use Rattle.card_core.proofs.Over.{reading, spare_over}
use Rattle.card_core.proofs.card.Card.file_digest.Goals as goal

pub digest_of-requires-clause-file : goal.digest_of-requires-clause-file
digest_of-requires-clause-file g c =
    let pages = g.F.Flash.pages c.self.inside.records.flash in
    let files = c.self.inside.records.tables.files.items in
    let all = (c.self.invariant.0 (load_page pages) (has_pages (stored_page pages))).of.files in
    let there = rw c.unwrap-file.ensures at c.in_slot.ensures in
    let same : c.deref.result.now ≡ files = c.deref.ensures.value ∙ ap (λ t. t.files.items) c.tables.ensures.tables in
    let at : thing_in files c.args.slot ≡ Some c.unwrap-file.result.now = subst (λ slots. thing_in slots c.args.slot ≡ Some c.unwrap-file.result.now) same there in
    subst (λ file. IfSome file IsInLoadPages) at (of_slot IsInLoadPages files c.args.slot all)

pub invariant_of-self : goal.invariant_of-self
invariant_of-self g c =
    let read = c.digest_of.ensures.read in (
      subst AreCards (sym read.tables) c.self.invariant.0,
      λ live. (let was = c.self.invariant.1 live in (
        record {
          live = read.live ∙ was.0.live;
          staged = read.staged ∙ was.0.staged;
          writes = was.0.writes;
          spare = λ told. rw (read.tables) (spare_over g.F.Flash c.self.inside.records.flash c.digest_of.new.records.flash c.self.inside.records.tables (read.seen told) (was.0.spare told));
        },
        subst (λ t. RepresentsSome (kept_of t c.self.inside.channels)) (sym read.tables) was.1,
      )),
    )

pub invariant_of-self-in-Err : goal.invariant_of-self-in-Err
invariant_of-self-in-Err g c = (subst AreCards (sym c.digest_of.ensures.read.tables) c.self.invariant.0, λ live. cc)

pub returns-in-Ok-clause-moments : goal.returns-in-Ok-clause-moments
returns-in-Ok-clause-moments g c told state stands =
    let F = g.F.Flash in
    reading F c.args.self.now state stands c.self.inside.records.flash (ap (λ view. view.flash) c.self.view_is)
    c.digest_of.new.records.flash c.digest_of.ensures.read.moments told

pub returns-in-Err-clause-moments : goal.returns-in-Err-clause-moments
returns-in-Err-clause-moments g c told state stands =
    let F = g.F.Flash in
    reading F c.args.self.now state stands c.self.inside.records.flash (ap (λ view. view.flash) c.self.view_is)
    c.digest_of.new.records.flash c.digest_of.ensures.read.moments told

pub returns-in-Ok-clause-stands : goal.returns-in-Ok-clause-stands
returns-in-Ok-clause-stands g c state stood =
    let stands = rw (← c.self.view_is) at stood in
    let read = c.digest_of.ensures.read in
    record {
      live = stands.live;
      page = stands.page;
      whole = stands.whole;
      shows = rw read.tables stands.shows;
      sound = stands.sound;
      load = λ told. ap load_page (read.seen told) ∙ stands.load told;
      keeps = λ told. read.keeps told state.registry (stands.keeps told);
    }
