use Rattle.std.proofs.Common.{◌≡◌, ℕ, ◌+◌, ◌<◌, ◌≤◌, inl, inr, subst, arith}
use Rattle.std.specs.Prelude.{Contains}
use Rattle.std.proofs.lemmas.Bool.{cases_lt}
use Rattle.card_check.proofs.LoadPagesNamed.{no_marks}
use Rattle.load_session.specs.Prelude.{IsFree, IsPageInUse, all_pages}
use Rattle.card_types.specs.declared.limits.TheConstants.{LOAD_PAGES}
use Rattle.load_session.proofs.PageMarks.{marked_in_use, unmarked_apart, unmarked_free}
use Rattle.load_session.proofs.PagesInUse.{all_in_use, in_use_next}
use Rattle.flash_core.specs.declared.page.TheConstants.{PAGES}
use Rattle.page_journal.proofs.PageKinds.{IsPastJournal, load_page_at}
use Rattle.load_session.proofs.free_page.free_page.Goals as goal

pub mark_files-requires-clause-none : goal.mark_files-requires-clause-none
mark_files-requires-clause-none c = no_marks

-- a page that has a mark is in use, and is not the last one: not all of them are in use
pub loop-marks-preserved : goal.loop-marks-preserved
loop-marks-preserved c =
    let tables = c.args.tables.now in
    let taken = c.args.taken.now in
    let page = c.loop-marks.page in
    let load = c.loop-marks.invariant.is in
    let has = c.mark.ensures (all_pages tables.files.items) c.mark_files.ensures in
    let within : c.from.result < LOAD_PAGES = omega (arith, c.from.ensures, load.0, load.1) in
    let at : load_page_at c.from.result ≡ page = omega (arith, c.from.ensures, load.0) in
    let used : (p : ℕ) → IsPastJournal p → p < page + 1 → IsPageInUse tables taken p = in_use_next tables taken page c.loop-marks.invariant.used
    (subst (IsPageInUse tables taken) at (marked_in_use tables taken c.mark.new.marks has c.from.result within c.loop-marks-test.true)) in
    let last : PAGES ≤ page + 1 → ⊥ = λ high.
    (let many = all_in_use tables taken (λ p from below. used p from (omega (arith, below, high))) in omega (arith, many, c.requires.room)) in
    record {
      is = (
        omega (arith, load.0),
        elim (cases_lt (page + 1) PAGES) [
          | inl low ↦ low
          | inr high ↦ absurd (last high)
        ],
      );
      used = used;
    }

pub returns-clause-free : goal.returns-clause-free
returns-clause-free c =
    let tables = c.args.tables.now in
    let load = c.loop-marks.invariant.is in
    let has = c.mark.ensures (all_pages tables.files.items) c.mark_files.ensures in
    let within : c.from.result < LOAD_PAGES = omega (arith, c.from.ensures, load.0, load.1) in
    let at : load_page_at c.from.result ≡ c.loop-marks.page = omega (arith, c.from.ensures, load.0) in
    subst (IsFree tables) at (unmarked_free tables c.args.taken.now c.mark.new.marks has c.from.result within c.loop-marks-test.false)

pub returns-clause-apart : goal.returns-clause-apart
returns-clause-apart c =
    let tables = c.args.tables.now in
    let load = c.loop-marks.invariant.is in
    let has = c.mark.ensures (all_pages tables.files.items) c.mark_files.ensures in
    let within : c.from.result < LOAD_PAGES = omega (arith, c.from.ensures, load.0, load.1) in
    let at : load_page_at c.from.result ≡ c.loop-marks.page = omega (arith, c.from.ensures, load.0) in
    subst (λ (page : ℕ). Contains c.args.taken.now page → ⊥) at (unmarked_apart tables c.args.taken.now c.mark.new.marks has c.from.result within c.loop-marks-test.false)
