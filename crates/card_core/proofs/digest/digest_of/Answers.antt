use Rattle.std.proofs.Common.{rules, ◌≡◌, ◌<◌, ◌≤◌, ◌++◌, ◌+◌, ◌*◌, ◌/◌, ◌%◌, length, map, min, take, subst, ◌∙◌, arith}
use Rattle.std.specs.List.{concat}
use Rattle.std.proofs.lemmas.Grind.{common_steps}
use Rattle.std.proofs.lemmas.List.{length-take-le}
use Rattle.std.proofs.lemmas.List.Elements.{All-get_or}
use Rattle.std.specs.Prelude.{slice_index}
use Rattle.card_core.specs.Prelude.{Holds256, IsLoadPage, load_page, pages_of, stored_page}
use Rattle.card_core.proofs.LoadReads.{fed, reads_on}
use Rattle.rec_store.proofs.Reopening.{has_pages}
use Rattle.card_core.proofs.digest.digest_of.Goals as goal

pub feed_page-requires-clause-range : goal.feed_page-requires-clause-range
feed_page-requires-clause-range g c =
    let file = c.args.file in
    let long : length file.pages ≡ 128 = search rules in
    let size = c.requires.file.size in
    let end : c.div_ceil-index-end.result ≡ c.from-len.result / 256 + min 1 (c.from-len.result % 256) = c.div_ceil-index-end.ensures in
    let few : pages_of file.len ≤ length file.pages = omega (arith, long, size) in
    let taken = length-take-le (pages_of file.len) file.pages few in
    let within : c.loop-index.index < pages_of file.len = omega (arith, c.loop-index-test.true, end, c.from-len.ensures) in
    let same : slice_index (take (pages_of file.len) file.pages) c.loop-index.index ≡ slice_index file.pages c.loop-index.index = grind (arith, common_steps) in
    subst IsLoadPage same (All-get_or IsLoadPage (take (pages_of file.len) file.pages) c.loop-index.index 0 (omega (arith, taken, within)) c.requires.file.pages)

pub returns-in_err-feed_page-clause-read : goal.returns-in_err-feed_page-clause-read
returns-in_err-feed_page-clause-read g c =
    let F = g.F.Flash in
    reads_on F c.args.records.now c.loop-index.records c.feed_page.new.records c.loop-index.invariant.0 c.feed_page.ensures.read

pub loop-index-preserved : goal.loop-index-preserved
loop-index-preserved g c =
    let F = g.F.Flash in
    let file = c.args.file in
    let old = c.args.records.now in
    let page = load_page (F.pages old.flash) in
    let long : length file.pages ≡ 128 = search rules in
    let size = c.requires.file.size in
    let end : c.div_ceil-index-end.result ≡ c.from-len.result / 256 + min 1 (c.from-len.result % 256) = c.div_ceil-index-end.ensures in
    let before : 256 * c.loop-index.index < file.len = omega (arith, c.loop-index-test.true, end, c.from-len.ensures) in (
      reads_on F old c.loop-index.records c.feed_page.new.records c.loop-index.invariant.0 c.feed_page.ensures.read,
      (λ told.
          let message = take file.len (concat (map page (take c.loop-index.index file.pages))) in
          let more = subst (λ pages. Holds256 c.feed_page.new.hasher (message ++ take c.min-count.result (load_page pages (slice_index file.pages c.loop-index.index)))) (c.loop-index.invariant.0.seen told)
          (c.in_ok-feed_page.ensures.fed told message (c.loop-index.invariant.1 told)) in
          subst (Holds256 c.feed_page.new.hasher)
          (fed page (has_pages (stored_page (F.pages old.flash))) file.pages file.len c.loop-index.index c.min-count.result (omega (arith, before, long, size)) before (c.min-count.ensures ∙ omega (arith, c.from-len.ensures)))
          more),
      c.in_ok-feed_page.ensures.cause.ok ∙ c.loop-index.invariant.2,
    )
