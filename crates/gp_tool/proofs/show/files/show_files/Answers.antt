use Rattle.std.proofs.Common.{◌≡◌, ◌++◌, List, take, refl, ap, ◌∙◌, arith}
use Rattle.std.proofs.lemmas.Result.{MatchResult-from_err}
use Rattle.card_types.specs.Represents.{file_of}
use Rattle.card_types.specs.declared.tables.LoadFile.{LoadFile}
use Rattle.card_types.specs.declared.tables.Tables.{Tables}
use Rattle.flash_core.specs.declared.page.Page.{Page}
use Rattle.rec_store.specs.Reopens.{Reopens, load_page}
use Rattle.gp_tool.proofs.FilesInOrder.{file_found, file_order_total, files_sorted, no_file_found}
use Rattle.gp_tool.proofs.CardStands.{says_told, still_leaves}
use Rattle.rec_store.proofs.Leaving.{joined}
use Rattle.gp_tool.proofs.Written.{all_written, enough_written, next_written, none_written, part_of_lines}
use Rattle.gp_tool.specs.Show.{file_line}
use Rattle.gp_tool.proofs.show.files.show_files.Goals as goal

-- a file over the same load pages, by the same tables
same_file : (pages pages' : List Page) (tables tables' : Tables) (file : LoadFile) → pages' ≡ pages → tables' ≡ tables
    → file_line (file_of (load_page pages') tables'.entries.items file) ≡ file_line (file_of (load_page pages) tables.entries.items file)
same_file pages pages' tables tables' file over by =
    ap (λ (p : List Page). file_line (file_of (load_page p) tables'.entries.items file)) over
    ∙ ap (λ (t : Tables). file_line (file_of (load_page pages) t.entries.items file)) by

pub loop-init : goal.loop-init
loop-init g c =
    let F = g.F.Flash in
    let card = c.args.card.now in
    record {
      live = c.requires.live;
      tables = refl;
      stands = λ state stands. stands;
      moments = λ told state stands. still_leaves F card state stands g.met.F.Flash.only_now told;
      pages = λ told. refl;
      written = λ told state stands. none_written (files_sorted _ card.tables state.registry (says_told F card state stands told));
      flushes = refl;
      later = omega arith;
      faults = refl;
    }

pub loop-preserved : goal.loop-preserved
loop-preserved g c =
    let F = g.F.Flash in
    let card = c.args.card.now in
    let now = c.loop.card in
    let file = c.in-Some.file in
    let was = c.loop.invariant in
    let next = c.in_ok-write_file-in-Some.ensures in
    record {
      live = next.live;
      tables = c.write_file.ensures.same ∙ was.tables;
      stands = λ state stands. next.stands state (was.stands state stands);
      moments = λ told state stands.
          joined F card.flash now.flash c.write_file.new.card.flash (λ outcome. Reopens outcome state.registry) (λ outcome. Reopens outcome state.registry)
          (was.moments told state stands) (c.write_file.ensures.moments told state (was.stands state stands)) (λ outcome reopens. reopens);
      pages = λ told. c.write_file.ensures.pages told ∙ was.pages told;
      written = λ told state stands.
          (let says = says_told F card state stands told in
          let found = file_found _ card.tables state.registry says c.loop.last c.in-Some.slot file (rw (c.tables.ensures.tables ∙ was.tables) at c.in-Some.ensures.some) in
          next_written file_order_total (was.written told state stands) (file_of (load_page (F.pages card.flash)) card.tables.entries.items file) found (λ tells.
          next.written told state (was.stands state stands) tells
          ∙ ap (λ text. (g.K.Sink.state c.loop.sink).written ++ text) (same_file (F.pages card.flash) (F.pages now.flash) card.tables now.tables file (was.pages told) was.tables)));
      flushes = c.write_file.ensures.flushes ∙ was.flushes;
      later = omega (arith, was.later, c.write_file.ensures.later);
      faults = next.quiet ∙ was.faults;
    }

pub returns-in_err-write_file-in-Some-clause-written : goal.returns-in_err-write_file-in-Some-clause-written
returns-in_err-write_file-in-Some-clause-written g c told state stands =
    let F = g.F.Flash in
    let card = c.args.card.now in
    let now = c.loop.card in
    let file = c.in-Some.file in
    let was = c.loop.invariant in
    let says = says_told F card state stands told in
    let found = file_found _ card.tables state.registry says c.loop.last c.in-Some.slot file (rw (c.tables.ensures.tables ∙ was.tables) at c.in-Some.ensures.some) in
    MatchResult-from_err c.from_residual.result _ _ c.from_residual.ensures.0 (λ _ tells.
    (let part = c.in_err-write_file-in-Some.ensures.written told state (was.stands state stands) tells in
    part_of_lines file_order_total (was.written told state stands) (file_of (load_page (F.pages card.flash)) card.tables.entries.items file) found tells
    (part.0, part.1 ∙ ap (λ text. (g.K.Sink.state c.loop.sink).written ++ take part.0 text) (same_file (F.pages card.flash) (F.pages now.flash) card.tables now.tables file (was.pages told) was.tables))))

pub returns-in_err-write_file-in-Some-clause-moments : goal.returns-in_err-write_file-in-Some-clause-moments
returns-in_err-write_file-in-Some-clause-moments g c told state stands =
    let was = c.loop.invariant in
    joined g.F.Flash c.args.card.now.flash c.loop.card.flash c.write_file.new.card.flash (λ outcome. Reopens outcome state.registry) (λ outcome. Reopens outcome state.registry)
    (was.moments told state stands) (c.write_file.ensures.moments told state (was.stands state stands)) (λ outcome reopens. reopens)

pub returns-in-None-clause-written : goal.returns-in-None-clause-written
returns-in-None-clause-written g c told state stands =
    let F = g.F.Flash in
    let card = c.args.card.now in
    let was = c.loop.invariant in
    let says = says_told F card state stands told in
    all_written (was.written told state stands)
    (no_file_found _ card.tables state.registry says c.loop.last (rw (c.tables.ensures.tables ∙ was.tables) at c.in-None.ensures.none))

pub returns-clause-written : goal.returns-clause-written
returns-clause-written g c told state stands =
    let past = c.loop-test.false in
    let few = stands.sound.well.few_files in
    enough_written (c.loop.invariant.written told state stands) (omega (arith, few, past))
