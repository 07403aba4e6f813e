use Rattle.std.proofs.Common.{◌==◌, List, Option, ap, ◌∙◌}
use Rattle.std.proofs.lemmas.Bool.{eq-eqb}
use Rattle.card_types.specs.Search.{NoneFits}
use Rattle.card_types.specs.Represents.{thing_in}
use Rattle.card_types.specs.declared.tables.Entry.{Entry}
use Rattle.card_types.specs.declared.tables.LoadFile.{LoadFile}
use Rattle.card_types.specs.declared.tables.Tables.{Tables}
use Rattle.card_tests.proofs.Found.{where_none}
use Rattle.card_tests.proofs.registry_changes.is_no_domain.Goals as goal

pub returns-then-is_none : goal.returns-then-is_none
returns-then-is_none c none =
    let entries = c.deref.ensures.value ∙ ap (λ (t : Tables). t.entries.items) c.tables-tables.ensures.tables in
    let files = c.deref-then-is_none.ensures.value ∙ ap (λ (t : Tables). t.files.items) c.tables-tables.ensures.tables in
    let entry_fits : NoneFits (λ (e : Entry). e.domain == c.args.slot) c.deref.result.now = where_none c.first_that.result _ c.is_none.result c.is_none.ensures c.if-is_none.true c.first_that.ensures.none in
    let file_fits : NoneFits (λ (f : LoadFile). f.domain == c.args.slot) c.deref-then-is_none.result.now = where_none c.first_that-then-is_none.result _ c.is_none-then-is_none.result c.is_none-then-is_none.ensures none c.first_that-then-is_none.ensures.none in
    record {
      entries = λ other entry apart at same. entry_fits other entry (ap (λ (s : List (Option Entry)). thing_in s other) entries ∙ at) (eq-eqb entry.domain c.args.slot same);
      files = λ other file at same. file_fits other file (ap (λ (s : List (Option LoadFile)). thing_in s other) files ∙ at) (eq-eqb file.domain c.args.slot same);
    }
