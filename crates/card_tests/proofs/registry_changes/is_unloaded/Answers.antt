use Rattle.std.proofs.Common.{◌==◌, List, Option, ap, ◌∙◌}
use Rattle.std.proofs.lemmas.Bool.{eq-eqb}
use Rattle.card_types.specs.Search.{NoneFits}
use Rattle.card_types.specs.Represents.{thing_in}
use Rattle.card_types.specs.declared.tables.Entry.{Entry}
use Rattle.card_types.specs.declared.tables.Tables.{Tables}
use Rattle.card_tests.proofs.Found.{where_none}
use Rattle.card_tests.proofs.registry_changes.is_unloaded.Goals as goal

pub returns : goal.returns
returns c none other entry at same =
    let slots = c.deref.ensures.value ∙ ap (λ (t : Tables). t.entries.items) c.tables.ensures.tables in
    let fits : NoneFits (λ (e : Entry). e.file == c.args.slot) c.deref.result.now = where_none c.first_that.result _ c.is_none.result c.is_none.ensures none c.first_that.ensures.none in
    fits other entry (ap (λ (s : List (Option Entry)). thing_in s other) slots ∙ at) (eq-eqb entry.file c.args.slot same)
