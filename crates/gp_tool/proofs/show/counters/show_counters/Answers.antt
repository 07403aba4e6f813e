use Rattle.std.proofs.Common.{refl}
use Rattle.std.proofs.lemmas.List.Elements.{All-contains}
use Rattle.card_types.proofs.KeyNames.{counters_shown}
use Rattle.card_types.specs.Represents.{counter_of}
use Rattle.card_types.specs.Well.{IsWellCounter}
use Rattle.gp_tool.specs.Show.{counter_line}
use Rattle.gp_tool.proofs.show.counters.show_counters.Goals as goal

pub write_lines-requires-clause-fits : goal.write_lines-requires-clause-fits
write_lines-requires-clause-fits g c slot thing at kept =
    let tables = c.args.tables.now in
    let order = c.requires.in_order in
    let there = (counters_shown order.page tables order.said order.says).there slot thing (rw c.deref.ensures.value at at) kept in
    (All-contains (IsWellCounter order.said) order.said.counters (counter_of tables.entries.items thing) order.well.counters there).number

pub returns-clause-written : goal.returns-clause-written
returns-clause-written g c page said says =
    let written = rw c.deref.ensures.value at c.write_lines.ensures.written in
    written said.counters counter_line (λ thing. refl) says.counters says.ascending.counters
