use Rattle.std.proofs.Common.{refl}
use Rattle.card_types.specs.Aid.{aid_order}
use Rattle.card_types.specs.Registry.{Entry}
use Rattle.card_types.proofs.LeastOfList.{sorted_by_name}
use Rattle.card_types.specs.Represents.{entry_of}
use Rattle.gp_tool.specs.Show.{entry_line}
use Rattle.gp_tool.proofs.ListedSlots.{all_listed}
use Rattle.gp_tool.proofs.show.entries.show_entries.Goals as goal

pub returns-clause-written : goal.returns-clause-written
returns-clause-written g c page said says =
    let written = rw c.deref.ensures.value at c.write_lines.ensures.written in
    written said.entries entry_line (λ thing. refl) (all_listed (entry_of c.args.tables.now.entries.items c.args.tables.now.files.items) c.args.tables.now.entries.items said.entries says.entries)
    (sorted_by_name aid_order (λ (entry : Entry). entry.aid) said.entries says.ascending.entries)
