use Rattle.std.proofs.Common.{refl}
use Rattle.card_types.specs.Represents.{key_of}
use Rattle.gp_tool.specs.Show.{key_line}
use Rattle.gp_tool.proofs.ListedSlots.{all_listed}
use Rattle.gp_tool.proofs.show.keys.show_keys.Goals as goal

pub returns-clause-written : goal.returns-clause-written
returns-clause-written g c page said says =
    let written = rw c.deref.ensures.value at c.write_lines.ensures.written in
    written said.keys key_line (λ thing. refl) (all_listed (key_of c.args.tables.now.entries.items) c.args.tables.now.keys.items said.keys says.keys)
    says.ascending.keys
