use Rattle.std.proofs.Common.{refl}
use Rattle.card_types.specs.Represents.{object_of}
use Rattle.gp_tool.specs.Show.{object_line}
use Rattle.gp_tool.proofs.ListedSlots.{all_listed}
use Rattle.gp_tool.proofs.show.objects.show_objects.Goals as goal

pub returns-clause-written : goal.returns-clause-written
returns-clause-written g c page said says =
    let written = rw c.deref.ensures.value at c.write_lines.ensures.written in
    written said.objects object_line (λ thing. refl) (all_listed (object_of c.args.tables.now.entries.items) c.args.tables.now.objects.items said.objects says.objects)
    says.ascending.objects
