use Rattle.std.proofs.Common.{◌≡◌, Some, refl, rules}
use Rattle.card_types.specs.Represents.{thing_in}
use Rattle.registry.proofs.Replaced.{lent_replaced}
use Rattle.registry.proofs.entries.set_receipts.Goals as goal

pub returns-clause-said : goal.returns-clause-said
returns-clause-said g c page said says =
    let there : thing_in c.deref.result.now c.args.slot ≡ Some c.unwrap-entry.result.now = search rules in
    lent_replaced page c.args.records.now.tables c.put_entry.new.records.tables said says c.args.slot c.tables.result.now c.deref.result.now c.tables.ensures.tables c.deref.ensures.value c.unwrap-entry.result.now there
    (record c.unwrap-entry.result.now { receipts = c.args.number }) (λ e. record e { receipts = c.args.number }) (λ e. refl) refl refl c.put_entry.ensures.tables
