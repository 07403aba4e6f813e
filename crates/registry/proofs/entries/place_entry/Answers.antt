use Rattle.std.proofs.Common.{rules}
use Rattle.card_types.specs.Search.{IsFirstFree}
use Rattle.card_types.specs.Represents.{thing_in}
use Rattle.card_types.specs.declared.tables.Tables.{Tables}
use Rattle.registry.proofs.Added.{entry_added, first_free_of}
use Rattle.registry.proofs.Replaced.{thing_of}
use Rattle.registry.proofs.entries.place_entry.Goals as goal

pub returns-clause-slots : goal.returns-clause-slots
returns-clause-slots g c =
    let there : IsFirstFree c.deref.result.now c.unwrap-slot.result = search rules in
    record {
      free = first_free_of (λ (t : Tables). t.entries.items) c.args.records.now.tables c.tables.result.now c.deref.result.now c.tables.ensures.tables c.deref.ensures.value c.unwrap-slot.result there;
      set = c.put_entry.ensures.tables;
    }

pub returns-clause-said : goal.returns-clause-said
returns-clause-said g c page said says well =
    let before = c.args.records.now.tables in
    let domain = thing_of (thing_in before.entries.items c.args.value.domain) c.requires.domain in
    entry_added page before said says well c.put_entry.new.records.tables c.unwrap-slot.result c.args.value domain.0 domain.1 c.requires.fresh (returns-clause-slots g c)
