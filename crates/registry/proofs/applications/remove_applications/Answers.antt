use Rattle.std.proofs.Common.{ap}
use Rattle.card_types.specs.Represents.{thing_in}
use Rattle.registry.specs.TableLists.{TableLists}
use Rattle.registry.proofs.Replaced.{thing_of}
use Rattle.registry.proofs.Unloaded.{applications_removed, unloaded}
use Rattle.registry.proofs.applications.remove_applications.Goals as goal

pub returns-clause-slots : goal.returns-clause-slots
returns-clause-slots g c =
    let rest = c.free_owned.ensures.rest in
    record {
      life = ap (λ (l : TableLists). l.life) rest;
      entries = c.free_owned.ensures.freed;
      files = ap (λ (l : TableLists). l.files) rest;
      keys = ap (λ (l : TableLists). l.keys) rest;
      objects = ap (λ (l : TableLists). l.objects) rest;
    }

pub returns-clause-said : goal.returns-clause-said
returns-clause-said g c page said says well =
    let before = c.args.records.now.tables in
    let loaded = thing_of (thing_in before.files.items c.args.file) c.requires.slot in
    applications_removed page before c.free_owned.new.records.tables said says well c.args.file loaded.0 loaded.1 c.requires.other (returns-clause-slots g c)

pub returns-clause-unloaded : goal.returns-clause-unloaded
returns-clause-unloaded g c = unloaded c.args.records.now.tables c.free_owned.new.records.tables c.args.file (returns-clause-slots g c)
