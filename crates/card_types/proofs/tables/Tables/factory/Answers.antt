use Rattle.std.proofs.Common.{[], refl}
use Rattle.card_types.specs.Factory.{factory_registry}
use Rattle.card_types.proofs.FactoryRegistry.{factory_layout, factory_says}
use Rattle.card_types.proofs.FactoryWell.{factory_well}
use Rattle.card_types.proofs.tables.Tables.factory.Goals as goal

pub returns-clause-slots : goal.returns-clause-slots
returns-clause-slots c = record {
  life = refl;
  entries = rw (c.in_ok-fill.ensures, c.in_ok-push.ensures.items, c.new-entries.ensures.items, c.issuer_domain.ensures) refl;
  files = rw (c.in_ok-fill-2.ensures, c.in_ok-push-2.ensures.items, c.new-files.ensures.items, c.factory_file.ensures) refl;
  first = c.factory_key.result;
  second = c.factory_key-2.result;
  third = c.factory_key-3.result;
  first_key = c.factory_key.ensures;
  second_key = c.factory_key-2.ensures;
  third_key = c.factory_key-3.ensures;
  keys = rw (c.in_ok-fill-3.ensures, c.in_ok-push-5.ensures.items, c.in_ok-push-4.ensures.items, c.in_ok-push-3.ensures.items, c.new-keys.ensures.items) refl;
  objects = rw (c.in_ok-fill-4.ensures, c.new.ensures.items) refl;
}

pub returns-clause-names : goal.returns-clause-names
returns-clause-names c page = factory_says page _ (returns-clause-slots c)

pub returns-clause-well : goal.returns-clause-well
returns-clause-well c = factory_well

pub returns-clause-in_order : goal.returns-clause-in_order
returns-clause-in_order c =
    let slots = returns-clause-slots c in
    record {
      layout = factory_layout _ slots;
      page = λ number. [];
      said = factory_registry;
      says = factory_says (λ number. []) _ slots;
      well = factory_well;
    }
