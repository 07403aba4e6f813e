use Rattle.std.proofs.Common.{◌↔◌, ap, subst, sym}
use Rattle.std.specs.Prelude.{IsTrue}
use Rattle.std.specs.Option.{option_map}
use Rattle.card_types.specs.declared.found.Found.{Found}
use Rattle.card_types.specs.declared.tables.Entry.{Entry}
use Rattle.policy_rules.specs.Prelude.{IsInTree, IsThingAt, Thing, acting}
use Rattle.policy_slots.proofs.ThingsFound.{acting_named}
use Rattle.policy_rules.proofs.get_status.is_in_tree.Goals as goal

pub returns-in-Entry : goal.returns-in-Entry
returns-in-Entry c page admitted named acts at_thing =
    let tables = c.args.tables.now in
    let there = subst (λ (f : Found). IsThingAt page tables f named) c.in-Entry.is at_thing in
    subst (λ (t : Thing). IsTrue c.is_at_or_above.result ↔ IsInTree admitted.at.registry (acting admitted) t) (sym there.2)
    (c.is_at_or_above.ensures page admitted.at.registry (acting admitted) there.0.aid acts.says acts.well (acting_named page tables c.args.domain admitted acts)
    (ap (option_map (λ (e : Entry). e.aid)) there.1))

pub returns-in-File : goal.returns-in-File
returns-in-File c page admitted named acts at_thing =
    let tables = c.args.tables.now in
    let there = subst (λ (f : Found). IsThingAt page tables f named) c.in-File.is at_thing in
    subst (λ (t : Thing). IsTrue c.is_in_charge.result ↔ IsInTree admitted.at.registry (acting admitted) t) (sym there.2)
    (c.is_in_charge.ensures page admitted there.0 acts there.1)
