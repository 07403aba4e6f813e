use Rattle.std.proofs.Common.{◌≡◌, Some, subst}
use Rattle.policy_slots.specs.Prelude.{acting, aid_of}
use Rattle.card_types.specs.declared.found.Found.{Found}
use Rattle.domain_tree.proofs.AboveNamed.{free_of_loops}
use Rattle.policy_slots.proofs.ChargeNamed.{above_alike, entry_charge, file_charge}
use Rattle.policy_slots.proofs.ThingsFound.{acting_named}
use Rattle.policy_slots.proofs.charge.has_charge.Goals as goal

pub above-requires-clause-no_loops : goal.above-requires-clause-no_loops
above-requires-clause-no_loops c =
    let order = c.requires.in_order in
    rw c.deref.ensures.value (free_of_loops order.page c.args.tables.now order.said order.says order.well)

pub returns-in-Entry : goal.returns-in-Entry
returns-in-Entry c page admitted aid acts at_thing =
    let tables = c.args.tables.now in
    let said = admitted.at.registry in
    let told = rw c.deref.ensures.value at c.above.ensures in
    let there = subst (λ (f : Found). aid_of tables f ≡ Some aid) c.in-Entry.is at_thing in
    let alike = above_alike page tables said acts.says acts.well c.args.domain c.in-Entry.slot (acting admitted) aid (acting_named page tables c.args.domain admitted acts) there in
    entry_charge page tables said acts.says acts.well c.in-Entry.slot (acting admitted) aid c.above.result there
    ((λ is. alike.0 (told.0 is)), (λ above. told.1 (alike.1 above)))

pub returns-in-File : goal.returns-in-File
returns-in-File c page admitted aid acts at_thing =
    let tables = c.args.tables.now in
    file_charge page tables admitted.at.registry acts.says acts.well c.in-File.slot (acting admitted) aid c.is_in_charge.result
    (subst (λ (f : Found). aid_of tables f ≡ Some aid) c.in-File.is at_thing) (λ file at. c.is_in_charge.ensures page admitted file acts at)
