use Rattle.std.proofs.Common.{◌<◌, None, length, sym, subst, arith}
use Rattle.std.specs.Prelude.{IfSome}
use Rattle.std.proofs.lemmas.Bool.Decides.{nat_tests}
use Rattle.std.proofs.lemmas.List.{get_or_read}
use Rattle.rec_store.proofs.Roomy.{of_slot}
use Rattle.rec_store.proofs.slots.write_held.Goals as goal

pub write_at-requires-clause-roomy : goal.write_at-requires-clause-roomy
write_at-requires-clause-roomy g c =
    let slots = c.args.slots.now in
    let slot = c.args.slot in
    let lt : slot < length slots = grind (arith, nat_tests, c.in-Some.ensures.lookup) in
    subst (λ thing. IfSome thing g.T.Slot.is_roomy) (sym (get_or_read slots slot c.in-Some.thing.now lt c.in-Some.ensures.lookup.1 None)) (of_slot g.T.Slot.is_roomy slots slot c.requires.roomy)
