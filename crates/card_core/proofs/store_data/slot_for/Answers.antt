use Rattle.std.proofs.Common.{inr, arith, rules}
use Rattle.card_types.specs.Search.{IsFirstFree}
use Rattle.card_types.proofs.Room.{free_found}
use Rattle.card_core.proofs.ObjectSlots.{none_tagged}
use Rattle.card_core.proofs.store_data.slot_for.Goals as goal

pub unwrap-requires : goal.unwrap-requires
unwrap-requires c =
    let none = none_tagged c.args.owner c.args.tag c.args.objects.now c.in-None.ensures.none in
    free_found c.args.objects.now c.first_free.result (omega (arith, c.requires.room none, c.requires.slots)) c.first_free.ensures.none

pub returns-in-None : goal.returns-in-None
returns-in-None c =
    let is : IsFirstFree c.args.objects.now c.unwrap.result = search rules in
    record {
      within = omega (arith, is.within, c.requires.slots);
      takes = inr (is.free, none_tagged c.args.owner c.args.tag c.args.objects.now c.in-None.ensures.none);
    }
