use Rattle.std.proofs.Common.{◌≡◌, ◌<◌, List, Option, None, length, ap, subst, arith, rules}
use Rattle.card_types.specs.Search.{IsFirstFree}
use Rattle.card_types.specs.Represents.{things_in, thing_in}
use Rattle.card_types.specs.declared.tables.KeyRec.{KeyRec}
use Rattle.card_types.proofs.Room.{free_found}
use Rattle.key_rules.proofs.Stays.{put_in}
use Rattle.key_sets.proofs.changes.put_key.Goals as goal

pub unwrap-slot-requires : goal.unwrap-slot-requires
unwrap-slot-requires g c =
    let fewer : length (things_in c.keys.result.now) < length c.keys.result.now =
    omega (arith, c.requires.room, ap (λ (keys : List (Option KeyRec)). length (things_in keys)) c.keys.ensures.key_slots, c.keys.ensures.count) in
    free_found c.keys.result.now c.first_free.result fewer c.first_free.ensures.none

pub returns-clause-keys : goal.returns-clause-keys
returns-clause-keys g c =
    let slots = g.R.RecordKeeper.slots c.args.keeper.now in
    let slot = c.unwrap-slot.result in
    let is : IsFirstFree c.keys.result.now slot = search rules in
    rw c.set_key.ensures.key_slots
    (put_in slots slot c.args.key (subst (λ (keys : List (Option KeyRec)). slot < length keys) c.keys.ensures.key_slots is.within)
    (subst (λ (keys : List (Option KeyRec)). thing_in keys slot ≡ None) c.keys.ensures.key_slots is.free))
