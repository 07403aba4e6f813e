use Rattle.std.proofs.Common.{◌≡◌, ◌+◌, List, length, ap, arith}
use Rattle.card_types.specs.Represents.{things_in}
use Rattle.card_types.specs.declared.tables.KeyRec.{KeyRec}
use Rattle.key_rules.specs.Staying.{staying}
use Rattle.key_sets.proofs.Putting.{slot_left}
use Rattle.key_sets.proofs.put.place_one.Goals as goal

pub put_key-requires-clause-room : goal.put_key-requires-clause-room
put_key-requires-clause-room g c =
    let R = g.R.RecordKeeper in
    let slots = R.slots c.args.keeper.now in
    let long : length (things_in (R.slots c.free.new.keeper)) ≡ length (staying c.args.owner c.args.replaced slots) + 0 = omega (arith, ap (λ (keys : List KeyRec). length keys) c.free.ensures.keys) in
    slot_left c.args.owner c.args.replaced c.args.version 1 slots 0 (things_in (R.slots c.free.new.keeper)) c.requires.judged long (omega arith)
