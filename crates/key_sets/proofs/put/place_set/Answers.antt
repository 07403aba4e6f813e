use Rattle.std.proofs.Common.{◌≡◌, ◌+◌, List, [], ◌∷◌, length, ap, ◌∙◌, arith}
use Rattle.std.proofs.lemmas.List.Sorted.{length_permutation}
use Rattle.card_types.specs.Represents.{things_in}
use Rattle.card_types.specs.declared.tables.KeyRec.{KeyRec}
use Rattle.key_rules.specs.Staying.{staying}
use Rattle.key_sets.specs.Puts.{set_keys}
use Rattle.key_sets.proofs.Putting.{put_three, slot_left}
use Rattle.key_sets.proofs.put.place_set.Goals as goal

pub put_key-requires-clause-room : goal.put_key-requires-clause-room
put_key-requires-clause-room g c =
    let R = g.R.RecordKeeper in
    let slots = R.slots c.args.keeper.now in
    let long : length (things_in (R.slots c.free.new.keeper)) ≡ length (staying c.args.owner c.args.replaced slots) + 0 = omega (arith, ap (λ (keys : List KeyRec). length keys) c.free.ensures.keys) in
    slot_left c.args.owner c.args.replaced c.args.version 3 slots 0 (things_in (R.slots c.free.new.keeper)) c.requires.judged long (omega arith)

pub put_key-requires-2-clause-room : goal.put_key-requires-2-clause-room
put_key-requires-2-clause-room g c =
    let R = g.R.RecordKeeper in
    let slots = R.slots c.args.keeper.now in
    let before = ap (λ (keys : List KeyRec). length keys) c.free.ensures.keys in
    let one = length_permutation _ _ c.put_key.ensures.keys in
    let long : length (things_in (R.slots c.put_key.new.keeper)) ≡ length (staying c.args.owner c.args.replaced slots) + 1 = omega (arith, before, one) in
    slot_left c.args.owner c.args.replaced c.args.version 3 slots 1 (things_in (R.slots c.put_key.new.keeper)) c.requires.judged long (omega arith)

pub put_key-requires-3-clause-room : goal.put_key-requires-3-clause-room
put_key-requires-3-clause-room g c =
    let R = g.R.RecordKeeper in
    let slots = R.slots c.args.keeper.now in
    let before = ap (λ (keys : List KeyRec). length keys) c.free.ensures.keys in
    let one = length_permutation _ _ c.put_key.ensures.keys in
    let two = length_permutation _ _ c.put_key-2.ensures.keys in
    let long : length (things_in (R.slots c.put_key-2.new.keeper)) ≡ length (staying c.args.owner c.args.replaced slots) + 2 = omega (arith, before, one, two) in
    slot_left c.args.owner c.args.replaced c.args.version 3 slots 2 (things_in (R.slots c.put_key-2.new.keeper)) c.requires.judged long (omega arith)

pub returns-clause-put : goal.returns-clause-put
returns-clause-put g c =
    let R = g.R.RecordKeeper in
    let args = c.args in
    let are : c.new_key.result ∷ c.new_key-2.result ∷ c.new_key-3.result ∷ [] ≡ set_keys args.owner args.version args.enc.now args.mac.now args.dek.now = rw (c.new_key.ensures, c.new_key-2.ensures, c.new_key-3.ensures) in
    record {
      count = c.put_key-3.ensures.count ∙ c.put_key-2.ensures.count ∙ c.put_key.ensures.count ∙ c.free.ensures.count;
      keys = put_three (staying args.owner args.replaced (R.slots args.keeper.now)) (things_in (R.slots c.free.new.keeper)) (things_in (R.slots c.put_key.new.keeper)) (things_in (R.slots c.put_key-2.new.keeper)) (things_in (R.slots c.put_key-3.new.keeper))
          c.new_key.result c.new_key-2.result c.new_key-3.result (set_keys args.owner args.version args.enc.now args.mac.now args.dek.now) c.free.ensures.keys are c.put_key.ensures.keys c.put_key-2.ensures.keys c.put_key-3.ensures.keys;
    }
