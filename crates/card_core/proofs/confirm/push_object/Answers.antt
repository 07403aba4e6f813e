use Rattle.std.proofs.Common.{◌≤◌, [], length, inr, refl, sym, ap, arith}
use Rattle.std.proofs.lemmas.List.{append-nil}
use Rattle.card_core.proofs.UniqueData.{value_small}
use Rattle.card_core.proofs.confirm.push_object.Goals as goal

pub unwrap-requires : goal.unwrap-requires
unwrap-requires c =
    let is = c.in-Some.ensures.some in
    let found = c.in-Some.found in
    let low : length found.thing.now.value.items ≤ 10 =
    value_small c.args.tables.now c.args.tag c.requires.tag found (rw c.deref.ensures.value at is.at) is.fitting c.requires.in_order in
    let same = ap length c.deref-in-Some.ensures.0 in
    c.try_extend_from_slice.ensures.variant.1 (omega (arith, low, same, c.requires.room))

pub returns-in-Some-clause-size : goal.returns-in-Some-clause-size
returns-in-Some-clause-size c =
    let is = c.in-Some.ensures.some in
    let found = c.in-Some.found in
    let low : length found.thing.now.value.items ≤ 10 =
    value_small c.args.tables.now c.args.tag c.requires.tag found (rw c.deref.ensures.value at is.at) is.fitting c.requires.in_order in
    let same = ap length c.deref-in-Some.ensures.0 in
    let long = rw c.unwrap.ensures at c.try_extend_from_slice.ensures.len in
    omega (arith, low, same, long)

pub returns-in_default-clause-value : goal.returns-in_default-clause-value
returns-in_default-clause-value c = ([], inr (rw c.deref.ensures.value at c.in_default.ensures.none, refl), sym (append-nil _))
