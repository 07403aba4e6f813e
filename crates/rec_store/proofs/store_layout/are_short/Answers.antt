use Rattle.std.proofs.Common.{◌≡◌, None, rules, arith}
use Rattle.std.specs.Prelude.{IfSome}
use Rattle.std.proofs.lemmas.List.{get_or_read}
use Rattle.card_types.specs.Represents.{thing_in}
use Rattle.rec_store.specs.StoreLayout.{IsShort}
use Rattle.rec_store.proofs.Roomy.{of_all, of_slot}
use Rattle.rec_store.proofs.store_layout.are_short.Goals as goal
use borrow.Author.Count.{below_more}

pub returns-then-not-is_short : goal.returns-then-not-is_short
returns-then-not-is_short c =
    let keys = c.args.keys.now in
    let at = c.loop-slot.slot-index in
    let here : c.slot-item.result ≡ thing_in keys at = get_or_read keys at c.slot-item.result c.loop-slot-test.true c.slot-item.is None in
    let not_it = c.if-not-is_short.true in
    (λ is. absurd (cc is), λ all. let is = c.is_short.ensures.1 (rw here (of_slot IsShort keys at all)) in absurd (cc (is, not_it)))

pub loop-slot-preserved : goal.loop-slot-preserved
loop-slot-preserved c =
    let keys = c.args.keys.now in
    let at = c.loop-slot.slot-index in
    let here : c.slot-item.result ≡ thing_in keys at = get_or_read keys at c.slot-item.result c.loop-slot-test.true c.slot-item.is None in
    let it = c.if-not-is_short.false in
    below_more (λ k. IfSome (thing_in keys k) IsShort) at c.loop-slot.invariant (rw here at (c.is_short.ensures.0 (cc it)))

pub returns : goal.returns
returns c =
    let keys = c.args.keys.now in
    (λ is. of_all IsShort keys (λ k lt. c.loop-slot.invariant k (omega (arith, lt))), λ all. search rules)
