use Rattle.std.proofs.Common.{ℕ, ◌<◌, ap, arith, below_more, not, sym, subst, ◌∙◌}
use Rattle.access_matrix.specs.Commands.{IsFirstFreeAid, numbered_aid}
use Rattle.access_matrix.proofs.FreeAids.{IsInSlot, first_free, most_things, named_none, named_some, never_all}
use Rattle.access_matrix.proofs.free_aid.free_aid.Goals as goal

pub returns-then-is_none : goal.returns-then-is_none
returns-then-is_none c page said says =
    let none = c.is_none.ensures ∙ ap not c.if-is_none.true in
    subst (IsFirstFreeAid said) (sym c.numbered_aid-aid.ensures)
    (first_free page c.args.tables.now said says c.loop-number.number c.loop-number.invariant (λ there.
    named_none c.args.tables.now c.numbered_aid-aid.result c.find.result none c.find.ensures.none
    (subst (IsInSlot c.args.tables.now) (sym c.numbered_aid-aid.ensures) there)))

pub loop-number-preserved : goal.loop-number-preserved
loop-number-preserved c =
    let some = c.is_none.ensures ∙ ap not c.if-is_none.false in
    below_more (λ lower. IsInSlot c.args.tables.now (numbered_aid lower)) c.loop-number.number c.loop-number.invariant
    (subst (IsInSlot c.args.tables.now) c.numbered_aid-aid.ensures (named_some c.args.tables.now c.numbered_aid-aid.result c.find.result some c.find.ensures.some))

pub returns : goal.returns
returns c page said says =
    let below : (lower : ℕ) → lower < most_things → IsInSlot c.args.tables.now (numbered_aid lower) = λ lower less. c.loop-number.invariant lower (omega (arith, less, c.loop-number-test.false)) in
    subst (IsFirstFreeAid said) (sym c.numbered_aid.ensures)
    (first_free page c.args.tables.now said says most_things below (λ there.
    never_all c.args.tables.now c.requires.in_order (below_more (λ lower. IsInSlot c.args.tables.now (numbered_aid lower)) most_things below there)))
