use Rattle.std.proofs.Common.{length, sym, ◌∙◌, arith}
use Rattle.std.proofs.lemmas.Bool.{eqb-false, false≢true, iff_false}
use Rattle.policy_machine.proofs.StoreDataElements.{no_objects, objects_after, objects_with}
use Rattle.policy_rules.proofs.store_data.are_objects.Goals as goal

pub loop-rest-preserved : goal.loop-rest-preserved
loop-rest-preserved c =
    let element = c.in-Ok.element in
    let after = c.in-Ok.after.now in
    let rest = c.loop-rest.rest.now in (
      λ objects. c.loop-rest.invariant.0 (objects_with element.tag element.value.now after rest c.in-Ok.ensures.found (c.may_be_stored.ensures.0 c.if-not-may_be_stored.false) objects),
      λ objects. (objects_after element.tag element.value.now after rest c.in-Ok.ensures.found (c.loop-rest.invariant.1 objects)).1,
    )

pub returns-then-not-may_be_stored : goal.returns-then-not-may_be_stored
returns-then-not-may_be_stored c =
    let element = c.in-Ok.element in (
      λ is. absurd (false≢true is),
      λ objects. absurd (iff_false c.may_be_stored.ensures c.if-not-may_be_stored.true
          (objects_after element.tag element.value.now c.in-Ok.after.now c.loop-rest.rest.now c.in-Ok.ensures.found (c.loop-rest.invariant.1 objects)).0),
    )

pub returns-in_default : goal.returns-in_default
returns-in_default c =
    let some = eqb-false (length c.loop-rest.rest.now) 0 (sym c.is_empty.ensures ∙ c.loop-rest-test.true) in (
      λ is. absurd (false≢true is),
      λ objects. absurd (no_objects c.loop-rest.rest.now (omega (arith, some)) c.in_default.ensures.only (c.loop-rest.invariant.1 objects)),
    )
