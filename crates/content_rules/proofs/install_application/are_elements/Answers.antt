use Rattle.std.proofs.Common.{length, sym, ◌∙◌, arith}
use Rattle.std.proofs.lemmas.Bool.{eqb-false, false≢true}
use Rattle.policy_machine.proofs.InstallApplicationAsking.{no_elements, some_after, some_with}
use Rattle.content_rules.proofs.install_application.are_elements.Goals as goal

pub returns-in_default : goal.returns-in_default
returns-in_default c =
    let some = eqb-false (length c.loop-rest.rest.now) 0 (sym c.is_empty.ensures ∙ c.loop-rest-test.true) in (
      λ is. absurd (false≢true is),
      λ elements. absurd (no_elements c.loop-rest.rest.now (omega (arith, some)) c.in_default.ensures.only (c.loop-rest.invariant.1 elements)),
    )

pub loop-rest-preserved : goal.loop-rest-preserved
loop-rest-preserved c =
    let element = c.in-Ok.field-0-0 in
    let after = c.in-Ok.after.now in
    let rest = c.loop-rest.rest.now in (
      λ elements. c.loop-rest.invariant.0 (some_with element.tag element.value.now after rest c.in-Ok.ensures.found elements),
      λ elements. some_after element.tag element.value.now after rest c.in-Ok.ensures.found (c.loop-rest.invariant.1 elements),
    )
