use Rattle.std.proofs.Common.{ap, arith}
use Rattle.policy_machine.proofs.StoreDataElements.{elements_after, none_left, rest_shorter}
use Rattle.policy_machine.proofs.NewTags.{counted_again, counted_new, counted_old}
use Rattle.policy_rules.specs.Prelude.{has_object_in, new_tags}
use Rattle.policy_rules.proofs.store_data.count_new.Goals as goal
use Rattle.policy_rules.proofs.store_data.count_new.Goals.{else-not-has_object-via-then-not-has_object+else-not-has_tag, else-not-has_object-via-else-not-has_object}

pub loop-element-preserved-then-not-has_tag : goal.loop-element-preserved-then-not-has_tag
loop-element-preserved-then-not-has_tag c =
    let element = c.in-Ok.element in
    let after = c.in-Ok.after.now in
    let rest = c.loop-element.rest.now in
    let found = c.in-Ok.ensures.found in
    record {
      most = omega (arith, rest_shorter element.tag element.value.now after rest found, c.loop-element.invariant.most);
      number = λ are elements.
          (let behind = c.loop-element.invariant.number are elements in
          let next = elements_after behind.0 element.tag element.value.now after rest behind.1 found in (
            next.0,
            next.2,
            counted_new (has_object_in c.args.objects.now c.args.owner) behind.0 next.0 _ c.loop-element.count _ next.1 behind.2
                (cc) (cc (c.has_tag.ensures next.0 next.2)),
          ));
    }

pub loop-element-preserved : goal.loop-element-preserved
loop-element-preserved c =
    let element = c.in-Ok.element in
    let after = c.in-Ok.after.now in
    let rest = c.loop-element.rest.now in
    let found = c.in-Ok.ensures.found in
    record {
      most = omega (arith, rest_shorter element.tag element.value.now after rest found, c.loop-element.invariant.most);
      number = λ are elements.
          (let behind = c.loop-element.invariant.number are elements in
          let next = elements_after behind.0 element.tag element.value.now after rest behind.1 found in (
            next.0,
            next.2,
            elim c.else-not-has_object.branch [
              | else-not-has_object-via-then-not-has_object+else-not-has_tag w ↦
                  counted_again (has_object_in c.args.objects.now c.args.owner) behind.0 next.0 _ c.loop-element.count _ next.1 behind.2 (cc (w.has_tag.ensures next.0 next.2))
              | else-not-has_object-via-else-not-has_object w ↦
                  counted_old (has_object_in c.args.objects.now c.args.owner) behind.0 next.0 _ c.loop-element.count _ next.1 behind.2 (cc)
            ],
          ));
    }

pub returns-clause-number : goal.returns-clause-number
returns-clause-number c are elements =
    let behind = c.loop-element.invariant.number are elements in
    let none = ap (new_tags (has_object_in c.args.objects.now c.args.owner)) (none_left behind.0 c.loop-element.rest.now behind.1 c.in_default.ensures.only) in
    omega (arith, behind.2, none)
