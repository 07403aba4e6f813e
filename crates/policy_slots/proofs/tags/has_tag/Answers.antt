use Rattle.std.proofs.Common.{◌||◌, List, Bool, ap, sym, ◌∙◌}
use Rattle.std.proofs.lemmas.Bool.{eq-eqb, ne_eqb}
use Rattle.policy_slots.specs.Prelude.{Element, has_tag_in}
use Rattle.policy_machine.proofs.StoreDataElements.{elements_after, none_left}
use Rattle.policy_slots.proofs.tags.has_tag.Goals as goal

pub returns-then-element-tag : goal.returns-then-element-tag
returns-then-element-tag c are elements =
    let tag = c.args.tag in
    let element = c.in-Ok.element in
    let behind = c.loop-element.invariant are elements in
    let next = elements_after behind.0 element.tag element.value.now c.in-Ok.after.now c.loop-element.rest.now behind.1 c.in-Ok.ensures.found in
    sym (behind.2 ∙ ap (λ (es : List Element). has_tag_in es tag) next.1
    ∙ ap (λ (b : Bool). b || has_tag_in next.0 tag) (eq-eqb element.tag tag c.if-element-tag.true))

pub loop-element-preserved : goal.loop-element-preserved
loop-element-preserved c are elements =
    let tag = c.args.tag in
    let element = c.in-Ok.element in
    let behind = c.loop-element.invariant are elements in
    let next = elements_after behind.0 element.tag element.value.now c.in-Ok.after.now c.loop-element.rest.now behind.1 c.in-Ok.ensures.found in (
      next.0,
      next.2,
      behind.2 ∙ ap (λ (es : List Element). has_tag_in es tag) next.1
          ∙ ap (λ (b : Bool). b || has_tag_in next.0 tag) (ne_eqb element.tag tag c.if-element-tag.false),
    )

pub returns : goal.returns
returns c are elements =
    let behind = c.loop-element.invariant are elements in
    sym (behind.2 ∙ ap (λ (es : List Element). has_tag_in es c.args.tag) (none_left behind.0 c.loop-element.rest.now behind.1 c.in_default.ensures.only))
