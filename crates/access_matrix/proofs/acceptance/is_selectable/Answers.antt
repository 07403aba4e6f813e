use Rattle.std.proofs.Common.{◌≡◌, None, Some, ap, sym, ◌∙◌}
use Rattle.card_types.proofs.SameAid.{same_aid_decides}
use Rattle.card_types.specs.Represents.{domain_aid}
use Rattle.policy_machine.specs.Select.{least_fitting}
use Rattle.access_matrix.proofs.acceptance.is_selectable.Goals as goal

pub returns-in-Ok : goal.returns-in-Ok
returns-in-Ok c page said says =
    let aid = domain_aid c.args.tables.now.entries.items c.args.domain in
    let there : least_fitting said aid ≡ Some _ = ap (least_fitting said) (sym c.entry_aid-aid.ensures.named ∙ sym c.as_bytes.ensures.bytes) ∙ c.in-Ok.ensures.found page said says in
    let same = same_aid_decides c.in-Ok.found.thing.now.aid c.entry_aid-aid.result in (
      λ so. rw there (same.0 (sym c.eq.ensures ∙ so) ∙ c.entry_aid-aid.ensures.named),
      λ selectable. c.eq.ensures ∙ same.1 ((rw there at selectable) ∙ sym c.entry_aid-aid.ensures.named),
    )

pub returns-in-Err : goal.returns-in-Err
returns-in-Err c page said says =
    let aid = domain_aid c.args.tables.now.entries.items c.args.domain in
    let none : least_fitting said aid ≡ None = ap (least_fitting said) (sym c.entry_aid-aid.ensures.named ∙ sym c.as_bytes.ensures.bytes) ∙ c.in-Err.ensures.none page said says in
    (λ so. cc, λ selectable. absurd (rw none at selectable))
