use Rattle.std.proofs.Common.{rules, ◌≡◌, ◌↔◌, inl, inr, Some, subst, sym, ◌∙◌}
use Rattle.std.specs.Prelude.{IsTrue}
use Rattle.card_types.proofs.DomainLines.{line_in_slots}
use Rattle.policy_slots.specs.Prelude.{IsFileInCharge, acting, file_of, thing_in}
use Rattle.card_types.specs.declared.tables.LoadFile.{LoadFile}
use Rattle.policy_machine.proofs.Lawful.{some_same}
use Rattle.policy_slots.proofs.FileCharge.{by_slots, file_below}
use Rattle.policy_slots.proofs.charge.is_in_charge.Goals as goal

pub above-requires-clause-no_loops : goal.above-requires-clause-no_loops
above-requires-clause-no_loops c =
    let order = c.requires.in_order in
    rw c.deref-else-file-domain.ensures.value (λ slot entry at. line_in_slots order.page c.args.tables.now order.said order.says order.well slot entry at)

pub returns-else-file-domain : goal.returns-else-file-domain
returns-else-file-domain c page admitted file acts at =
    let tables = c.args.tables.now in
    let found = c.in-Some.file.now in
    let there : thing_in c.deref.result.now c.args.slot ≡ Some found = search rules in
    let here : thing_in tables.files.items c.args.slot ≡ Some found = rw c.deref.ensures.value at there in
    let above = rw c.deref-else-file-domain.ensures.value at c.above.ensures in
    subst (λ (f : LoadFile). IsTrue c.above.result ↔ IsFileInCharge admitted.at.registry (acting admitted) (file_of page tables.entries.items f))
    (some_same found file (sym here ∙ at)) (
      λ is. file_below page tables c.args.domain admitted acts c.args.slot found here (above.0 is),
      λ charge. elim (by_slots page tables c.args.domain admitted acts c.args.slot found here charge) [
        | inl own ↦ absurd (c.if-file-domain.false own)
        | inr up ↦ above.1 up
      ],
    )
