use Rattle.std.proofs.Common.{rules, ◌≡◌, Some, refl, sym, subst}
use Rattle.std.specs.Prelude.{IsSome}
use Rattle.card_types.proofs.Domains.{domain_is_used, file_domain_is_used}
use Rattle.policy_slots.specs.Prelude.{aid_of, thing_in}
use Rattle.card_types.specs.declared.found.Found.{Found}
use Rattle.policy_slots.proofs.ChargeNamed.{domain_of_entry, domain_of_file}
use Rattle.policy_slots.proofs.charge.domain_of.Goals as goal

pub returns-in-Entry-clause-named : goal.returns-in-Entry-clause-named
returns-in-Entry-clause-named c page said aid says well at_thing =
    let tables = c.args.tables.now in
    let entry = c.unwrap.result.now in
    let there : thing_in c.deref.result.now c.in-Entry.slot ≡ Some entry = search rules in
    domain_of_entry page tables said says well c.in-Entry.slot aid entry (subst (λ (f : Found). aid_of tables f ≡ Some aid) c.in-Entry.is at_thing)
    (rw c.deref.ensures.value at there)

pub returns-in-Entry-clause-used : goal.returns-in-Entry-clause-used
returns-in-Entry-clause-used c =
    let order = c.requires.in_order in
    let entry = c.unwrap.result.now in
    let there : thing_in c.deref.result.now c.in-Entry.slot ≡ Some entry = search rules in
    let used = domain_is_used order.page c.args.tables.now order.said order.says order.well c.in-Entry.slot entry (rw c.deref.ensures.value at there) in
    subst IsSome (sym used.1) refl

pub returns-in-File-clause-named : goal.returns-in-File-clause-named
returns-in-File-clause-named c page said aid says well at_thing =
    let tables = c.args.tables.now in
    let file = c.unwrap-in-File.result.now in
    let there : thing_in c.deref-in-File.result.now c.in-File.slot ≡ Some file = search rules in
    domain_of_file page tables said says well c.in-File.slot aid file (subst (λ (f : Found). aid_of tables f ≡ Some aid) c.in-File.is at_thing)
    (rw c.deref-in-File.ensures.value at there)

pub returns-in-File-clause-used : goal.returns-in-File-clause-used
returns-in-File-clause-used c =
    let order = c.requires.in_order in
    let file = c.unwrap-in-File.result.now in
    let there : thing_in c.deref-in-File.result.now c.in-File.slot ≡ Some file = search rules in
    let used = file_domain_is_used order.page c.args.tables.now order.said order.says order.well c.in-File.slot file (rw c.deref-in-File.ensures.value at there) in
    subst IsSome (sym used.1) refl
