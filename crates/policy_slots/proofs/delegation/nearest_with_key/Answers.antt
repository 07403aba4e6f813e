use Rattle.std.proofs.Common.{rules, ◌≡◌, ℕ, List, Option, Some, sym, subst}
use Rattle.std.specs.Prelude.{MatchOption}
use Rattle.card_types.proofs.DomainLines.{line_in_slots}
use Rattle.card_types.proofs.SetNames.{key_length_in_slot}
use Rattle.policy_slots.specs.Prelude.{IsFirstAbove, IsKeyOf, IsNearestHolder, NoHolder, NoneAbove, bits_of, domain_aid, domain_slot, has_with_key_in, key_of, thing_in}
use Rattle.card_types.specs.declared.tables.KeyRec.{KeyRec}
use Rattle.policy_slots.proofs.NearestHolder.{holder_named, lone_key, no_holder_named, some_found}
use Rattle.policy_slots.proofs.delegation.nearest_with_key.Goals as goal

pub first_above-requires-clause-no_loops : goal.first_above-requires-clause-no_loops
first_above-requires-clause-no_loops c =
    let order = c.requires.in_order in
    rw c.deref.ensures.value (λ slot entry at. line_in_slots order.page c.args.tables.now order.said order.says order.well slot entry at)

pub returns-in_err-slot-clause-none : goal.returns-in_err-slot-clause-none
returns-in_err-slot-clause-none c page admitted acts = rw c.from_residual.ensures (
    let tables = c.args.tables.now in
    let none : NoneAbove (domain_slot tables.entries.items) (has_with_key_in tables c.args.privilege c.args.version) c.args.domain = rw c.deref.ensures.value at c.in_err-slot.ensures.none in
    subst (NoHolder admitted.at.registry (bits_of c.args.privilege) c.args.version) (sym acts.on)
    (no_holder_named page tables admitted.at.registry acts.says acts.well c.args.version c.args.privilege c.args.domain acts.entry acts.at none))

pub unwrap-found-requires : goal.unwrap-found-requires
unwrap-found-requires c =
    let tables = c.args.tables.now in
    let above : IsFirstAbove (domain_slot tables.entries.items) (has_with_key_in tables c.args.privilege c.args.version) c.args.domain c.in_ok-slot.slot
    = rw c.deref.ensures.value at c.in_ok-slot.ensures.some in
    let there = lone_key tables c.args.privilege c.args.version c.in_ok-slot.slot above.fitting in
    some_found c.find_key.result c.find_key.ensures.none (λ none. none there.0 (rw c.deref-2.ensures.value there.1))

pub returns-clause-some : goal.returns-clause-some
returns-clause-some c page admitted acts =
    let tables = c.args.tables.now in
    let found = c.unwrap-found.result in
    let above : IsFirstAbove (domain_slot tables.entries.items) (has_with_key_in tables c.args.privilege c.args.version) c.args.domain c.in_ok-slot.slot
    = rw c.deref.ensures.value at c.in_ok-slot.ensures.some in
    let there : thing_in c.deref-2.result.now found.slot ≡ Some found.thing.now = search rules in
    let at : thing_in tables.keys.items found.slot ≡ Some found.thing.now = rw c.deref-2.ensures.value at there in
    let is : IsKeyOf c.in_ok-slot.slot c.args.version 1 found.thing.now = search rules in
    subst (λ (domain : List ℕ). IsNearestHolder admitted.at.registry (bits_of c.args.privilege) c.args.version domain
    (domain_aid tables.entries.items c.in_ok-slot.slot) (key_of tables.entries.items found.thing.now)) (sym acts.on)
    (holder_named page tables admitted.at.registry acts.says acts.well c.args.version c.args.privilege c.args.domain acts.entry acts.at
    c.in_ok-slot.slot found.slot found.thing.now above at is)

pub returns-clause-length : goal.returns-clause-length
returns-clause-length c =
    let order = c.requires.in_order in
    let found = c.unwrap-found.result in
    let there : thing_in c.deref-2.result.now found.slot ≡ Some found.thing.now = search rules in
    key_length_in_slot order.page c.args.tables.now order.said order.says order.well found.slot found.thing.now (rw c.deref-2.ensures.value at there)

pub returns-clause-key : goal.returns-clause-key
returns-clause-key c =
    let tables = c.args.tables.now in
    let found = c.unwrap-found.result in
    let there : thing_in c.deref-2.result.now found.slot ≡ Some found.thing.now = search rules in
    let at : thing_in tables.keys.items found.slot ≡ Some found.thing.now = rw c.deref-2.ensures.value at there in
    let is : IsKeyOf c.in_ok-slot.slot c.args.version 1 found.thing.now = search rules in
    (found.slot, subst (λ (o : Option KeyRec). MatchOption o ⊥ (IsKeyOf c.in_ok-slot.slot c.args.version 1)) (sym at) is)
