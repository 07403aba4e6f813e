use Rattle.std.proofs.Common.{◌≡◌, List, Option, Some, ap, sym, ◌∙◌, rules}
use Rattle.std.specs.Prelude.{⊤}
use Rattle.std.proofs.lemmas.Option.{MatchOption-at_some}
use Rattle.card_types.specs.KeySets.{IsKeyOf}
use Rattle.card_types.specs.Represents.{thing_in}
use Rattle.card_types.specs.declared.limits.TheConstants.{COUNTER_LIMIT}
use Rattle.card_types.specs.declared.tables.KeyRec.{KeyRec}
use Rattle.rec_store.specs.KeySlot.{IsRoomyKey}
use Rattle.rec_store.proofs.Roomy.{of_slot}
use Rattle.key_sets.proofs.Counting.{last_counter}
use Rattle.key_sets.proofs.counter.draw_counter.Goals as goal

pub returns-then-number-ge-COUNTER_LIMIT-clause-spent : goal.returns-then-number-ge-COUNTER_LIMIT-clause-spent
returns-then-number-ge-COUNTER_LIMIT-clause-spent g c =
    let slots = g.R.RecordKeeper.slots c.args.keeper.now in
    let found = c.unwrap-found.result in
    let key = found.thing.now in
    let there : thing_in c.keys.result.now found.slot ≡ Some key = search rules in
    let at : thing_in slots found.slot ≡ Some key = ap (λ (keys : List (Option KeyRec)). thing_in keys found.slot) (sym c.keys.ensures.key_slots) ∙ there in
    let is : IsKeyOf c.args.owner c.args.version 1 key = search rules in
    let last : key.counter ≡ COUNTER_LIMIT = last_counter key (MatchOption-at_some ⊤ IsRoomyKey key there (of_slot IsRoomyKey c.keys.result.now found.slot c.keys.ensures.counters)) c.if-number-ge-COUNTER_LIMIT.true in
    record { slot = found.slot; key = key; keeps = record { at = at; is = is }; last = last }
