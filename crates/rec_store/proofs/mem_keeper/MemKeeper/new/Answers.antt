use Rattle.std.proofs.Common.{◌≡◌, List, Option, None, length, sym, subst, ap, ◌∙◌, arith}
use Rattle.std.specs.Prelude.{All, replicate}
use Rattle.card_types.specs.Represents.{things_in}
use Rattle.card_types.specs.declared.limits.TheConstants.{KEYS}
use Rattle.card_types.specs.declared.tables.KeyRec.{KeyRec}
use Rattle.rec_store.specs.KeySlot.{IsRoomyKey}
use Rattle.rec_store.proofs.Keeping.{free_keys}
use Rattle.rec_store.proofs.mem_keeper.MemKeeper.new.Goals as goal

pub invariant_of-result : goal.invariant_of-result
invariant_of-result c =
    let all : c.loop-slot.slot ≡ KEYS = omega arith in
    let all_free : c.loop-slot.keys.items ≡ replicate KEYS None = c.loop-slot.invariant ∙ ap (λ n. replicate n None) all in
    subst (λ (keys : List (Option KeyRec)). (length keys ≡ KEYS) × All IsRoomyKey (things_in keys)) (sym all_free) (free_keys IsRoomyKey KEYS)
