use Rattle.std.proofs.Common.{◌∙◌}
use Rattle.std.proofs.lemmas.List.{length-set}
use Rattle.rec_store.specs.KeySlot.{IsRoomyKey}
use Rattle.rec_store.proofs.Roomy.{of_all_set}
use Rattle.rec_store.proofs.mem_keeper.MemKeeperRecordKeeper.set_key.Goals as goal

pub invariant_of-self : goal.invariant_of-self
invariant_of-self c =
    let keys = c.self.inside.keys.items in
    (length-set keys c.from.result c.args.value ∙ c.self.invariant.0, of_all_set IsRoomyKey keys c.from.result c.args.value c.self.invariant.1 c.requires.key)
