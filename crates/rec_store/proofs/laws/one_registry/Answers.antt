use Rattle.rec_store.proofs.OneRegistry.{one_registry}
use Rattle.rec_store.proofs.laws.one_registry.Goals as goal

pub returns : goal.returns
returns c = one_registry
