use Rattle.cap_pack.proofs.FactoryTakes.{factory_may_load}
use Rattle.cap_pack.proofs.LoadedWhole.{always_loads_whole, loads_whole}
use Rattle.cap_pack.proofs.laws.loads_whole.Goals as goal

pub returns : goal.returns
returns c = record { whole = loads_whole; always = always_loads_whole; factory = factory_may_load }
