use Rattle.cmac_kdf.proofs.CmacLemmas.{state_of_none}
use Rattle.cmac_kdf.proofs.cmac_state.CmacState.start.Goals as goal

pub returns : goal.returns
returns c = state_of_none
