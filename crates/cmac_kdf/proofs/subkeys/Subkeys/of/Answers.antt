use Rattle.std.proofs.Common.{◌∙◌, ap}
use Rattle.cmac_kdf.specs.Cmac.{first_subkey, second_subkey, double}
use Rattle.cmac_kdf.proofs.subkeys.Subkeys.of.Goals as goal

pub returns-clause-first : goal.returns-clause-first
unfolding first_subkey
returns-clause-first g c = c.doubled-first.ensures ∙ ap double c.seal.ensures.sealed

pub returns-clause-second : goal.returns-clause-second
unfolding second_subkey
returns-clause-second g c = c.doubled.ensures ∙ ap double (returns-clause-first g c)
