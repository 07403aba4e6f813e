use Rattle.std.proofs.Common.{◌∷◌, [], refl}
use Rattle.script_lines.specs.Words.{SpellsByte, SpellsSome}
use Rattle.script_lines.proofs.values.byte.Goals as goal

pub returns-in-None : goal.returns-in-None
unfolding SpellsByte SpellsSome
returns-in-None c = λ byte h. c.in-None.ensures (byte ∷ []) (h, refl)
