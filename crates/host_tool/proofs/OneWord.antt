-- Words of which there is one.
use Rattle.std.proofs.Common.{◌≤◌, ◌<◌, List, [], ◌∷◌, length, refl, arith}
use Rattle.std.specs.Prelude.{String}
use Rattle.std.specs.declared.alloc.Global.{Global}
use Rattle.host_tool.specs.Words.{IsOneWord}

pub one_word : (words : List (String Global)) → 1 ≤ length words → length words < 2 → IsOneWord words
one_word [] some few = absurd (omega (arith, some))
one_word (word ∷ []) some few = (word, refl)
one_word (word ∷ other ∷ words) some few = absurd (omega (arith, few))
