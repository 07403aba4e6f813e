-- The line of a right: what is done, by which domain, with which thing, and to which domain it goes.
use Rattle.std.specs.Prelude.{ℕ, List, [], ◌∷◌, ◌++◌, Bool, false, Option, None, Some, codes, cond}
use Rattle.card_types.specs.Registry.{Entry, Registry, entry_named}
use Rattle.hex.specs.Hex.{encode_lower}
use Rattle.access_matrix.specs.declared.deed.Deed.{Deed}
use Rattle.access_matrix.specs.declared.deed.Deed.TheVariants.{Delete, Related, Lock, Move, Install, Load}
use Rattle.access_matrix.specs.declared.deed.Right.{Right}

abbrev pub is_locked : Option Entry → Bool
is_locked None = false
is_locked (Some entry) = entry.life.locked

abbrev pub deed_verb : Registry → Deed → List ℕ
deed_verb registry (Delete aid) = codes "delete "
deed_verb registry (Related file) = codes "related "
deed_verb registry (Lock aid) = cond (is_locked (entry_named registry aid)) (codes "unlock ") (codes "lock ")
deed_verb registry (Move aid domain) = codes "move "
deed_verb registry (Install file) = codes "install "
deed_verb registry Load = codes "load "

-- an AID in hexadecimal digits, after a space
abbrev pub aid_word : List ℕ → List ℕ
aid_word aid = codes " " ++ encode_lower aid

abbrev pub names_of : Deed → List ℕ
names_of (Delete aid) = aid_word aid
names_of (Related file) = aid_word file
names_of (Lock aid) = aid_word aid
names_of (Move aid domain) = aid_word aid ++ aid_word domain
names_of (Install file) = aid_word file
names_of Load = []

abbrev pub line_of : Registry → Right → List ℕ
line_of registry right = deed_verb registry right.deed ++ encode_lower right.domain ++ names_of right.deed ++ 10 ∷ []
