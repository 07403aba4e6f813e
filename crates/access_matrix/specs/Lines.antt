-- For the code inside. The line of a right by slots: whether an entry is locked is read from its slot.
use Rattle.std.specs.Prelude.{ℕ, List, ◌∷◌, [], ◌++◌, Bool, false, Option, None, Some, codes, cond}
use Rattle.card_types.specs.Represents.{thing_in}
use Rattle.card_types.specs.declared.tables.Entry.{Entry}
use Rattle.card_types.specs.declared.tables.Tables.{Tables}
use Rattle.hex.specs.Hex.{encode_lower}
use Rattle.access_matrix.specs.Text.{names_of}
use Rattle.access_matrix.specs.declared.act.Act.{Act}
use Rattle.access_matrix.specs.declared.act.Act.TheVariants as slot
use Rattle.access_matrix.specs.declared.deed.Deed.{Deed}
use Rattle.access_matrix.specs.declared.deed.Deed.TheVariants.{Delete, Related, Lock, Move, Install, Load}
use Rattle.access_matrix.specs.declared.deed.Right.{Right}

abbrev pub holds_locked : Option Entry → Bool
holds_locked None = false
holds_locked (Some entry) = entry.life.locked

-- the act is about a locked entry
abbrev pub is_about_locked : Tables → Act → Bool
is_about_locked tables (slot.Lock entry) = holds_locked (thing_in tables.entries.items entry)
is_about_locked tables act = false

-- what is done, and the line of it, where it is known whether the entry is locked
abbrev pub verb_as : Bool → Deed → List ℕ
verb_as locked (Delete aid) = codes "delete "
verb_as locked (Related file) = codes "related "
verb_as locked (Lock aid) = cond locked (codes "unlock ") (codes "lock ")
verb_as locked (Move aid domain) = codes "move "
verb_as locked (Install file) = codes "install "
verb_as locked Load = codes "load "

abbrev pub line_as : Bool → Right → List ℕ
line_as locked right = verb_as locked right.deed ++ encode_lower right.domain ++ names_of right.deed ++ 10 ∷ []

-- how many bytes the names of a deed take at most
abbrev pub names_room : Deed → ℕ
names_room (Move aid domain) = 66
names_room Load = 0
names_room deed = 33
