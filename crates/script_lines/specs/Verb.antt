-- The first words of lines that send commands.
use Rattle.std.specs.Prelude.{ℕ, List, codes}
use Rattle.script_lines.specs.declared.verb.Verb as the_type
use Rattle.script_lines.specs.declared.verb.Verb.TheVariants.{Select, Raw, Open, Send, Bad, Install, Selectable, Extradite, Load, Delete, PutKey, Store, Life, List as First, More}

abbrev pub verb_word : the_type.Verb → List ℕ
verb_word Select = codes "select"
verb_word Raw = codes "raw"
verb_word Open = codes "open"
verb_word Send = codes "send"
verb_word Bad = codes "bad"
verb_word Install = codes "install"
verb_word Selectable = codes "selectable"
verb_word Extradite = codes "extradite"
verb_word Load = codes "load"
verb_word Delete = codes "delete"
verb_word PutKey = codes "putkey"
verb_word Store = codes "store"
verb_word Life = codes "life"
verb_word First = codes "list"
verb_word More = codes "more"
