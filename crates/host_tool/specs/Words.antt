-- The words of the command line. This profile's own.
use Rattle.std.specs.Prelude.{◌≡◌, ◌⊎◌, ℕ, List, [], ◌∷◌, ◌++◌, codes, take, String}
use Rattle.std.specs.declared.alloc.Global.{Global}
use Rattle.faults.specs.Faults.{Rose, next_count}
use Rattle.io_edge.specs.Streams.{SinkState}
use Rattle.host_tool.specs.Ends.{HostEnds, Streams, Tells}

-- one word: the name of the file with the script
abbrev pub IsOneWord : List (String Global) → Type 0
IsOneWord words = (name : String Global) × (words ≡ name ∷ [])

abbrev pub host_usage : List ℕ
host_usage = codes "usage: gp_host FILE" ++ 10 ∷ []

abbrev pub no_script : List ℕ
no_script = codes "no script" ++ 10 ∷ []

-- The text was written and handed on, and nothing failed; or a write or the flush was refused.
abbrev pub EndsInText : Type 0 → List ℕ → ℕ → ℕ → SinkState → SinkState → Type 0
EndsInText writes text wanted status old new =
    ((status ≡ wanted) × (writes → new.written ≡ old.written ++ text) × (writes → new.handed_on ≡ new.written)
    × (new.flushes ≡ next_count old.flushes) × (new.faults ≡ old.faults))
    ⊎ ((status ≡ 6) × (writes → (n : ℕ) × (new.written ≡ old.written ++ take n text)) × Rose old.faults new.faults)

-- no reply was read and no command written
pub record SameLink (old new : Streams) : Type 0 where
  pub replies : new.replies ≡ old.replies
  pub commands : new.commands ≡ old.commands

-- The file was not opened, and this was written. Or the script was played up to an ending.
abbrev pub EndsPlay : Tells → ℕ → Streams → Streams → Type 0
EndsPlay tells status old new =
    (Rose old.script.faults new.script.faults × EndsInText tells.transcript no_script 5 status old.transcript new.transcript × SameLink old new)
    ⊎ HostEnds tells status old new
