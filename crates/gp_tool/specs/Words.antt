-- The words of the command line.
use Rattle.std.specs.Prelude.{◌≡◌, ◌⊎◌, ℕ, List, [], ◌∷◌, ◌++◌, codes, map, String, string_bytes}
use Rattle.std.specs.declared.alloc.Global.{Global}
use Rattle.faults.specs.Faults.{Rose}
use Rattle.io_edge.specs.Streams.{SinkState}
use Rattle.gp_tool.specs.Flush.{IsHandedOn, WritesText}
use Rattle.gp_tool.specs.Mill.{NameWorkload}
use Rattle.line_runs.specs.declared.exit.Ending.TheVariants.{Finished, WriteFault}
use Rattle.gp_tool.specs.declared.task.Task.{Task}
use Rattle.gp_tool.specs.declared.task.Task.TheVariants.{Format, Mill, Serve, Show, Desk, Cap}
use Rattle.gp_tool.specs.declared.verb.Verb.TheVariants.{Run, Why, Replay, Play}
use Rattle.gp_tool.specs.declared.view.View.TheVariants.{Registry, Rights}

-- the first word of a task
abbrev pub task_word : Task → List ℕ
task_word Format = codes "format"
task_word (Serve Run) = codes "run"
task_word (Serve Why) = codes "why"
task_word (Serve Replay) = codes "replay"
task_word (Serve Play) = codes "play"
task_word (Mill work) = codes "mill"
task_word (Show Registry) = codes "show"
task_word (Show Rights) = codes "access"
task_word Desk = codes "desk"
task_word Cap = codes "cap"

-- the words are the task's alone; `mill` has a seed and a number of rounds after it
abbrev pub AreOf : Task → List (String Global) → Type 0
AreOf (Mill work) words =
    (seed rounds : List ℕ) × (map string_bytes words ≡ task_word (Mill work) ∷ seed ∷ rounds ∷ []) × NameWorkload seed rounds work
AreOf task words = map string_bytes words ≡ task_word task ∷ []

-- the words have a form
abbrev pub HaveForm : List (String Global) → Type 0
HaveForm words = (task : Task) × AreOf task words

-- what is written where the words are malformed
abbrev pub usage_line : List ℕ
usage_line = codes "usage: gp format | run | why | replay | play | mill SEED COUNT | show | access | desk | cap" ++ 10 ∷ []

-- The words are malformed: the line was written and handed on, and nothing failed, or a write or the flush was refused.
abbrev pub EndsInUsage : Type 0 → ℕ → SinkState → SinkState → Type 0
EndsInUsage writes status old new =
    ((status ≡ 1) × WritesText writes usage_line Finished old new × IsHandedOn writes old new × (new.faults ≡ old.faults))
    ⊎ ((status ≡ 6) × WritesText writes usage_line WriteFault old new × Rose old.faults new.faults)
