-- For the code inside. What comes of one command.
use Rattle.std.specs.Prelude.{◌≡◌, ℕ, ◌+◌, List, ◌++◌, length, take, None, Result, Ok, Err}
use Rattle.faults.specs.Faults.{Rose}
use Rattle.io_edge.specs.Lines.{IsNextLine, Reading, ahead, room}
use Rattle.host_tool.specs.Conveyed.{IsHeard, IsWhyUnanswered, Sides}
use Rattle.host_tool.specs.Exchange.{SpellsReply, command_line}
use Rattle.host_tool.specs.declared.fault.LinkFault.{LinkFault}
use Rattle.host_tool.specs.declared.fault.LinkFault.TheVariants.{WriteFault}

-- the next line is the reply
pub record HearsReply (hears : Type 0) (old new : Reading) (left left' : List ℕ) (reply : List ℕ) : Type 0 where
  pub line : List ℕ
  pub spelled : SpellsReply line reply
  pub next : hears → IsNextLine (room old) (ahead old left) line (ahead new left')
  pub stop : new.stop ≡ None
  pub number : new.number ≡ old.number + 1
  pub passed : hears → new.passed + length (ahead new left') ≡ old.passed + length (ahead old left)

abbrev pub Hears : (hears : Type 0) → Reading → Reading → List ℕ → List ℕ → List ℕ → Result (Unit {0}) LinkFault → Type 0
Hears hears old new left left' reply (Ok done) = HearsReply hears old new left left' reply
Hears hears old new left left' reply (Err fault) = IsWhyUnanswered hears (old.number + 1) (room old) (ahead old left) left' fault

abbrev pub HeardCause : Result (Unit {0}) LinkFault → ℕ → ℕ → Type 0
HeardCause (Ok done) old new = new ≡ old
HeardCause (Err fault) old new = IsHeard fault old new

-- the command was written and handed on
pub record WritesCommand (tells : Type 0) (old new : Sides) (command : List ℕ) : Type 0 where
  pub written : tells → new.commands.written ≡ old.commands.written ++ command_line command
  pub handed_on : tells → new.commands.handed_on ≡ new.commands.written
  pub unwritten : new.commands.faults ≡ old.commands.faults

-- a part of it was
pub record WritesPart (tells : Type 0) (old new : Sides) (command : List ℕ) : Type 0 where
  pub written : tells → (n : ℕ) × (new.commands.written ≡ old.commands.written ++ take n (command_line command))
  pub rose : Rose old.commands.faults new.commands.faults
  pub unread : new.replies.faults ≡ old.replies.faults

abbrev pub AsksAnswered : (hears tells : Type 0) → Sides → Sides → List ℕ → List ℕ → Result (Unit {0}) LinkFault → Type 0
AsksAnswered hears tells old new command reply (Err WriteFault) = WritesPart tells old new command
AsksAnswered hears tells old new command reply result =
    WritesCommand tells old new command × Hears hears old.reading new.reading old.replies.left new.replies.left reply result
    × HeardCause result old.replies.faults new.replies.faults
