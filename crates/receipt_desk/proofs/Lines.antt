-- What the lines of a desk say.
use Rattle.std.proofs.Common.{ℕ, List, Option, None, Some}
use Rattle.std.specs.Prelude.{◌⊎◌}
use Rattle.script_tool.specs.Line.{IsBlank, IsComment}
use Rattle.script_tool.specs.Words.{Reads, words_of}
use Rattle.receipt_desk.specs.Lines.{SaysDesk, SaysWords}
use Rattle.receipt_desk.specs.declared.line.DeskLine.{DeskLine}
use Rattle.receipt_desk.specs.declared.line.DeskLine.TheVariants.{Nothing}

says_text : (text : List ℕ) (line : DeskLine) → SaysWords (words_of text) line → SaysDesk text line
says_text text Nothing says = absurd says
says_text text _ says = says

words_say : (text : List ℕ) → (IsBlank text ⊎ IsComment text → ⊥) → (line : DeskLine) → SaysDesk text line → SaysWords (words_of text) line
words_say text some Nothing says = absurd (some says)
words_say text some _ says = says

-- a text that is no blank line and no comment says what its words say
pub read_text : (text : List ℕ) (answer : Option DeskLine) → (IsBlank text ⊎ IsComment text → ⊥) → Reads (SaysWords (words_of text)) answer → Reads (SaysDesk text) answer
read_text text None some none = λ line says. none line (words_say text some line says)
read_text text (Some line) some says = says_text text line says
