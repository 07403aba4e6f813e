-- What a line prints.
use Rattle.std.specs.Prelude.{ℕ, List, [], ◌++◌, codes, Option, None, Some, Bool, true, false}
use Rattle.apdu_core.specs.Reply.{status_bytes}
use Rattle.apdu_core.specs.declared.reply.Status.{Status}
use Rattle.hex.specs.Hex.{encode_lower}
use Rattle.script_tool.specs.declared.played.Played.TheVariants.{Quiet, Answer, Note, WantDiffers}
use Rattle.script_tool.specs.declared.word.Word.{Word}
use Rattle.script_tool.specs.declared.word.Word.TheVariants.{NoSession, TooLong, Short, Mac, Padding}
use Rattle.script_tool.specs.declared.played.Played as the_played

-- Nothing; the reply to a command in plain; the sequence counter and the status of EXTERNAL AUTHENTICATE; the counter, where the card
-- cryptogram is wrong; a word; a status that is wanted, and the one that was printed last.
pub data Printed : Type 0 where
  Nothing : Printed
  Reply : List ℕ → ℕ → Printed
  Opened : List ℕ → ℕ → Printed
  Cryptogram : List ℕ → Printed
  Said : Word → Printed
  Differs : ℕ → Option ℕ → Printed

abbrev pub word_text : Word → List ℕ
word_text NoSession = codes "no session"
word_text TooLong = codes "too long"
word_text Short = codes "short"
word_text Mac = codes "mac"
word_text Padding = codes "padding"

abbrev pub status_digits : ℕ → List ℕ
status_digits status = encode_lower (status_bytes status)

abbrev pub may_be_status : Option ℕ → List ℕ
may_be_status None = codes "none"
may_be_status (Some status) = status_digits status

-- what stands before the status, unless the line asks for the status alone
abbrev pub unless_quiet : Bool → List ℕ → List ℕ
unless_quiet false text = text
unless_quiet true text = []

-- the text of a line
abbrev pub printed_text : Bool → Printed → List ℕ
printed_text quiet Nothing = []
printed_text quiet (Reply body status) = unless_quiet quiet (encode_lower body) ++ status_digits status
printed_text quiet (Opened counter status) = unless_quiet quiet (encode_lower counter ++ codes " ") ++ status_digits status
printed_text quiet (Cryptogram counter) = encode_lower counter ++ codes " cryptogram"
printed_text quiet (Said word) = word_text word
printed_text quiet (Differs want got) = codes "want " ++ status_digits want ++ codes " got " ++ may_be_status got

-- the status that is printed
abbrev pub status_printed : Printed → Option Status
status_printed (Reply body status) = Some (record { 0 = status })
status_printed (Opened counter status) = Some (record { 0 = status })
status_printed _ = None

-- What kind of answer a line prints.

abbrev pub kind_played : Printed → the_played.Played
kind_played Nothing = Quiet
kind_played (Reply body status) = Answer (record { 0 = status })
kind_played (Opened counter status) = Answer (record { 0 = status })
kind_played (Cryptogram counter) = Note
kind_played (Said word) = Note
kind_played (Differs want got) = WantDiffers
