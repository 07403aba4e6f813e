-- The lines that send commands to the card.
use Rattle.std.specs.Prelude.{◌≡◌, ℕ, List, [], ◌∷◌}
use Rattle.script_lines.specs.Delete.{SaysDelete}
use Rattle.script_lines.specs.Extradite.{SaysExtradite}
use Rattle.script_lines.specs.Install.{SaysInstall}
use Rattle.script_lines.specs.Life.{MayName, SaysLife}
use Rattle.script_lines.specs.Listing.{SaysListing}
use Rattle.script_lines.specs.Load.{SaysLoad}
use Rattle.script_lines.specs.Open.{SaysOpen}
use Rattle.script_lines.specs.PutKey.{SaysPutKey}
use Rattle.script_lines.specs.Selectable.{SaysSelectable}
use Rattle.script_lines.specs.Send.{SaysSend}
use Rattle.script_lines.specs.Verb.{verb_word}
use Rattle.script_lines.specs.Words.{SaysBytes}
use Rattle.script_lines.specs.declared.exchange.Exchange as the_type
use Rattle.script_lines.specs.declared.exchange.Exchange.TheVariants.{Select, Raw, Open, Send, Bad, Install, Selectable, Extradite, Load, Delete, PutKey, Store, Life, List as First, More}
use Rattle.script_lines.specs.declared.verb.Verb.{Verb}
use Rattle.script_lines.specs.declared.verb.Verb.TheVariants as verb

-- the verb of each form
abbrev pub exchange_verb : the_type.Exchange → Verb
exchange_verb (Select aid) = verb.Select
exchange_verb (Raw bytes) = verb.Raw
exchange_verb (Open opening) = verb.Open
exchange_verb (Send command) = verb.Send
exchange_verb (Bad command) = verb.Bad
exchange_verb (Install installation) = verb.Install
exchange_verb (Selectable aid) = verb.Selectable
exchange_verb (Extradite extradition) = verb.Extradite
exchange_verb (Load file) = verb.Load
exchange_verb (Delete deletion) = verb.Delete
exchange_verb (PutKey putting) = verb.PutKey
exchange_verb (Store field) = verb.Store
exchange_verb (Life change) = verb.Life
exchange_verb (First listing) = verb.List
exchange_verb (More listing) = verb.More

-- what the words after the verb say
abbrev pub SayExchange : List (List ℕ) → the_type.Exchange → Type 0
SayExchange words (Select aid) = MayName words aid
SayExchange words (Raw bytes) = SaysBytes words bytes
SayExchange words (Open opening) = SaysOpen words opening
SayExchange words (Send command) = SaysSend words command
SayExchange words (Bad command) = SaysSend words command
SayExchange words (Install installation) = SaysInstall words installation
SayExchange words (Selectable aid) = SaysSelectable words aid
SayExchange words (Extradite extradition) = SaysExtradite words extradition
SayExchange words (Load file) = SaysLoad words file
SayExchange words (Delete deletion) = SaysDelete words deletion
SayExchange words (PutKey putting) = SaysPutKey words putting
SayExchange words (Store field) = SaysBytes words field
SayExchange words (Life change) = SaysLife words change
SayExchange words (First listing) = SaysListing words listing
SayExchange words (More listing) = SaysListing words listing

abbrev pub SaysExchange : List (List ℕ) → the_type.Exchange → Type 0
SaysExchange (word ∷ words) e = (word ≡ verb_word (exchange_verb e)) × SayExchange words e
SaysExchange [] e = ⊥
