-- The first word of a line that sends is the verb of what it says.
use Rattle.std.proofs.Common.{◌≡◌, ◌+◌, ◌*◌, ℕ, List, [], ◌∷◌, ap, refl, sym, ◌∙◌, length, slice_index}
use Rattle.std.proofs.lemmas.Bool.{eqb-false}
use Rattle.script_lines.proofs.OneKey.{first, one_putting}
use Rattle.script_lines.proofs.OneOrder.{one_bytes, one_deletion, one_extradition, one_installation, one_life, one_listing, one_load, one_name, one_opening, one_selectable, one_send}
use Rattle.script_lines.specs.Exchange.{SayExchange, SaysExchange, exchange_verb}
use Rattle.script_lines.specs.Verb.{verb_word}
use Rattle.script_lines.specs.declared.exchange.Exchange as the_type
use Rattle.script_lines.specs.declared.exchange.Exchange.TheVariants.{Select, Raw, Open, Send, Bad, Install, Selectable, Extradite, Load, Delete, PutKey, Store, Life, List as Listed, More}

pub begins : (words : List (List ℕ)) (e : the_type.Exchange) → SaysExchange words e → first words ≡ verb_word (exchange_verb e)
begins (verb ∷ words) e x = x.0
begins [] e x = absurd x

-- no two verbs that send agree in their first and third letters and their length
key : List ℕ → ℕ
key word = slice_index word 0 + 256 * slice_index word 2 + 65_536 * length word

key_of : the_type.Exchange → ℕ
key_of e = key (verb_word (exchange_verb e))

one_after : (words : List (List ℕ)) (a b : the_type.Exchange) → key_of a ≡ key_of b → SayExchange words a → SayExchange words b → a ≡ b
unfolding key key_of
one_after words (Select a) (Select b) e x y = ap Select (one_name words a b x y)
one_after words (Raw a) (Raw b) e x y = ap Raw (one_bytes words a b x y)
one_after words (Open a) (Open b) e x y = ap Open (one_opening words a b x y)
one_after words (Send a) (Send b) e x y = ap Send (one_send words a b x y)
one_after words (Bad a) (Bad b) e x y = ap Bad (one_send words a b x y)
one_after words (Install a) (Install b) e x y = ap Install (one_installation words a b x y)
one_after words (Selectable a) (Selectable b) e x y = ap Selectable (one_selectable words a b x y)
one_after words (Extradite a) (Extradite b) e x y = ap Extradite (one_extradition words a b x y)
one_after words (Load a) (Load b) e x y = ap Load (one_load words a b x y)
one_after words (Delete a) (Delete b) e x y = ap Delete (one_deletion words a b x y)
one_after words (PutKey a) (PutKey b) e x y = ap PutKey (one_putting words a b x y)
one_after words (Store a) (Store b) e x y = ap Store (one_bytes words a b x y)
one_after words (Life a) (Life b) e x y = ap Life (one_life words a b x y)
one_after words (Listed a) (Listed b) e x y = ap Listed (one_listing words a b x y)
one_after words (More a) (More b) e x y = ap More (one_listing words a b x y)
one_after words a b e x y = absurd (eqb-false (key_of a) (key_of b) refl e)

pub one_exchange : (words : List (List ℕ)) (a b : the_type.Exchange) → SaysExchange words a → SaysExchange words b → a ≡ b
unfolding key_of
one_exchange (verb ∷ words) a b x y = one_after words a b (ap key (sym x.0 ∙ y.0)) x.1 y.1
one_exchange [] a b x y = absurd x
