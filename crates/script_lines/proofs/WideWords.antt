-- How long a line of some words is.
use Rattle.std.proofs.Common.{◌≡◌, ◌≤◌, ◌+◌, ◌*◌, ℕ, List, [], ◌∷◌, length, ap, arith, length-append}
use Rattle.std.specs.List.{join_with_byte}
use Rattle.std.proofs.lemmas.List.Splits.{join_with_byte-slice_split}
use Rattle.script_lines.proofs.OneKey.{first}
use Rattle.script_lines.proofs.OneVerb.{begins}
use Rattle.script_lines.specs.Exchange.{SaysExchange, exchange_verb}
use Rattle.script_lines.specs.Verb.{verb_word}
use Rattle.script_lines.specs.Words.{words_of}
use Rattle.script_lines.specs.declared.exchange.Exchange as the_type
use Rattle.script_lines.specs.declared.exchange.Exchange.TheVariants.{Select, Raw, Bad, Install, Selectable, Extradite, Load, Delete, PutKey, Store}
use Rattle.script_lines.specs.declared.load_file.LoadFile.{LoadFile}

-- how long words are, each with one byte after it
abbrev pub wide : List (List ℕ) → ℕ
wide [] = 0
wide (word ∷ words) = length word + 1 + wide words

joined_wide : (words : List (List ℕ)) → wide words ≤ length (join_with_byte 32 words) + 1
joined_wide [] = omega arith
joined_wide (word ∷ []) = omega arith
joined_wide (word ∷ next ∷ words) =
    let rest = joined_wide (next ∷ words) in
    let all = length-append word (32 ∷ join_with_byte 32 (next ∷ words)) in
    omega (arith, rest, all)

pub words_wide : (text : List ℕ) → wide (words_of text) ≤ length text + 1
unfolding words_of
words_wide text =
    let joined = joined_wide (words_of text) in
    let same = ap (λ (bytes : List ℕ). length bytes) (join_with_byte-slice_split 32 text) in
    omega (arith, joined, same)

first_wide : (words : List (List ℕ)) → length (first words) ≤ wide words
first_wide [] = omega arith
first_wide (word ∷ words) = omega arith

-- a verb that sends has three letters at least
at_least : (n : ℕ) → 3 ≤ 3 + n
at_least n = omega arith

verb_long : (e : the_type.Exchange) → 3 ≤ length (verb_word (exchange_verb e))
verb_long (Select aid) = at_least 3
verb_long (Raw bytes) = at_least 0
verb_long (Bad command) = at_least 0
verb_long (Install installation) = at_least 4
verb_long (Selectable aid) = at_least 7
verb_long (Extradite extradition) = at_least 6
verb_long (Delete deletion) = at_least 3
verb_long (PutKey putting) = at_least 3
verb_long (Store field) = at_least 2
verb_long _ = at_least 1

-- a line that loads a file
pub load_wide : (words : List (List ℕ)) (file : LoadFile) → SaysExchange words (Load file) → 253 + 60 ≤ 60 * wide words
load_wide (verb ∷ file ∷ domain ∷ hash ∷ content) l x =
    let long : length verb ≡ 4 = ap (λ (word : List ℕ). length word) x.0 in
    omega (arith, long)
load_wide [] l x = absurd x
load_wide _ l x = absurd x.1

-- any line that sends
pub other_wide : (words : List (List ℕ)) (e : the_type.Exchange) → SaysExchange words e → 2 + 60 ≤ 60 * wide words
other_wide words e x =
    let verb = ap (λ (word : List ℕ). length word) (begins words e x) in
    let long = verb_long e in
    let all = first_wide words in
    omega (arith, verb, long, all)
