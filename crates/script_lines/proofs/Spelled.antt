-- Words without spaces, the lines of them, and the values that words of the workload spell.
use Rattle.std.proofs.Common.{◌≡◌, ◌<◌, ◌^◌, ℕ, zero, suc, List, [], ◌∷◌, ◌++◌, refl, sym, ap, subst, ◌∙◌, arith, Ok, Bool, true, false}
use Rattle.std.specs.Prelude.{◌==◌, codes, decimal, not}
use Rattle.std.specs.Int.{byte_at, bytes_high_first, w32, w64, to_be_bytes}
use Rattle.std.specs.List.{AllByRecursion, list_all}
use Rattle.std.specs.Str.Parse.{AllDigits}
use Rattle.std.proofs.lemmas.Bool.{ne_eqb, not-true}
use Rattle.std.proofs.lemmas.Fmt.{decimal_is_IsNumeral}
use Rattle.std.proofs.lemmas.List.Elements.{All-cons, All-nil}
use Rattle.std.proofs.lemmas.List.Splits.{slice_split_at}
use Rattle.std.proofs.lemmas.List.Sums.{AllPass-from_list_all}
use Rattle.std.proofs.lemmas.Str.Parse.{digit_from_value}
use Rattle.hex.proofs.HexLemmas.{decode_of-encode_lower, decode_of-ok}
use Rattle.hex.specs.Hex.{IsBytes, decode_of, encode_with, is_hex_digit}
use Rattle.card_types.specs.Level.{code_of}
use Rattle.card_types.specs.declared.level.Level.{Level}
use Rattle.card_types.specs.declared.level.Level.TheVariants.{Mac}
use Rattle.script_lines.proofs.Split.{one_word}
use Rattle.script_lines.specs.Exchange.{SayExchange, SaysExchange, exchange_verb}
use Rattle.script_lines.specs.Verb.{verb_word}
use Rattle.script_lines.specs.Round.{application_of, challenge_of, digits_of, round_file}
use Rattle.script_lines.specs.Words.{HasNoSpace, words_of}
use Rattle.script_lines.specs.Workload.{SaysSome}
use Rattle.script_lines.specs.declared.exchange.Exchange as exchange
use Rattle.script_lines.specs.declared.line.ScriptLine.TheVariants.{Exchange}
use Rattle.script_lines.specs.declared.round.Round.{Round}

abbrev not_space : ℕ → Bool
not_space byte = not (byte == 32)

-- a word that is written out
pub plain : (word : List ℕ) → list_all not_space word ≡ true → HasNoSpace word
plain word all = λ k d within. not-true _ (AllPass-from_list_all not_space word all k d within)

digit_not_space : (c : ℕ) → is_hex_digit c ≡ true → (c == 32) ≡ false
digit_not_space c digit = ne_eqb c 32 (λ e. let wrong : false ≡ true = ap is_hex_digit (sym e) ∙ digit in cc wrong)

-- a word of digits
pub spelled_out : (word bytes : List ℕ) → decode_of word ≡ Ok bytes → HasNoSpace word
spelled_out word bytes spells = λ k d within. digit_not_space _ ((decode_of-ok word bytes spells).1 k d within)

numeral : (ds : List ℕ) → AllDigits 10 ds → HasNoSpace ds
numeral [] digits = All-nil (λ byte. (byte == 32) ≡ false)
numeral (c ∷ cs) digits =
    let value = digit_from_value c digits.0 in
    All-cons (λ byte. (byte == 32) ≡ false) c cs (ne_eqb c 32 (λ e. omega (arith, e, value))) (numeral cs digits.1)

-- a number in decimal digits
pub number : (n : ℕ) → n < 2 ^ 64 → HasNoSpace (decimal n)
number n small = numeral (decimal n) (decimal_is_IsNumeral n small).0.1

-- a line of these words
abbrev pub line_of : List ℕ → List (List ℕ) → List ℕ
line_of word [] = word
line_of word (next ∷ words) = word ++ 32 ∷ line_of next words

words_back : (word : List ℕ) (words : List (List ℕ)) → HasNoSpace word → AllByRecursion HasNoSpace words → words_of (line_of word words) ≡ word ∷ words
unfolding words_of
words_back word [] none rest = one_word word none
words_back word (next ∷ words) none rest =
    slice_split_at (λ byte. byte == 32) word 32 (line_of next words) none refl ∙ ap (λ l. word ∷ l) (words_back next words rest.0 rest.1)

pub says : (words : List (List ℕ)) (e : exchange.Exchange) → list_all not_space (verb_word (exchange_verb e)) ≡ true → AllByRecursion HasNoSpace words → SayExchange words e
    → SaysSome (line_of (verb_word (exchange_verb e)) words)
says words e none rest said =
    (Exchange e, subst (λ (l : List (List ℕ)). SaysExchange l e) (sym (words_back (verb_word (exchange_verb e)) words (plain (verb_word (exchange_verb e)) none) rest)) (refl, said))

-- ---- what the words of a round spell

nil_bytes : IsBytes []
nil_bytes i = omega arith

cons_bytes : (b : ℕ) (bs : List ℕ) → b < 256 → IsBytes bs → IsBytes (b ∷ bs)
cons_bytes b bs small rest zero = small
cons_bytes b bs small rest (suc i) = rest i

byte_small : (i n : ℕ) → byte_at i n < 256
byte_small zero n = omega arith
byte_small (suc i) n = omega arith

number_bytes : (k n : ℕ) (rest : List ℕ) → IsBytes rest → IsBytes (bytes_high_first k n ++ rest)
number_bytes zero n rest h = h
number_bytes (suc k) n rest h = cons_bytes (byte_at k n) (bytes_high_first k n ++ rest) (byte_small k n) (number_bytes k n rest h)

pub one_digits : (byte : ℕ) → byte < 256 → decode_of (digits_of byte) ≡ Ok (byte ∷ [])
one_digits byte small = decode_of-encode_lower (byte ∷ []) (cons_bytes byte [] small nil_bytes)

code_small : (level : Level) → code_of level < 256
code_small Mac = omega arith
code_small _ = omega arith

pub level_digits : (byte : ℕ) (level : Level) → byte ≡ code_of level → decode_of (digits_of byte) ≡ Ok (code_of level ∷ [])
level_digits byte level is = ap (λ b. decode_of (digits_of b)) is ∙ one_digits (code_of level) (code_small level)

pub challenge_digits : (r : Round) → decode_of (challenge_of r) ≡ Ok (to_be_bytes w64 r.challenge)
unfolding encode_with
challenge_digits r = decode_of-encode_lower (to_be_bytes w64 r.challenge) (number_bytes 8 r.challenge [] nil_bytes)

-- the bytes of an AID of a round, which ends in 01 or 02
abbrev pub aid_bytes : Round → ℕ → List ℕ
aid_bytes r last = 0xf0 ∷ to_be_bytes w32 r.number ++ last ∷ []

aid_are_bytes : (r : Round) (last : ℕ) → last < 256 → IsBytes (aid_bytes r last)
aid_are_bytes r last small =
    cons_bytes 0xf0 (to_be_bytes w32 r.number ++ last ∷ []) (omega arith)
    (number_bytes 4 r.number (last ∷ []) (cons_bytes last [] small nil_bytes))

pub file_digits : (r : Round) → decode_of (round_file r) ≡ Ok (aid_bytes r 0x01)
unfolding encode_with
file_digits r = decode_of-encode_lower (aid_bytes r 0x01) (aid_are_bytes r 0x01 (omega arith))

pub application_digits : (r : Round) → decode_of (application_of r) ≡ Ok (aid_bytes r 0x02)
unfolding encode_with
application_digits r = decode_of-encode_lower (aid_bytes r 0x02) (aid_are_bytes r 0x02 (omega arith))

-- the data of a store: an object of tag 45 and the challenge
pub stored_digits : (r : Round) → decode_of (codes "4508" ++ challenge_of r) ≡ Ok (0x45 ∷ 0x08 ∷ to_be_bytes w64 r.challenge)
unfolding encode_with
stored_digits r =
    decode_of-encode_lower (0x45 ∷ 0x08 ∷ to_be_bytes w64 r.challenge)
    (cons_bytes 0x45 (0x08 ∷ to_be_bytes w64 r.challenge) (omega arith)
    (cons_bytes 0x08 (to_be_bytes w64 r.challenge) (omega arith) (number_bytes 8 r.challenge [] nil_bytes)))
