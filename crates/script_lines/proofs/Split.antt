-- The words of a text, one at a time.
use Rattle.std.proofs.Common.{◌≡◌, ◌<◌, ◌+◌, ℕ, List, [], ◌∷◌, ◌++◌, length, take, drop, refl, sym, ap, ◌∙◌, arith, drop-cons, add-one}
use Rattle.std.specs.Prelude.{◌==◌, slice_index}
use Rattle.std.proofs.lemmas.List.{take-append-drop}
use Rattle.std.proofs.lemmas.List.Splits.{slice_split_none, slice_split_at, length-slice_split}
use Rattle.script_lines.specs.Words.{words_of, HasNoSpace}

pub one_word : (text : List ℕ) → HasNoSpace text → words_of text ≡ text ∷ []
unfolding words_of
one_word text none = slice_split_none (λ byte. byte == 32) text none

-- a text up to a place, the byte there, and what follows
at_place : (text : List ℕ) (at : ℕ) → at < length text → text ≡ take at text ++ slice_index text at ∷ drop (at + 1) text
at_place text at within =
    sym (take-append-drop at text) ∙ ap (λ l. take at text ++ l) (drop-cons text at 0 within ∙ ap (λ n. slice_index text at ∷ drop n text) (sym (add-one at)))

pub first_word : (text : List ℕ) (at : ℕ) → at < length text → HasNoSpace (take at text) → slice_index text at ≡ 32
    → words_of text ≡ take at text ∷ words_of (drop (at + 1) text)
unfolding words_of
first_word text at within none space =
    ap (λ l. words_of l) (at_place text at within) ∙ ap (λ byte. words_of (take at text ++ byte ∷ drop (at + 1) text)) space
    ∙ slice_split_at (λ byte. byte == 32) (take at text) 32 (drop (at + 1) text) none refl

-- a text has a word, if only an empty one
pub some_word : (text : List ℕ) → words_of text ≡ [] → ⊥
unfolding words_of
some_word text none =
    let len = length-slice_split (λ byte. byte == 32) text in
    let zero_len : length (words_of text) ≡ 0 = ap (λ l. length l) none in
    omega (arith, len, zero_len)
