-- What decoding into room for some bytes answers.
use Rattle.std.proofs.Common.{◌≡◌, ◌*◌, ◌/◌, ℕ, List, length, sym, ap, ◌∙◌, arith, Result, Ok, Err}
use Rattle.std.specs.Prelude.{MatchResult}
use Rattle.hex.specs.Hex.{decode_sized}
use Rattle.hex.specs.declared.error.FromHexError.{FromHexError}
use Rattle.hex.proofs.HexLemmas.{decode_of-ok, decode_sized-ok, decode_sized-twice}
use Rattle.script_lines.specs.Words.{SpellsSome, SpellsUpTo}

abbrev Answers : Result (List ℕ) FromHexError → Result (Unit {0}) FromHexError → List ℕ → Type 0
Answers d r out = MatchResult d (λ bytes. (r ≡ Ok tt) × (out ≡ bytes)) (λ e. r ≡ Err e)

written : (d : Result (List ℕ) FromHexError) (r : Result (Unit {0}) FromHexError) (out : List ℕ) → Answers d r out → r ≡ Ok tt → d ≡ Ok out
written (Ok bytes) r out h ok = ap Ok (sym h.1)
written (Err e) r out h ok = cc (sym h ∙ ok)

not_refused : (d : Result (List ℕ) FromHexError) (r : Result (Unit {0}) FromHexError) (out bytes : List ℕ) → Answers d r out → d ≡ Ok bytes → r ≡ Ok tt
not_refused (Ok some) r out bytes h ok = h.0
not_refused (Err e) r out bytes h ok = cc ok

pub spelled : (word : List ℕ) (n : ℕ) (r : Result (Unit {0}) FromHexError) (out : List ℕ) → Answers (decode_sized word n) r out → r ≡ Ok tt → SpellsSome n word out
unfolding SpellsSome
spelled word n r out h ok =
    let d = written (decode_sized word n) r out h ok in
    let len = decode_sized-ok word n out d in
    let all = sym (decode_sized-twice word n len) ∙ d in
    let twice = (decode_of-ok word out all).2 in
    (all, omega (arith, len, twice))

pub answered : (word : List ℕ) (n : ℕ) (r : Result (Unit {0}) FromHexError) (out bytes : List ℕ) → Answers (decode_sized word n) r out → SpellsSome n word bytes → r ≡ Ok tt
unfolding SpellsSome
answered word n r out bytes h spells =
    let twice = (decode_of-ok word bytes spells.0).2 in
    let count = spells.1 in
    let len : length word ≡ 2 * n = omega (arith, twice, count) in
    not_refused (decode_sized word n) r out bytes h (decode_sized-twice word n len ∙ spells.0)

-- half as many bytes as digits
pub half : (most : ℕ) (word bytes : List ℕ) → SpellsUpTo most word bytes → length word / 2 ≡ length bytes
unfolding SpellsUpTo
half most word bytes h = let twice = (decode_of-ok word bytes h.0).2 in omega (arith, twice)
