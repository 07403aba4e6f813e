-- What the lines of an input spell.
use Rattle.std.proofs.Common.{◌≡◌, ◌≤◌, ◌⊎◌, ℕ, List, [], ◌∷◌, ◌++◌, Bool, true, false, Option, None, Some, Ok, leb, length, refl, sym, ap, subst, ◌∙◌, arith, inl, inr, append_assoc, length-append}
use Rattle.std.specs.Prelude.{if◌then◌else◌}
use Rattle.std.specs.List.{concat}
use Rattle.std.proofs.lemmas.Bool.{leb-false, lt-leb}
use Rattle.std.proofs.lemmas.List.{append-nil}
use Rattle.hex.specs.Hex.{decode_of, is_hex_digit}
use Rattle.hex.proofs.HexLemmas.{decode_of-ok, decode_of-same}
use Rattle.script_tool.specs.Line.{IsBlank, IsComment}
use Rattle.script_tool.specs.Words.{Reads, SpellsUpTo}
use Rattle.line_runs.specs.Ends.{TakesLines}
use Rattle.cap_pack.specs.Input.{JoinsLine, SpellLines, SpellsLine, input_with, within_cap_limit}
use Rattle.cap_pack.specs.declared.limit.TheConstants.{CAP_LIMIT}

-- what is read of digits is all that a line spells, where it says something
pub line_read : {X : Type 0} (items : X → List ℕ) (line : List ℕ) (answer : Option X) → length line ≤ 522 → (IsBlank line ⊎ IsComment line → ⊥)
    → Reads (λ value. SpellsUpTo 261 line (items value)) answer → Reads (λ value. SpellsLine line (items value)) answer
unfolding SpellsUpTo
line_read items line (Some value) short says reads = inr (reads.0, reads.1)
line_read items line None short says reads = λ value spells. elim spells [
  | inl nothing ↦ absurd (says nothing.0)
  | inr digits ↦ reads value (digits.0, digits.1, omega (arith, short, (decode_of-ok line (items value) digits.0).2))
]

limits : (b : Bool) (xs ys : List ℕ) → leb (length xs) CAP_LIMIT ≡ b → input_with (if b then Some xs else None) ys ≡ within_cap_limit (xs ++ ys)
limits true xs ys few = refl
limits false xs ys few =
    let more : leb (length (xs ++ ys)) CAP_LIMIT ≡ false = lt-leb (length (xs ++ ys)) CAP_LIMIT (omega (arith, leb-false (length xs) CAP_LIMIT few, length-append xs ys)) in
    ap (λ (b : Bool). if b then Some (xs ++ ys) else None) (sym more)

-- Bytes joined to those that came before. So after lines that spell some bytes what is kept is `within_cap_limit` of these.
pub joined_on : (xs ys : List ℕ) → input_with (within_cap_limit xs) ys ≡ within_cap_limit (xs ++ ys)
joined_on xs ys = limits (leb (length xs) CAP_LIMIT) xs ys refl

-- one line more
pub more_lines : (lines : List (List ℕ)) (line before bytes : List ℕ) → SpellLines lines before → SpellsLine line bytes → SpellLines (lines ++ line ∷ []) (before ++ bytes)
more_lines [] line before bytes is spells = (bytes, [], spells, refl, ap (λ (xs : List ℕ). xs ++ bytes) is ∙ sym (append-nil bytes))
more_lines (l ∷ lines) line before bytes (first, rest, said, others, is) spells = (
  first,
  rest ++ bytes,
  said,
  more_lines lines line rest bytes others spells,
  ap (λ (xs : List ℕ). xs ++ bytes) is ∙ append_assoc first rest bytes,
)

-- the digits of one byte at least are no line that says nothing
says_digits : (line bytes : List ℕ) → IsBlank line ⊎ IsComment line → decode_of line ≡ Ok bytes → 1 ≤ length bytes → ⊥
says_digits [] bytes says is some = omega (arith, some, (decode_of-ok [] bytes is).2)
says_digits (b ∷ line) bytes (inl blank) is some =
    let digit : is_hex_digit b ≡ true = (decode_of-ok (b ∷ line) bytes is).1 0 0 (omega arith) in
    let space : b ≡ 32 = blank 0 0 (omega arith) in
    let wrong : is_hex_digit 32 ≡ true = ap is_hex_digit (sym space) ∙ digit in
    cc wrong
says_digits (b ∷ line) bytes (inr comment) is some =
    let digit : is_hex_digit b ≡ true = (decode_of-ok (b ∷ line) bytes is).1 0 0 (omega arith) in
    let mark : b ≡ 35 = cc comment.1 in
    let wrong : is_hex_digit 35 ≡ true = ap is_hex_digit (sym mark) ∙ digit in
    cc wrong

-- a line spells one list of bytes, and so do lines
pub one_line : (line a b : List ℕ) → SpellsLine line a → SpellsLine line b → a ≡ b
one_line line a b (inl nothing) (inl too) = nothing.1 ∙ sym too.1
one_line line a b (inl nothing) (inr digits) = absurd (says_digits line b nothing.0 digits.0 digits.1)
one_line line a b (inr digits) (inl nothing) = absurd (says_digits line a nothing.0 digits.0 digits.1)
one_line line a b (inr digits) (inr others) = decode_of-same line a b digits.0 others.0

pub one_input : (lines : List (List ℕ)) (a b : List ℕ) → SpellLines lines a → SpellLines lines b → a ≡ b
one_input [] a b is other = is ∙ sym other
one_input (line ∷ lines) a b (first, rest, said, others, is) (one, more, too, also, other) =
    is ∙ (λ i. one_line line first one said too i ++ one_input lines rest more others also i) ∙ sym other

-- what lines that are joined leave, and that they write nothing
pub lines_joined : (given : List (List ℕ)) (before : List ℕ) (last : Option (List ℕ)) (texts : List (List ℕ)) → TakesLines JoinsLine (within_cap_limit before) given last texts
    → (bytes : List ℕ) × SpellLines given bytes × (last ≡ within_cap_limit (before ++ bytes)) × (concat texts ≡ [])
lines_joined [] before last texts (same, none) = ([], refl, same ∙ ap within_cap_limit (sym (append-nil before)), ap concat none)
lines_joined (line ∷ given) before last texts (next, text, more, (first, spells, is, silent), later, are) =
    let on : next ≡ within_cap_limit (before ++ first) = is ∙ joined_on before first in
    let rest = lines_joined given (before ++ first) last more (subst (λ (at : Option (List ℕ)). TakesLines JoinsLine at given last more) on later) in (
      first ++ rest.0,
      (first, rest.0, spells, rest.1, refl),
      rest.2 ∙ ap within_cap_limit (append_assoc before first rest.0),
      ap concat are ∙ (λ i. silent i ++ rest.3 i),
    )
