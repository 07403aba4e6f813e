-- The lines of what is ahead, from its next line on.
use Rattle.std.proofs.Common.{◌≡◌, ◌≢◌, ℕ, ◌<◌, ◌≤◌, length-append, append_assoc, Bool, false, ◌==◌, List, [], ◌∷◌, ◌++◌, length, slice_index_or, refl, sym, ap, ◌∙◌, inl, inr, arith}
use Rattle.std.proofs.lemmas.Bool.Decides.{eqb_tells}
use Rattle.std.proofs.lemmas.List.{append-nil}
use Rattle.std.proofs.lemmas.List.Splits.{slice_split_at, slice_split_none, length-slice_split}
use Rattle.std.specs.Prelude.{Result, Ok, Err, OnOk}
use Rattle.std.specs.List.{slice_split, All}
use Rattle.std.specs.Str.Lines.{lines, lines_of_parts, strip_carriage_return}
use Rattle.io_edge.specs.Lines.{NoNewline, IsNextLine}

no_newline : (b : ℕ) → b ≢ 10 → (b == 10) ≡ false
no_newline b other = elim (eqb_tells b 10) [ inl here ↦ absurd (other here.1) | inr apart ↦ apart.0 ]

pub none_pass : (bytes : List ℕ) → NoNewline bytes → All (λ b. (b == 10) ≡ false) bytes
none_pass bytes none k d within = no_newline (slice_index_or bytes k d) (none k d within)

-- where more parts follow, the first one is a line that had its newline
first_part : (piece : List ℕ) (parts : List (List ℕ)) → 0 < length parts → lines_of_parts (piece ∷ parts) ≡ strip_carriage_return piece ∷ lines_of_parts parts
first_part piece [] none = absurd (omega (arith, none))
first_part piece (next ∷ parts) some = refl

lines-whole : (piece after : List ℕ) → NoNewline piece → lines (piece ++ 10 ∷ after) ≡ strip_carriage_return piece ∷ lines after
lines-whole piece after none =
    let test : ℕ → Bool = λ b. b == 10 in
    let parts : slice_split test (piece ++ 10 ∷ after) ≡ piece ∷ slice_split test after
    = slice_split_at test piece 10 after (none_pass piece none) refl in
    ap lines_of_parts parts ∙ first_part piece (slice_split test after) (rw (length-slice_split test after) (omega arith))

only_part : (bytes : List ℕ) → 0 < length bytes → lines_of_parts (bytes ∷ []) ≡ bytes ∷ []
only_part bytes some =
    elim (eqb_tells (length bytes) 0) [
      | inl none ↦ (let empty = none.1 in absurd (omega (arith, empty, some)))
      | inr apart ↦ (let filled = apart.0 in rw filled refl)
    ]

lines-last : (bytes : List ℕ) → NoNewline bytes → 0 < length bytes → lines bytes ≡ bytes ∷ []
lines-last bytes none some = ap lines_of_parts (slice_split_none (λ b. b == 10) bytes (none_pass bytes none)) ∙ only_part bytes some

-- what is ahead has the next line, and then the lines of what follows it
pub lines_ahead : (room : ℕ) (ahead text after : List ℕ) → IsNextLine room ahead text after → lines ahead ≡ text ∷ lines after
lines_ahead room ahead text after (inl whole) =
    ap lines whole.is ∙ lines-whole whole.piece after whole.no_newline ∙ ap (λ line. line ∷ lines after) (sym whole.stripped)
lines_ahead room ahead text after (inr last) =
    lines-last ahead last.no_newline last.some ∙ ap (λ line. line ∷ []) (sym last.is) ∙ ap (λ rest. text ∷ lines rest) (sym last.nothing)

pub lines_if_ok : {X E : Type 0} (result : Result X E) (room : ℕ) (ahead text after : List ℕ)
    → OnOk result (IsNextLine room ahead text after) → OnOk result (lines ahead ≡ text ∷ lines after)
lines_if_ok (Ok x) room ahead text after line = lines_ahead room ahead text after line
lines_if_ok (Err e) room ahead text after line = tt

-- what follows the next line is an end of what is ahead, and the line with its end fits the room
pub line_suffix : (room : ℕ) (ahead text after : List ℕ) → IsNextLine room ahead text after
    → (front : List ℕ) × (ahead ≡ front ++ after) × (length front ≤ room)
line_suffix room ahead text after (inl whole) =
    let within = whole.within in (
      whole.piece ++ 10 ∷ [],
      whole.is ∙ sym (append_assoc whole.piece (10 ∷ []) after),
      rw (length-append whole.piece (10 ∷ [])) (omega arith),
    )
line_suffix room ahead text after (inr last) =
    let within = last.within in
    (ahead, sym (ap (λ rest. ahead ++ rest) last.nothing ∙ append-nil ahead), omega arith)
