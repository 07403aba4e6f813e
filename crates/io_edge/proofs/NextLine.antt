-- What is ahead has one next line, which ends within the room or does not.
use Rattle.std.proofs.Common.{◌≡◌, ◌≢◌, ℕ, suc, ◌+◌, ◌-◌, Bool, ◌==◌, List, [], ◌∷◌, ◌++◌, length, take, drop, slice_index_or, refl, sym, ap, subst, ◌∙◌, inl, inr, arith, length-append}
use Rattle.std.proofs.Math.Seq.{take-append-add, take-append_seam, drop-append_seam}
use Rattle.std.proofs.lemmas.List.{append_cancel_left}
use Rattle.std.proofs.lemmas.List.Elements.{All-drop, All-head}
use Rattle.std.proofs.lemmas.List.Splits.{slice_split_at}
use Rattle.std.specs.List.{slice_split}
use Rattle.std.specs.Str.Lines.{strip_carriage_return}
use Rattle.io_edge.proofs.Cuts.{none_pass}
use Rattle.io_edge.specs.Lines.{NoNewline, IsCut, IsNextLine}

-- a newline is one
has_newline : (piece after : List ℕ) → NoNewline (piece ++ 10 ∷ after) → ⊥
has_newline piece after none =
    All-head (λ b. b ≢ 10) 10 after (subst NoNewline (drop-append_seam piece (10 ∷ after)) (All-drop (λ b. b ≢ 10) (length piece) (piece ++ 10 ∷ after) none)) refl

-- the first newline parts bytes in one way
first_newline : (piece other after another : List ℕ) → NoNewline piece → NoNewline other → piece ++ 10 ∷ after ≡ other ++ 10 ∷ another
    → (piece ≡ other) × (after ≡ another)
first_newline piece other after another none clear same =
    let test : ℕ → Bool = λ b. b == 10 in
    let pieces : piece ≡ other
    = ap (λ parts. slice_index_or parts 0 []) (sym (slice_split_at test piece 10 after (none_pass piece none) refl)
    ∙ ap (slice_split test) same ∙ slice_split_at test other 10 another (none_pass other clear) refl) in
    (pieces, ap (drop 1) (append_cancel_left other (10 ∷ after) (10 ∷ another) (ap (λ p. p ++ 10 ∷ after) (sym pieces) ∙ same)))

-- the next line is one, and so is what follows it
pub one_line : (room : ℕ) (ahead text other after another : List ℕ) → IsNextLine room ahead text after → IsNextLine room ahead other another
    → (text ≡ other) × (after ≡ another)
one_line room ahead text other after another (inl whole) (inl again) =
    let same = first_newline whole.piece again.piece after another whole.no_newline again.no_newline (sym whole.is ∙ again.is) in
    (whole.stripped ∙ ap strip_carriage_return same.0 ∙ sym again.stripped, same.1)
one_line room ahead text other after another (inl whole) (inr last) = absurd (has_newline whole.piece after (subst NoNewline whole.is last.no_newline))
one_line room ahead text other after another (inr last) (inl whole) = absurd (has_newline whole.piece another (subst NoNewline whole.is last.no_newline))
one_line room ahead text other after another (inr last) (inr again) = (last.is ∙ sym again.is, last.nothing ∙ sym again.nothing)

-- the bytes before the limit
before_limit : (room : ℕ) (ahead text : List ℕ) (cut : IsCut room ahead text) → take room ahead ≡ cut.piece
before_limit room ahead text cut =
    ap (λ n. take n ahead) (sym cut.full) ∙ ap (take (length cut.piece)) cut.is ∙ take-append_seam cut.piece cut.rest

pub one_cut : (room : ℕ) (ahead text other : List ℕ) → IsCut room ahead text → IsCut room ahead other → text ≡ other
one_cut room ahead text other cut again =
    cut.stripped ∙ ap strip_carriage_return (sym (before_limit room ahead text cut) ∙ before_limit room ahead other again) ∙ sym again.stripped

-- a line that ends within the room is not cut by its end
pub line_not_cut : (room : ℕ) (ahead text after other : List ℕ) → IsNextLine room ahead text after → IsCut room ahead other → ⊥
line_not_cut room ahead text after other (inl whole) cut =
    let within = whole.within in
    let more : ℕ = room - length whole.piece - 1 in
    let room_is : room ≡ length whole.piece + suc more = omega (arith, within) in
    let before : cut.piece ≡ whole.piece ++ 10 ∷ take more after
    = sym (before_limit room ahead other cut) ∙ ap (take room) whole.is ∙ ap (λ n. take n (whole.piece ++ 10 ∷ after)) room_is
    ∙ take-append-add whole.piece (10 ∷ after) (suc more) in
    has_newline whole.piece (take more after) (subst NoNewline before cut.no_newline)
line_not_cut room ahead text after other (inr last) cut =
    let within = last.within in
    let full = cut.full in
    let all = ap length cut.is ∙ length-append cut.piece cut.rest in
    omega (arith, within, full, all)
