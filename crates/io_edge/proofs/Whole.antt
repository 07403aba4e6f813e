-- A line that has its newline.
use Rattle.std.proofs.Common.{◌≡◌, ℕ, ◌+◌, ◌<◌, ◌≤◌, List, ◌∷◌, ◌++◌, length, take, drop, slice_index, refl, sym, ap, ◌∙◌, append_assoc, add-one, drop-cons, arith}
use Rattle.std.proofs.lemmas.List.{take-append-drop, length-take-le}
use Rattle.std.specs.Str.Lines.{strip_carriage_return}
use Rattle.io_edge.specs.Lines.{NoNewline, IsWholeLine}

-- the bytes held, parted at the newline
parted : (at : ℕ) (held : List ℕ) → at < length held → slice_index held at ≡ 10 → held ≡ take at held ++ 10 ∷ drop (at + 1) held
parted at held within here =
    let rest : drop at held ≡ 10 ∷ drop (at + 1) held = rw (drop-cons held at 0 within, here, add-one) refl in
    sym (take-append-drop at held) ∙ ap (λ bytes. take at held ++ bytes) rest

pub whole_line : (room at : ℕ) (held left : List ℕ) → at < length held → NoNewline (take at held) → slice_index held at ≡ 10 → length held ≤ room
    → IsWholeLine room (held ++ left) (strip_carriage_return (take at held)) (drop (at + 1) held ++ left)
whole_line room at held left within clear here fits = record {
  piece = take at held;
  no_newline = clear;
  is = ap (λ bytes. bytes ++ left) (parted at held within here) ∙ append_assoc (take at held) (10 ∷ drop (at + 1) held) left;
  within = (let short : length (take at held) ≡ at = length-take-le at held (omega arith) in omega arith);
  stripped = refl;
}
