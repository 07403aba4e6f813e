-- A line of which so much is held that it is too long, whatever follows.
use Rattle.std.proofs.Common.{◌≡◌, ◌≢◌, ℕ, ◌+◌, ◌-◌, ◌<◌, ◌≤◌, Bool, true, false, cond, ◌==◌, List, [], ◌∷◌, ◌++◌, length, take, drop, slice_index, refl, sym, ap, ◌∙◌, inl, inr, append_assoc, arith, length-append}
use Rattle.std.proofs.lemmas.Bool.{cases_lt}
use Rattle.std.proofs.lemmas.Bool.Decides.{eqb_tells}
use Rattle.std.proofs.Math.Seq.{take-append-add}
use Rattle.std.proofs.lemmas.List.{append-nil, take-append-drop, length-take, length-take-le}
use Rattle.std.proofs.lemmas.List.Elements.{All-append, All-cons, All-nil, All-take}
use Rattle.std.specs.Str.Lines.{strip_carriage_return}
use Rattle.io_edge.specs.Lines.{NoNewline, IsWholeLine, IsLast, IsCut, IsNextText}

-- no newline, or parted at the first one
data Parted (bytes : List ℕ) : Type 0 where
  clear : NoNewline bytes → Parted bytes
  parted : (piece rest : List ℕ) → NoNewline piece → bytes ≡ piece ++ 10 ∷ rest → Parted bytes

-- one more byte in front that is no newline
parted_after : (b : ℕ) (bytes : List ℕ) → b ≢ 10 → Parted bytes → Parted (b ∷ bytes)
parted_after b bytes other (clear none) = clear (All-cons (λ x. x ≢ 10) b bytes other none)
parted_after b bytes other (parted piece rest none is) =
    parted (b ∷ piece) rest (All-cons (λ x. x ≢ 10) b piece other none) (ap (λ xs. b ∷ xs) is)

part : (bytes : List ℕ) → Parted bytes
part [] = clear (All-nil (λ x. x ≢ 10))
part (b ∷ bytes) =
    elim (eqb_tells b 10) [
      | inl here ↦ parted [] bytes (All-nil (λ x. x ≢ 10)) (ap (λ x. x ∷ bytes) here.1)
      | inr other ↦ parted_after b bytes other.1 (part bytes)
    ]

stripped_len : (is_return : Bool) (piece : List ℕ) → length piece ≤ length (cond is_return (take (length piece - 1) piece) piece) + 1
stripped_len true piece = rw (length-take (length piece - 1) piece) (omega arith)
stripped_len false piece = omega arith

-- without a carriage return at its end a piece is one byte shorter, at most
pub strip_len : (piece : List ℕ) → length piece ≤ length (strip_carriage_return piece) + 1
strip_len piece = stripped_len (slice_index piece (length piece - 1) == 13) piece

stripped_short : (is_return : Bool) (piece : List ℕ) → length (cond is_return (take (length piece - 1) piece) piece) ≤ length piece
stripped_short true piece = rw (length-take (length piece - 1) piece) (omega arith)
stripped_short false piece = omega arith

-- without a carriage return at its end a piece is no longer
strip_short : (piece : List ℕ) → length (strip_carriage_return piece) ≤ length piece
strip_short piece = stripped_short (slice_index piece (length piece - 1) == 13) piece

-- bytes of a line that is too long already
abbrev IsLong : List ℕ → Type 0
IsLong held = 522 < length (strip_carriage_return held)

-- it is too long with more bytes, too
still_long : (held more : List ℕ) → IsLong held → IsLong (held ++ more)
still_long held [] long = rw (append-nil held) long
still_long held (b ∷ more) long =
    let kept = strip_short held in
    let whole : length held + length (b ∷ more) ≡ length (held ++ b ∷ more) = sym (length-append held (b ∷ more)) in
    let some : length (b ∷ more) ≡ length more + 1 = omega arith in
    omega (arith, kept, whole, some, long, strip_len (held ++ b ∷ more))

-- a next line that is too long
abbrev IsTooLong : ℕ → List ℕ → Type 0
IsTooLong room ahead = (text : List ℕ) × IsNextText room ahead text × (522 < length text)

-- the limit comes within bytes that hold no newline
cut_long : (room : ℕ) (ahead held more follow : List ℕ) → NoNewline (held ++ more) → ahead ≡ (held ++ more) ++ follow
    → IsLong held → length held ≤ room → room ≤ length (held ++ more) → IsTooLong room ahead
cut_long room ahead held more follow none is long fits reaches =
    let bytes : List ℕ = held ++ more in
    let room_is : room ≡ length held + (room - length held) = omega arith in
    let piece_is : take room (held ++ more) ≡ held ++ take (room - length held) more
    = ap (λ n. take n (held ++ more)) room_is ∙ take-append-add held more (room - length held) in
    let cut : IsCut room ahead (strip_carriage_return (take room (held ++ more))) = record {
      piece = take room (held ++ more);
      rest = drop room (held ++ more) ++ follow;
      no_newline = All-take (λ x. x ≢ 10) room (held ++ more) none;
      is = is ∙ ap (λ xs. xs ++ follow) (sym (take-append-drop room (held ++ more)))
          ∙ append_assoc (take room (held ++ more)) (drop room (held ++ more)) follow;
      full = length-take-le room (held ++ more) reaches;
      stripped = refl;
    } in
    (strip_carriage_return (take room (held ++ more)), inr cut, rw piece_is (still_long held (take (room - length held) more) long))

whole_long : (room : ℕ) (ahead held more rest : List ℕ) → NoNewline (held ++ more) → ahead ≡ (held ++ more) ++ 10 ∷ rest
    → IsLong held → length held ≤ room → IsTooLong room ahead
whole_long room ahead held more rest none is long fits =
    elim (cases_lt (length (held ++ more)) room) [
      | inl within ↦
          (let whole : IsWholeLine room ahead (strip_carriage_return (held ++ more)) rest
          = record { piece = held ++ more; no_newline = none; is = is; within = within; stripped = refl } in
          (strip_carriage_return (held ++ more), inl (rest, inl whole), still_long held more long))
      | inr reaches ↦ cut_long room ahead held more (10 ∷ rest) none is long fits reaches
    ]

last_long : (room : ℕ) (held more : List ℕ) → NoNewline (held ++ more) → IsLong held → length held ≤ room → IsTooLong room (held ++ more)
last_long room held more none long fits =
    let kept = strip_short (held ++ more) in
    let all = still_long held more long in
    elim (cases_lt (length (held ++ more)) room) [
      | inl within ↦
          (let last : IsLast room (held ++ more) (held ++ more) []
          = record { no_newline = none; some = omega (arith, kept, all); within = within; is = refl; nothing = refl } in
          (held ++ more, inl ([], inr last), omega (arith, kept, all)))
      | inr reaches ↦ cut_long room (held ++ more) held more [] none (sym (append-nil (held ++ more))) long fits reaches
    ]

pub too_long : (room : ℕ) (held left : List ℕ) → NoNewline held → IsLong held → length held ≤ room → IsTooLong room (held ++ left)
too_long room held left none long fits =
    elim (part left) [
      | clear more ↦ last_long room held left (All-append (λ x. x ≢ 10) held left none more) long fits
      | parted piece rest more is ↦
          whole_long room (held ++ left) held piece rest (All-append (λ x. x ≢ 10) held piece none more)
          (ap (λ xs. held ++ xs) is ∙ sym (append_assoc held piece (10 ∷ rest))) long fits
    ]
