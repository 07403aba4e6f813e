-- A command that is written piece by piece, for `write_command`.
use Rattle.std.proofs.Common.{◌≡◌, ◌/◌, ◌%◌, ◌+◌, ◌*◌, ℕ, List, [], ◌∷◌, ◌++◌, length, take, drop, slice_index, Result, Ok, Err, refl, sym, ap, ◌∙◌, append_assoc, arith}
use Rattle.std.specs.Prelude.{OnErr}
use Rattle.std.proofs.Math.Seq.{take-append_seam}
use Rattle.std.proofs.lemmas.List.{take-append-drop}
use Rattle.hex.specs.Hex.{encode_lower, encode_with, lower_digits}
use Rattle.host_tool.specs.Exchange.{command_line}

encode_both : (t a b : List ℕ) → encode_with t (a ++ b) ≡ encode_with t a ++ encode_with t b
unfolding encode_with
encode_both t [] b = refl
encode_both t (x ∷ a) b = ap (λ (r : List ℕ). slice_index t (x / 16) ∷ slice_index t (x % 16) ∷ r) (encode_both t a b)

pub no_digits : encode_lower [] ≡ []
unfolding encode_with
no_digits = refl

-- the digits of a front are written, and the rest is to come
pub record Partly (command rest old new : List ℕ) : Type 0 where
  pub front : List ℕ
  pub whole : command ≡ front ++ rest
  pub written : new ≡ old ++ encode_lower front

pub one_more : (command rest old mid piece after new : List ℕ) → Partly command rest old mid → rest ≡ piece ++ after → new ≡ mid ++ encode_lower piece → Partly command after old new
one_more command rest old mid piece after new partly is wrote = record {
  front = partly.front ++ piece;
  whole = partly.whole ∙ ap (λ (r : List ℕ). partly.front ++ r) is ∙ sym (append_assoc partly.front piece after);
  written = wrote ∙ ap (λ (w : List ℕ). w ++ encode_lower piece) partly.written ∙ append_assoc old (encode_lower partly.front) (encode_lower piece)
      ∙ ap (λ (w : List ℕ). old ++ w) (sym (encode_both lower_digits partly.front piece));
}

-- a text that was cut at a place after another one is the front of both
cut_after : (front text all rest : List ℕ) (n : ℕ) → all ≡ front ++ (text ++ rest) → (m : ℕ) × (front ++ take n text ≡ take m all)
cut_after front text all rest n is = (
  length (front ++ take n text),
  sym (take-append_seam (front ++ take n text) (drop n text ++ rest))
      ∙ ap (λ (w : List ℕ). take (length (front ++ take n text)) w)
      (append_assoc front (take n text) (drop n text ++ rest)
      ∙ ap (λ (w : List ℕ). front ++ w) (sym (append_assoc (take n text) (drop n text) rest) ∙ ap (λ (w : List ℕ). w ++ rest) (take-append-drop n text)) ∙ sym is),
)

line_of : (command rest old mid : List ℕ) (partly : Partly command rest old mid) → command_line command ≡ encode_lower partly.front ++ command_line rest
line_of command rest old mid partly =
    ap (λ (c : List ℕ). encode_lower c ++ 10 ∷ []) partly.whole ∙ ap (λ (w : List ℕ). w ++ 10 ∷ []) (encode_both lower_digits partly.front rest)
    ∙ append_assoc (encode_lower partly.front) (encode_lower rest) (10 ∷ [])

-- with the last line the whole is there
pub all_written : (command rest old mid new : List ℕ) → Partly command rest old mid → new ≡ mid ++ command_line rest → new ≡ old ++ command_line command
all_written command rest old mid new partly wrote =
    wrote ∙ ap (λ (w : List ℕ). w ++ command_line rest) partly.written ∙ append_assoc old (encode_lower partly.front) (command_line rest)
    ∙ ap (λ (w : List ℕ). old ++ w) (sym (line_of command rest old mid partly))

-- a part of a text that comes next is there, and so a front of the whole
part_of : (command old mid new text after rest : List ℕ) (n : ℕ) (partly : Partly command rest old mid) → command_line rest ≡ text ++ after → new ≡ mid ++ take n text
    → (m : ℕ) × (new ≡ old ++ take m (command_line command))
part_of command old mid new text after rest n partly is wrote =
    let cut = cut_after (encode_lower partly.front) text (command_line command) after n
    (line_of command rest old mid partly ∙ ap (λ (w : List ℕ). encode_lower partly.front ++ w) is) in
    (cut.0, wrote ∙ ap (λ (w : List ℕ). w ++ take n text) partly.written ∙ append_assoc old (encode_lower partly.front) (take n text) ∙ ap (λ (w : List ℕ). old ++ w) cut.1)

pub last_cut : (command rest old mid new : List ℕ) → Partly command rest old mid → (n : ℕ) × (new ≡ mid ++ take n (command_line rest)) → (m : ℕ) × (new ≡ old ++ take m (command_line command))
last_cut command rest old mid new partly part =
    part_of command old mid new (command_line rest) [] rest part.0 partly (sym (nothing_more (command_line rest))) part.1
  where
    nothing_more : (w : List ℕ) → w ++ [] ≡ w
    nothing_more [] = refl
    nothing_more (x ∷ w) = ap (λ (r : List ℕ). x ∷ r) (nothing_more w)

pub piece_cut : (command rest old mid piece after new : List ℕ) → Partly command rest old mid → rest ≡ piece ++ after → (n : ℕ) × (new ≡ mid ++ take n (encode_lower piece))
    → (m : ℕ) × (new ≡ old ++ take m (command_line command))
piece_cut command rest old mid piece after new partly is part =
    part_of command old mid new (encode_lower piece) (command_line after) rest part.0 partly
    (ap (λ (r : List ℕ). encode_lower r ++ 10 ∷ []) is ∙ ap (λ (w : List ℕ). w ++ 10 ∷ []) (encode_both lower_digits piece after)
    ∙ append_assoc (encode_lower piece) (encode_lower after) (10 ∷ [])) part.1

pub on_err : {E X : Type 0} (result : Result (Unit {0}) E) → X → OnErr result X
on_err (Ok done) x = tt
on_err (Err refused) x = x

-- two digits a byte
two_each : (t bytes : List ℕ) → length (encode_with t bytes) ≡ 2 * length bytes
unfolding encode_with
two_each t [] = refl
two_each t (x ∷ bytes) = (let less = two_each t bytes in omega (arith, less))

pub digits_long : (bytes : List ℕ) → length (encode_lower bytes) ≡ 2 * length bytes
digits_long bytes = two_each lower_digits bytes
