-- Spaces that a text begins with.
use Rattle.std.proofs.Common.{◌≡◌, ℕ, List, [], ◌-◌, ◌*◌, ◌<◌, ◌≤◌, ◌∷◌, ◌++◌, length, take, refl, sym, ap, subst, ◌∙◌, arith, append_assoc}
use Rattle.std.proofs.lemmas.List.Elements.{All-append, All-cons, All-nil}
use Rattle.gp_tool.specs.Compare.{SkipsSpaces}
use Rattle.script_tool.specs.Line.{IsBlank}
use Rattle.gp_tool.specs.Form.{IsHex}
use Rattle.gp_tool.specs.Replay.{Wants}
use Rattle.gp_tool.proofs.Spelled.{digits_after}
use Rattle.hex.proofs.HexLemmas.{decode_of-ok}
use Rattle.hex.specs.Hex.{decode_of}
use Rattle.std.proofs.Math.ListN.{drop}
use Rattle.std.proofs.Math.Seq.{take-length}
use Rattle.std.specs.Prelude.{MatchOption, None, Ok, Option, Some}

-- some spaces come first in a text, and this stands after them
pub record IsSkipped (text rest : List ℕ) : Type 0 where
  pub spaces : List ℕ
  pub is : text ≡ spaces ++ rest
  pub blank : IsBlank spaces

pub none_skipped : (text : List ℕ) → IsSkipped text text
none_skipped text = record { spaces = []; is = refl; blank = All-nil (λ byte. byte ≡ 32) }

pub one_skipped : (text rest more : List ℕ) → IsSkipped text rest → rest ≡ 32 ∷ more → IsSkipped text more
one_skipped text rest more skipped begins = record {
  spaces = skipped.spaces ++ 32 ∷ [];
  is = skipped.is ∙ ap (λ r. skipped.spaces ++ r) begins ∙ sym (append_assoc skipped.spaces (32 ∷ []) more);
  blank = All-append (λ byte. byte ≡ 32) skipped.spaces (32 ∷ []) skipped.blank (All-cons (λ byte. byte ≡ 32) 32 [] refl (All-nil (λ byte. byte ≡ 32)));
}

-- what stands after the first byte
pub tail_is : (b : ℕ) (rest more : List ℕ) → rest ≡ b ∷ more → take (length rest - 1) (drop 1 rest) ≡ more
tail_is b rest more is =
    let fewer : length (b ∷ more) - 1 ≡ length more = omega arith in
    ap (λ r. take (length r - 1) (drop 1 r)) is ∙ ap (λ n. take n more) fewer ∙ take-length more

pub tail_skipped : (text rest : List ℕ) → IsSkipped text rest → (more : List ℕ) × (rest ≡ 32 ∷ more) → IsSkipped text (take (length rest - 1) (drop 1 rest))
tail_skipped text rest skipped begins = subst (IsSkipped text) (sym (tail_is 32 rest begins.0 begins.1)) (one_skipped text rest begins.0 skipped begins.1)

-- the digits after the spaces are those that a line wants
wanted_digits : (line rest text digits want : List ℕ) → line ≡ 61 ∷ rest → text ≡ rest → SkipsSpaces text digits → (wants : Wants line want) → wants.1 ≡ digits
wanted_digits line rest text digits want begins is skips wants =
    let two = wants.5 in
    let hex : IsHex wants.1 want = (wants.4, omega (arith, two)) in
    digits_after wants.0 skips.spaces wants.1 digits want wants.3 skips.blank hex skips.no_more (cc (wants.2, begins, is, skips.is))

-- a line whose digits are too few wants no reply
pub few_digits : (line rest text digits want : List ℕ) → line ≡ 61 ∷ rest → text ≡ rest → SkipsSpaces text digits → Wants line want → length digits < 4 → ⊥
few_digits line rest text digits want begins is skips wants few =
    let same = wanted_digits line rest text digits want begins is skips wants in
    let len = decode_of-ok wants.1 want wants.4 in
    let twice : length wants.1 ≡ 2 * length want = len.2 in
    let two = wants.5 in
    let as_long = ap length same in
    omega (arith, twice, two, as_long, few)

-- a line whose digits are none wants no reply
no_digits : (line rest text digits : List ℕ) → line ≡ 61 ∷ rest → text ≡ rest → SkipsSpaces text digits
    → ((out : List ℕ) → decode_of digits ≡ Ok out → ⊥) → (want : List ℕ) → Wants line want → ⊥
no_digits line rest text digits begins is skips none want wants =
    none want (subst (λ (d : List ℕ). decode_of d ≡ Ok want) (wanted_digits line rest text digits want begins is skips wants) wants.4)

-- what is decoded is what a line wants
pub wants_digits : (line rest text digits : List ℕ) (result : Option ℕ) (bytes : List ℕ) → line ≡ 61 ∷ rest → text ≡ rest → SkipsSpaces text digits → 4 ≤ length digits
    → MatchOption result ((out : List ℕ) → decode_of digits ≡ Ok out → ⊥) (λ count. (2 * count ≡ length digits) × (decode_of digits ≡ Ok (take count bytes)))
    → MatchOption result ((want : List ℕ) → Wants line want → ⊥) (λ count. Wants line (take count bytes))
wants_digits line rest text digits None bytes begins is skips enough none = no_digits line rest text digits begins is skips none
wants_digits line rest text digits (Some count) bytes begins is skips enough decoded =
    let len = decode_of-ok digits (take count bytes) decoded.1 in
    let twice : length digits ≡ 2 * length (take count bytes) = len.2 in
    (skips.spaces, digits, begins ∙ ap (λ r. 61 ∷ r) (sym is ∙ skips.is), skips.blank, decoded.1, omega (arith, twice, enough))
