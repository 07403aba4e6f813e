use Rattle.std.proofs.Common.{rules, ◌≡◌, ◌/◌, ◌%◌, ◌++◌, ℕ, List, [], ◌∷◌, take, refl, ap, sym, ◌∙◌}
use Rattle.std.specs.Prelude.{slice_index}
use Rattle.std.proofs.lemmas.Bool.{eqb-true}
use Rattle.std.proofs.lemmas.List.{append-nil, append_assoc, nil_from_length, take-append-drop}
use Rattle.hex.specs.Hex.{encode_lower, encode_with, lower_digits}
use Rattle.line_text.proofs.push.push_hex.Goals as goal

-- no bytes have no digits, and joined bytes have their digits, joined
encode_none : encode_lower [] ≡ []
unfolding encode_with
encode_none = refl

encode_joined : (front back : List ℕ) → encode_lower (front ++ back) ≡ encode_lower front ++ encode_lower back
unfolding encode_with
encode_joined [] back = refl
encode_joined (b ∷ front) back =
    ap (λ (rest : List ℕ). slice_index lower_digits (b / 16) ∷ slice_index lower_digits (b % 16) ∷ rest) (encode_joined front back)

pub loop-rest-init : goal.loop-rest-init
loop-rest-init g c = record { written = refl; size = refl }

pub push_piece-requires : goal.push_piece-requires
push_piece-requires g c = search rules

pub loop-rest-smaller : goal.loop-rest-smaller
loop-rest-smaller g c = search rules

pub loop-rest-preserved : goal.loop-rest-preserved
loop-rest-preserved g c =
    let front = c.split_at.result.0.now in
    let back = c.split_at.result.1.now in
    let whole : front ++ back ≡ c.loop-rest.rest.now =
    ap (λ (l : List ℕ). l ++ back) c.split_at.ensures.front ∙ ap (λ (l : List ℕ). take c.min.result c.loop-rest.rest.now ++ l) c.split_at.ensures.back
    ∙ take-append-drop c.min.result c.loop-rest.rest.now in
    record {
      written = ap (λ (l : List ℕ). l ++ encode_lower back) c.push_piece.ensures.written ∙ append_assoc c.loop-rest.line.items (encode_lower front) (encode_lower back)
          ∙ ap (λ (l : List ℕ). c.loop-rest.line.items ++ l) (sym (encode_joined front back) ∙ ap encode_lower whole) ∙ c.loop-rest.invariant.written;
      size = search rules;
    }

pub returns-clause-written : goal.returns-clause-written
returns-clause-written g c =
    let line = c.loop-rest.line.items in
    let none = nil_from_length c.loop-rest.rest.now (eqb-true _ 0 (sym c.is_empty.ensures ∙ c.loop-rest-test.false)) in
    sym (append-nil line) ∙ ap (λ (l : List ℕ). line ++ l) (sym encode_none ∙ ap encode_lower (sym none)) ∙ c.loop-rest.invariant.written

pub returns-clause-size : goal.returns-clause-size
returns-clause-size g c = search rules
