-- Each bytes have one answer: an element, or one refusal. The proof computes it.
use Rattle.std.proofs.Common.{◌≡◌, ◌≢◌, ℕ, ◌+◌, ◌*◌, ◌<◌, ◌≤◌, List, [], ◌∷◌, ◌++◌, cond, eqb, ltb, bit_and, Result, Ok, Err, length, take, drop, append_assoc, length-append, arith, refl, ap, sym, ◌∙◌, subst, inl, inr}
use Rattle.std.proofs.Math.Seq.{take-append_seam, drop-append_seam}
use Rattle.std.proofs.lemmas.Bool.Decides.{nat_tests}
use Rattle.bertlv.specs.declared.element.TlvError.{TlvError}
use Rattle.bertlv.specs.declared.element.TlvError.TheVariants.{Short, Tag, Length}
use Rattle.bertlv.specs.Tag.{TagGoesOn}
use Rattle.bertlv.specs.Spelling.{BeginsWith}
use Rattle.bertlv.specs.Refusal.{AfterTag, AfterLength, EndsInTag, BadTagAt, EndsInLength, BadLength, Refused}

-- how a field at the front of bytes comes out: its number, its bytes and what follows, or the
-- bytes end in it, or a byte is bad
data Field : Type 0 where
  whole : ℕ → List ℕ → List ℕ → Field
  cut : Field
  bad : ℕ → Field

abbrev tag_field : List ℕ → Field
tag_field [] = cut
tag_field (b ∷ []) = cond (eqb b 0) (bad 0) (cond (eqb (bit_and b 31) 31) cut (whole b (b ∷ []) []))
tag_field (b ∷ c ∷ more) = cond (eqb b 0) (bad 0) (cond (eqb (bit_and b 31) 31)
    (cond (ltb c 31) (bad 1) (cond (ltb 127 c) (bad 1) (whole (256 * b + c) (b ∷ c ∷ []) more)))
    (whole b (b ∷ []) (c ∷ more)))

abbrev length_field : List ℕ → Field
length_field [] = cut
length_field (a ∷ []) = cond (ltb a 128) (whole a (a ∷ []) []) (cond (eqb a 129) cut (cond (eqb a 130) cut (bad 0)))
length_field (a ∷ b ∷ []) = cond (ltb a 128) (whole a (a ∷ []) (b ∷ []))
    (cond (eqb a 129) (cond (ltb b 128) (bad 0) (whole b (a ∷ b ∷ []) [])) (cond (eqb a 130) cut (bad 0)))
length_field (a ∷ b ∷ c ∷ more) = cond (ltb a 128) (whole a (a ∷ []) (b ∷ c ∷ more))
    (cond (eqb a 129) (cond (ltb b 128) (bad 0) (whole b (a ∷ b ∷ []) (c ∷ more)))
    (cond (eqb a 130) (cond (ltb (256 * b + c) 256) (bad 0) (whole (256 * b + c) (a ∷ b ∷ c ∷ []) more)) (bad 0)))

goes_on_nonzero : (b : ℕ) → TagGoesOn b → b ≢ 0
goes_on_nonzero b on zero = let none : TagGoesOn 0 = subst TagGoesOn zero on in cc

whole_tag : (t : ℕ) (field rest bytes : List ℕ) → AfterTag t field rest bytes →
    tag_field bytes ≡ whole t field rest
whole_tag t [] rest bytes h = absurd h.0
whole_tag t (b ∷ []) [] bytes h = ap tag_field h.1 ∙ grind (arith, nat_tests)
whole_tag t (b ∷ []) (c ∷ more) bytes h = ap tag_field h.1 ∙ grind (arith, nat_tests)
whole_tag t (b ∷ c ∷ []) rest bytes h =
    let nonzero : b ≢ 0 = goes_on_nonzero b h.0.2 in
    ap tag_field h.1 ∙ grind (arith, nat_tests)
whole_tag t (b ∷ c ∷ d ∷ more) rest bytes h = absurd h.0

cut_tag : (bytes : List ℕ) → EndsInTag bytes → tag_field bytes ≡ cut
cut_tag [] h = refl
cut_tag (b ∷ []) h =
    let nonzero : b ≢ 0 = goes_on_nonzero b h in
    grind (arith, nat_tests)
cut_tag (b ∷ c ∷ more) h = absurd h

bad_tag : (n : ℕ) (bytes : List ℕ) → BadTagAt n bytes → tag_field bytes ≡ bad n
bad_tag n [] h = absurd h
bad_tag n (b ∷ []) h = grind (arith, nat_tests)
bad_tag n (b ∷ c ∷ more) (inl h) = grind (arith, nat_tests)
bad_tag n (b ∷ c ∷ more) (inr h) =
    let nonzero : b ≢ 0 = goes_on_nonzero b h.1 in
    grind (arith, nat_tests)

whole_length : (n : ℕ) (field rest bytes : List ℕ) → AfterLength n field rest bytes →
    length_field bytes ≡ whole n field rest
whole_length n [] rest bytes h = absurd h.0
whole_length n (a ∷ []) [] bytes h = ap length_field h.1 ∙ grind (arith, nat_tests)
whole_length n (a ∷ []) (b ∷ []) bytes h = ap length_field h.1 ∙ grind (arith, nat_tests)
whole_length n (a ∷ []) (b ∷ c ∷ more) bytes h = ap length_field h.1 ∙ grind (arith, nat_tests)
whole_length n (a ∷ b ∷ []) [] bytes h = ap length_field h.1 ∙ grind (arith, nat_tests)
whole_length n (a ∷ b ∷ []) (c ∷ more) bytes h = ap length_field h.1 ∙ grind (arith, nat_tests)
whole_length n (a ∷ b ∷ c ∷ []) rest bytes h = ap length_field h.1 ∙ grind (arith, nat_tests)
whole_length n (a ∷ b ∷ c ∷ d ∷ more) rest bytes h = absurd h.0

cut_length : (bytes : List ℕ) → EndsInLength bytes → length_field bytes ≡ cut
cut_length [] h = refl
cut_length (a ∷ []) h = grind (arith, nat_tests)
cut_length (a ∷ b ∷ []) h = grind (arith, nat_tests)
cut_length (a ∷ b ∷ c ∷ more) h = absurd h

bad_length : (bytes : List ℕ) → BadLength bytes → length_field bytes ≡ bad 0
bad_length [] h = absurd h
bad_length (a ∷ []) h = grind (arith, nat_tests)
bad_length (a ∷ b ∷ []) h = grind (arith, nat_tests)
bad_length (a ∷ b ∷ c ∷ more) h = grind (arith, nat_tests)

abbrev value_answer : ℕ → ℕ → ℕ → List ℕ → Result (ℕ × List ℕ × List ℕ) TlvError
value_answer end tag size bytes =
    cond (ltb (length bytes) size) (Err (Short end)) (Ok (tag, take size bytes, drop size bytes))

abbrev length_answer : ℕ → ℕ → ℕ → Field → Result (ℕ × List ℕ × List ℕ) TlvError
length_answer end tag at (whole size field rest) = value_answer end tag size rest
length_answer end tag at cut = Err (Short end)
length_answer end tag at (bad n) = Err (Length at)

abbrev tag_answer : ℕ → Field → Result (ℕ × List ℕ × List ℕ) TlvError
tag_answer end (whole tag field rest) = length_answer end tag (length field) (length_field rest)
tag_answer end cut = Err (Short end)
tag_answer end (bad n) = Err (Tag n)

-- the element at the front with what follows it, or the refusal
pub answer : List ℕ → Result (ℕ × List ℕ × List ℕ) TlvError
answer bytes = tag_answer (length bytes) (tag_field bytes)

-- the answer once the tag field is whole, and once the length field is
past_tag : (t : ℕ) (field rest bytes : List ℕ) → AfterTag t field rest bytes →
    answer bytes ≡ length_answer (length bytes) t (length field) (length_field rest)
unfolding answer
past_tag t field rest bytes h = ap (tag_answer (length bytes)) (whole_tag t field rest bytes h)

past_length : (t n : ℕ) (field size_field rest value bytes : List ℕ) →
    AfterTag t field rest bytes → AfterLength n size_field value rest →
    answer bytes ≡ value_answer (length bytes) t n value
past_length t n field size_field rest value bytes h k =
    past_tag t field rest bytes h
    ∙ ap (length_answer (length bytes) t (length field)) (whole_length n size_field value rest k)

whole_value : (end tag : ℕ) (value rest : List ℕ) →
    value_answer end tag (length value) (value ++ rest) ≡ Ok (tag, value, rest)
whole_value end tag value rest =
    let enough : length value ≤ length (value ++ rest) = omega (arith, length-append value rest) in
    rw (take-append_seam value rest, drop-append_seam value rest) (grind (arith, nat_tests))

few_value : (end tag size : ℕ) (bytes : List ℕ) → length bytes < size →
    value_answer end tag size bytes ≡ Err (Short end)
few_value end tag size bytes few = grind (arith, nat_tests)

-- an element at the front is the answer
pub answer_found : (t : ℕ) (value rest bytes : List ℕ) → BeginsWith t value rest bytes →
    answer bytes ≡ Ok (t, value, rest)
answer_found t value rest bytes (front, spelled, is) =
    let parts : bytes ≡ spelled.tag_field ++ (spelled.length_field ++ (value ++ rest)) =
    is ∙ ap (λ z. z ++ rest) spelled.joined ∙ simp append_assoc in
    past_length t (length value) spelled.tag_field spelled.length_field
    (spelled.length_field ++ (value ++ rest)) (value ++ rest) bytes
    (spelled.is_tag, parts) (spelled.is_length, refl)
    ∙ whole_value (length bytes) t value rest

-- a refusal is the answer
pub answer_refused : (e : TlvError) (bytes : List ℕ) → Refused bytes e → answer bytes ≡ Err e
unfolding answer
answer_refused (Short n) bytes (is, inl h) =
    ap (tag_answer (length bytes)) (cut_tag bytes h) ∙ ap (λ end. Err (Short end)) (sym is)
answer_refused (Short n) bytes (is, inr (inl (t, field, rest, after, h))) =
    past_tag t field rest bytes after
    ∙ ap (length_answer (length bytes) t (length field)) (cut_length rest h)
    ∙ ap (λ end. Err (Short end)) (sym is)
answer_refused (Short n) bytes (is, inr (inr (t, size, field, size_field, rest, value, after, after_size, h))) =
    past_length t size field size_field rest value bytes after after_size
    ∙ few_value (length bytes) t size value h
    ∙ ap (λ end. Err (Short end)) (sym is)
answer_refused (Tag n) bytes h = ap (tag_answer (length bytes)) (bad_tag n bytes h)
answer_refused (Length n) bytes (t, field, rest, after, is, h) =
    past_tag t field rest bytes after
    ∙ ap (length_answer (length bytes) t (length field)) (bad_length rest h)
    ∙ ap (λ at. Err (Length at)) (sym is)

-- a refused front holds no element
pub refused_alone : (e : TlvError) (t : ℕ) (value rest bytes : List ℕ) → Refused bytes e →
    BeginsWith t value rest bytes → ⊥
refused_alone e t value rest bytes h k =
    let refused = answer_refused e bytes h in
    let found = answer_found t value rest bytes k in
    cc

-- bytes have one refusal
pub one_refusal : (d e : TlvError) (bytes : List ℕ) → Refused bytes d → Refused bytes e → d ≡ e
one_refusal d e bytes h k =
    let first = answer_refused d bytes h in
    let second = answer_refused e bytes k in
    cc
