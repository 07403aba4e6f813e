-- An element has one spelling, and no spelling is the front of another.
use Rattle.std.proofs.Common.{◌≡◌, ℕ, List, [], ◌∷◌, ◌++◌, arith, refl, ap, sym, ◌∙◌, subst, length, append_assoc}
use Rattle.std.proofs.lemmas.List.{append-nil}
use Rattle.bertlv.specs.Tag.{TagBytes}
use Rattle.bertlv.specs.Length.{LengthBytes}
use Rattle.bertlv.specs.Spelling.{AreElements, Element, Spelling}
use Rattle.bertlv.proofs.TagLemmas.{tag_front, one_tag_field}
use Rattle.bertlv.proofs.LengthLemmas.{length_front, one_length_field}

-- the fields and the value spell the element
pub fields_spell : (tag n : ℕ) (tag_field length_field value : List ℕ) → TagBytes tag tag_field →
    LengthBytes n length_field → n ≡ length value →
    Spelling tag value (tag_field ++ length_field ++ value)
fields_spell tag n tag_field length_field value is_tag is_length n_is = record {
  tag_field = tag_field;
  length_field = length_field;
  is_tag = is_tag;
  is_length = subst (λ m. LengthBytes m length_field) n_is is_length;
  joined = refl;
}

-- fronts of one length are one front
pub same_front : (v w x y : List ℕ) → length v ≡ length w → v ++ x ≡ w ++ y → (v ≡ w) × (x ≡ y)
same_front [] [] x y n e = (refl, e)
same_front [] (b ∷ w) x y n e = absurd (omega arith)
same_front (a ∷ v) [] x y n e = absurd (omega arith)
same_front (a ∷ v) (b ∷ w) x y n e =
    let rest : (v ≡ w) × (x ≡ y) = same_front v w x y (omega arith) cc in
    (cc, rest.1)

-- the three parts, and what follows them
joined_to : (a b v rest : List ℕ) → (a ++ b ++ v) ++ rest ≡ a ++ (b ++ (v ++ rest))
joined_to a b v rest = simp append_assoc

-- bytes begin with at most one element, and what follows it is fixed
pub spelling_front : (t u : ℕ) (v w r s x y : List ℕ) → Spelling t v r → Spelling u w s →
    r ++ x ≡ s ++ y → (t ≡ u) × (v ≡ w) × (r ≡ s) × (x ≡ y)
spelling_front t u v w r s x y h k e =
    let bytes : h.tag_field ++ (h.length_field ++ (v ++ x)) ≡ k.tag_field ++ (k.length_field ++ (w ++ y)) =
    sym (joined_to h.tag_field h.length_field v x) ∙ ap (λ z. z ++ x) (sym h.joined) ∙ e
    ∙ ap (λ z. z ++ y) k.joined ∙ joined_to k.tag_field k.length_field w y in
    let tags =
    tag_front t u h.tag_field k.tag_field (h.length_field ++ (v ++ x)) (k.length_field ++ (w ++ y))
    h.is_tag k.is_tag bytes in
    let lengths =
    length_front (length v) (length w) h.length_field k.length_field (v ++ x) (w ++ y)
    h.is_length k.is_length tags.2 in
    let values = same_front v w x y lengths.0 lengths.2 in
    let same : r ≡ s =
    h.joined ∙ ap (λ z. z ++ h.length_field ++ v) tags.1 ∙ ap (λ z. k.tag_field ++ z ++ v) lengths.1
    ∙ ap (λ z. k.tag_field ++ k.length_field ++ z) values.0 ∙ sym k.joined in
    (tags.0, values.0, same, values.1)

-- an element has one spelling
pub one_spelling : (t : ℕ) (v r s : List ℕ) → Spelling t v r → Spelling t v s → r ≡ s
one_spelling t v r s h k =
    let tags = one_tag_field t h.tag_field k.tag_field h.is_tag k.is_tag in
    let lengths = one_length_field (length v) h.length_field k.length_field h.is_length k.is_length in
    h.joined ∙ ap (λ z. z ++ h.length_field ++ v) tags ∙ ap (λ z. k.tag_field ++ z ++ v) lengths ∙ sym k.joined

-- several elements have one spelling, one after the other
pub one_spelling_each : (elements : List Element) (r s : List ℕ) → AreElements elements r → AreElements elements s → r ≡ s
one_spelling_each [] r s h k = h ∙ sym k
one_spelling_each (element ∷ elements) r s (first, rest, spelled, more, joined) (other, others, again, further, split) =
    let firsts = one_spelling element.tag element.value first other spelled again in
    let rests = one_spelling_each elements rest others more further in
    joined ∙ ap (λ z. z ++ rest) firsts ∙ ap (λ z. other ++ z) rests ∙ sym split

-- one more element after others
pub elements_more : (elements : List Element) (element : Element) (bytes more : List ℕ) → AreElements elements bytes
    → Spelling element.tag element.value more → AreElements (elements ++ element ∷ []) (bytes ++ more)
elements_more [] element bytes more none spelled =
    (more, [], spelled, refl, ap (λ front. front ++ more) none ∙ sym (append-nil more))
elements_more (first ∷ elements) element bytes more (front, rest, is, others, joined) spelled = (
  front,
  rest ++ more,
  is,
  elements_more elements element rest more others spelled,
  ap (λ all. all ++ more) joined ∙ append_assoc front rest more,
)
