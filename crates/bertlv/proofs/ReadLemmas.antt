-- What follows for a result that gives an element at the front of the bytes or refuses them.
use Rattle.std.proofs.Common.{◌≡◌, ℕ, List, ◌++◌, Result, Ok, Err, IfOk, IfErr, IsOkAnd, ◌↔◌, ap, sym, ◌∙◌, subst, length, append_assoc}
use Rattle.bertlv.specs.declared.element.TlvError.{TlvError}
use Rattle.bertlv.specs.Spelling.{Spelling, BeginsWith}
use Rattle.bertlv.specs.Refusal.{Refused, AfterTag, AfterLength}
use Rattle.bertlv.proofs.SpellingLemmas.{spelling_front, fields_spell}
use Rattle.bertlv.specs.Tag.{IsTag}
use Rattle.bertlv.proofs.TagLemmas.{spelled_is_tag}
use Rattle.bertlv.proofs.Answer.{refused_alone, one_refusal}

module _ {T : Type 0} (tag : T → ℕ) (value rest : T → List ℕ) (bytes : List ℕ) where
  -- each refusal comes exactly where it holds
  pub exact_refusal : (result : Result T TlvError) →
      IfOk result (λ r. BeginsWith (tag r) (value r) (rest r) bytes) →
      IfErr result (Refused bytes) → (e : TlvError) → (result ≡ Err e) ↔ Refused bytes e
  exact_refusal (Ok r) found refused e =
      (λ is. absurd cc, λ h. absurd (refused_alone e (tag r) (value r) (rest r) bytes h found))
  exact_refusal (Err d) found refused e = (
    λ is. let same : d ≡ e = cc in subst (λ x. Refused bytes x) same refused,
    λ h. ap (λ x. Err x) (one_refusal d e bytes refused h),
  )

  -- an element at the front is given
  pub only_reading : (result : Result T TlvError) →
      IfOk result (λ r. BeginsWith (tag r) (value r) (rest r) bytes) →
      IfErr result (Refused bytes) → (t : ℕ) (v front more : List ℕ) → Spelling t v front →
      bytes ≡ front ++ more → IsOkAnd result (λ r. (tag r ≡ t) × (value r ≡ v) × (rest r ≡ more))
  only_reading (Ok r) (s, spelled, is) refused t v front more h k =
      let same = spelling_front (tag r) t (value r) v s front (rest r) more spelled h (sym is ∙ k) in
      (same.0, same.1, same.3)
  only_reading (Err d) found refused t v front more h k =
      absurd (refused_alone d t v more bytes refused (front, h, k))

  -- what is given has a tag of the form
  pub tag_of_reading : (result : Result T TlvError) →
      IfOk result (λ r. BeginsWith (tag r) (value r) (rest r) bytes) →
      IfOk result (λ r. IsTag (tag r))
  tag_of_reading (Ok r) (s, spelled, is) = spelled_is_tag (tag r) spelled.tag_field spelled.is_tag
  tag_of_reading (Err d) found = found

-- the parts at the front are an element
pub joined_front : (tag n : ℕ) (bytes after_tag after_length value rest : List ℕ) →
    (field : List ℕ) × AfterTag tag field after_tag bytes →
    (field : List ℕ) × AfterLength n field after_length after_tag → n ≡ length value →
    after_length ≡ value ++ rest → BeginsWith tag value rest bytes
joined_front tag n bytes after_tag after_length value rest (field, (is_tag, at_tag)) (size_field, (is_length, at_length)) n_is at_value = (
  field ++ size_field ++ value,
  fields_spell tag n field size_field value is_tag is_length n_is,
  at_tag ∙ ap (λ z. field ++ z) (at_length ∙ ap (λ z. size_field ++ z) at_value) ∙ simp append_assoc,
)
