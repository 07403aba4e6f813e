-- Elements one after the other, read from the front.
use Rattle.std.proofs.Common.{◌≡◌, ℕ, ◌<◌, List, [], ◌∷◌, ◌++◌, length, refl, ap, sym, subst, ◌∙◌, arith, length-append}
use Rattle.std.specs.Prelude.{All}
use Rattle.std.proofs.lemmas.List.Elements.{All-cons, All-head, All-tail}
use Rattle.policy_machine.specs.Prelude.{AreElements, AreObjects, BeginsWith, Element, IsObject, Spelling, StoreDataField, TagBytes}
use Rattle.bertlv.proofs.SpellingLemmas.{spelling_front}

some_field : (tag : ℕ) (field : List ℕ) → TagBytes tag field → 0 < length field
some_field tag [] is = absurd is
some_field tag (b ∷ more) is = omega arith

some_spelling : (tag : ℕ) (value bytes : List ℕ) → Spelling tag value bytes → 0 < length bytes
some_spelling tag value bytes spelled =
    let some = some_field tag spelled.tag_field spelled.is_tag in
    omega (arith, some, simp length-append at (ap length spelled.joined))

-- fewer bytes follow an element
pub rest_shorter : (tag : ℕ) (value rest bytes : List ℕ) → BeginsWith tag value rest bytes → length rest < length bytes
rest_shorter tag value rest bytes (front, spelled, is) =
    omega (arith, some_spelling tag value front spelled, ap length is, length-append front rest)

-- what follows an element that bytes of several begin with is the others
pub elements_after : (elements : List Element) (tag : ℕ) (value rest bytes : List ℕ) → AreElements elements bytes → BeginsWith tag value rest bytes
    → (others : List Element) × (elements ≡ record { tag = tag; value = value } ∷ others) × AreElements others rest
elements_after [] tag value rest bytes none begins =
    (let fewer = rest_shorter tag value rest bytes begins in absurd (omega (arith, fewer, ap length none)))
elements_after (element ∷ others) tag value rest bytes (first, more, spelled, are, joined) (front, is, split) =
    let same = spelling_front element.tag tag element.value value first front more rest spelled is (sym joined ∙ split) in
    let tags = same.0 in
    let values = same.1 in
    (others, (λ i. record { tag = tags i; value = values i } ∷ others), subst (AreElements others) same.3 are)

-- an element and others
pub elements_with : (others : List Element) (tag : ℕ) (value rest bytes : List ℕ) → BeginsWith tag value rest bytes → AreElements others rest
    → AreElements (record { tag = tag; value = value } ∷ others) bytes
elements_with others tag value rest bytes (front, is, split) are = (front, rest, is, are, split)

-- bytes are one list of elements
pub one_list : (a b : List Element) (bytes : List ℕ) → AreElements a bytes → AreElements b bytes → a ≡ b
one_list [] [] bytes one other = refl
one_list [] (element ∷ others) bytes one (first, rest, spelled, are, joined) =
    (let some = rest_shorter element.tag element.value rest bytes (first, spelled, joined) in absurd (omega (arith, some, ap length one)))
one_list (element ∷ more) b bytes (first, rest, spelled, are, joined) other =
    let behind = elements_after b element.tag element.value rest bytes other (first, spelled, joined) in
    ap (λ (others : List Element). element ∷ others) (one_list more behind.0 rest are behind.2) ∙ sym behind.1

-- where no element can be read there is none
pub none_left : (elements : List Element) (bytes : List ℕ) → AreElements elements bytes
    → ((tag : ℕ) (value front rest : List ℕ) → Spelling tag value front → bytes ≡ front ++ rest → ⊥) → elements ≡ []
none_left [] bytes are refused = refl
none_left (element ∷ others) bytes (first, rest, spelled, are, joined) refused = absurd (refused element.tag element.value first rest spelled joined)

-- data objects that a domain may have, one more in front
pub objects_with : (tag : ℕ) (value rest bytes : List ℕ) → BeginsWith tag value rest bytes → IsObject tag (length value) → AreObjects rest → AreObjects bytes
objects_with tag value rest bytes begins is (others, are, each) = (
  record { tag = tag; value = value } ∷ others,
  elements_with others tag value rest bytes begins are,
  All-cons (λ (e : Element). IsObject e.tag (length e.value)) (record { tag = tag; value = value }) others is each,
)

pub objects_after : (tag : ℕ) (value rest bytes : List ℕ) → BeginsWith tag value rest bytes → AreObjects bytes → IsObject tag (length value) × AreObjects rest
objects_after tag value rest bytes begins (elements, are, each) =
    let behind = elements_after elements tag value rest bytes are begins in
    let P = λ (e : Element). IsObject e.tag (length e.value) in
    let all : All P (record { tag = tag; value = value } ∷ behind.0) = subst (All P) behind.1 each in
    (All-head P (record { tag = tag; value = value }) behind.0 all, (behind.0, behind.2, All-tail P (record { tag = tag; value = value }) behind.0 all))

-- some bytes of which no element can be read are none
pub no_objects : (bytes : List ℕ) → 0 < length bytes
    → ((tag : ℕ) (value front rest : List ℕ) → Spelling tag value front → bytes ≡ front ++ rest → ⊥) → AreObjects bytes → ⊥
no_objects bytes some refused (elements, are, each) =
    let none = subst (λ (es : List Element). AreElements es bytes) (none_left elements bytes are refused) are in
    omega (arith, some, ap length none)

-- a data field has one data object or more
pub field_from : (body : List ℕ) → (length body ≡ 0 → ⊥) → AreObjects body → StoreDataField body
field_from body some (elements, are, each) = (
  elements,
  record {
    spelled = are;
    some = λ none. some (ap length (subst (λ (es : List Element). AreElements es body) none are));
    each = each;
  },
)

pub from_field : (body : List ℕ) → StoreDataField body → (length body ≡ 0 → ⊥) × AreObjects body
from_field body (elements, has) = (λ empty. has.some (none_of_none elements body has.spelled empty), (elements, has.spelled, has.each))
  where
    none_of_none : (es : List Element) (bytes : List ℕ) → AreElements es bytes → length bytes ≡ 0 → es ≡ []
    none_of_none [] bytes are empty = refl
    none_of_none (element ∷ others) bytes (first, rest, spelled, are, joined) empty =
        (let some = rest_shorter element.tag element.value rest bytes (first, spelled, joined) in absurd (omega arith))
