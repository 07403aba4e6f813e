-- What a tag and its field say of each other.
use Rattle.std.proofs.Common.{◌≡◌, ◌≢◌, ℕ, ◌+◌, ◌-◌, ◌*◌, ◌<◌, ◌≤◌, List, [], ◌∷◌, ◌++◌, arith, subst, refl, get_or, take, drop, length, ◌/◌, ◌%◌, inl, inr, Bool, true, false, not, IsTrue, ◌↔◌, sym}
use Rattle.std.proofs.lemmas.Bool.{false≢true}
use Rattle.std.proofs.lemmas.Grind.{common_steps}
use Rattle.bertlv.specs.Tag.{TagGoesOn, EndsTag, TagBytes, IsTag}
use Rattle.bertlv.specs.Refusal.{AfterTag}

-- a first byte that doesn't go on is a whole field
pub after_one : (bytes : List ℕ) (tag : ℕ) → 1 ≤ length bytes → tag ≡ get_or bytes 0 0 →
    get_or bytes 0 0 < 256 → get_or bytes 0 0 ≢ 0 → ¬ TagGoesOn (get_or bytes 0 0) →
    (field : List ℕ) × AfterTag tag field (take (length bytes - 1) (drop 1 bytes)) bytes
after_one [] tag some is fits nonzero ends = absurd (omega arith)
after_one (b ∷ more) tag some is fits nonzero ends =
    (b ∷ [], ((is, fits, nonzero, ends), grind (arith, common_steps)))

-- a first byte that goes on and a second that ends the field are a whole field
pub after_two : (bytes : List ℕ) (tag : ℕ) → 2 ≤ length bytes →
    tag ≡ get_or bytes 0 0 * 256 + get_or bytes 1 0 → get_or bytes 0 0 < 256 →
    TagGoesOn (get_or bytes 0 0) → EndsTag (get_or bytes 1 0) →
    (field : List ℕ) × AfterTag tag field (take (length bytes - 2) (drop 2 bytes)) bytes
after_two [] tag two is fits on ends = absurd (omega arith)
after_two (b ∷ []) tag two is fits on ends = absurd (omega arith)
after_two (b ∷ c ∷ more) tag two is fits on ends =
    (b ∷ c ∷ [], ((omega arith, fits, on, ends), grind (arith, common_steps)))

-- no tag field begins another, and each has one tag
pub tag_front : (t u : ℕ) (a b x y : List ℕ) → TagBytes t a → TagBytes u b → a ++ x ≡ b ++ y →
    (t ≡ u) × (a ≡ b) × (x ≡ y)
tag_front t u [] b x y h k e = absurd h
tag_front t u (p ∷ []) [] x y h k e = absurd k
tag_front t u (p ∷ []) (q ∷ []) x y h k e = (cc, cc, cc)
tag_front t u (p ∷ []) (q ∷ s ∷ []) x y h k e = absurd (grind arith)
tag_front t u (p ∷ []) (q ∷ s ∷ z ∷ b) x y h k e = absurd k
tag_front t u (p ∷ r ∷ []) [] x y h k e = absurd k
tag_front t u (p ∷ r ∷ []) (q ∷ []) x y h k e = absurd (grind arith)
tag_front t u (p ∷ r ∷ []) (q ∷ s ∷ []) x y h k e = (cc, cc, cc)
tag_front t u (p ∷ r ∷ []) (q ∷ s ∷ z ∷ b) x y h k e = absurd k
tag_front t u (p ∷ r ∷ w ∷ a) b x y h k e = absurd h

-- a tag of two bytes is at least 256
small_first : (tag b c : ℕ) → tag < 256 → TagBytes tag (b ∷ c ∷ []) → ⊥
small_first tag b c small h =
    let zero_first : b ≡ 0 = omega arith in
    let on : TagGoesOn 0 = subst TagGoesOn zero_first h.2 in
    cc

-- a field of one byte and one of two have different tags
one_not_two : (tag b c d : ℕ) → TagBytes tag (b ∷ []) → TagBytes tag (c ∷ d ∷ []) → ⊥
one_not_two tag b c d h k = small_first tag c d (omega arith) k

-- each tag has one field
pub one_tag_field : (tag : ℕ) (a b : List ℕ) → TagBytes tag a → TagBytes tag b → a ≡ b
one_tag_field tag [] b h k = absurd h
one_tag_field tag (p ∷ []) [] h k = absurd k
one_tag_field tag (p ∷ []) (q ∷ []) h k = cc
one_tag_field tag (p ∷ []) (q ∷ s ∷ []) h k = absurd (one_not_two tag p q s h k)
one_tag_field tag (p ∷ []) (q ∷ s ∷ z ∷ b) h k = absurd k
one_tag_field tag (p ∷ r ∷ []) [] h k = absurd k
one_tag_field tag (p ∷ r ∷ []) (q ∷ []) h k = absurd (one_not_two tag q p r k h)
one_tag_field tag (p ∷ r ∷ []) (q ∷ s ∷ []) h k =
    let first : p ≡ q = omega arith in
    let second : r ≡ s = omega arith in cc
one_tag_field tag (p ∷ r ∷ []) (q ∷ s ∷ z ∷ b) h k = absurd k
one_tag_field tag (p ∷ r ∷ w ∷ a) b h k = absurd h

-- a tag below 256 doesn't go on
ends_of : (tag : ℕ) → tag < 256 → IsTag tag → ¬ TagGoesOn tag
ends_of tag small (inl h) = h.3
ends_of tag small (inr h) = absurd (small_first tag (tag / 256) (tag % 256) small h)

-- below 256 a number is a tag exactly where it doesn't go on
pub one_byte_test : (tag second : ℕ) (on : Bool) → second ≡ tag → tag < 256 → second ≢ 0 →
    (IsTrue on ↔ TagGoesOn second) → IsTrue (not on) ↔ IsTag tag
one_byte_test tag second true is small nonzero on =
    (λ off. absurd cc, λ t. absurd (ends_of tag small t (subst TagGoesOn is (on.0 refl))))
one_byte_test tag second false is small nonzero on =
    (λ _. inl (refl, small, omega arith, λ goes. absurd (false≢true (on.1 (subst TagGoesOn (sym is) goes)))), λ _. refl)

-- what a field spells is a tag
pub spelled_is_tag : (tag : ℕ) (field : List ℕ) → TagBytes tag field → IsTag tag
spelled_is_tag tag [] h = absurd h
spelled_is_tag tag (b ∷ []) h = inl (subst (λ n. TagBytes tag (n ∷ [])) (sym h.0) h)
spelled_is_tag tag (b ∷ c ∷ []) h =
    let high : b ≡ tag / 256 = omega arith in
    let low : c ≡ tag % 256 = omega arith in
    inr (subst (λ m. TagBytes tag (m ∷ tag % 256 ∷ [])) high (subst (λ n. TagBytes tag (b ∷ n ∷ [])) low h))
spelled_is_tag tag (b ∷ c ∷ d ∷ more) h = absurd h
