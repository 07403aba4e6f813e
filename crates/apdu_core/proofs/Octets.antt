-- The bytes of a spelling are bytes, and so a body has at most 255.
use Rattle.std.proofs.Common.{◌≡◌, ℕ, ◌<◌, ◌≤◌, List, [], ◌∷◌, ◌++◌, length, Option, Some, None, refl, arith, subst}
use Rattle.std.specs.Prelude.{All}
use Rattle.std.proofs.lemmas.List.Elements.{All-nil, All-cons, All-append, All-head, All-tail}
use Rattle.apdu_core.specs.Apdu.{Apdu, Short, after_header}

-- what follows a header is bytes where its parts are
pub All-after_header : (body : List ℕ) (le : Option ℕ)
    → All (λ b. b < 256) body → length body ≤ 255 → ((x : ℕ) → le ≡ Some x → x < 256)
    → All (λ b. b < 256) (after_header body le)
All-after_header [] None body_fits short le_fits = All-nil (λ b. b < 256)
All-after_header [] (Some le) body_fits short le_fits =
    All-cons (λ b. b < 256) le [] (le_fits le refl) (All-nil (λ b. b < 256))
All-after_header (b ∷ bs) None body_fits short le_fits =
    All-cons (λ b. b < 256) (length (b ∷ bs)) (b ∷ bs) (omega arith) body_fits
All-after_header (b ∷ bs) (Some le) body_fits short le_fits =
    All-cons (λ b. b < 256) (length (b ∷ bs)) (b ∷ bs ++ le ∷ []) (omega arith)
    (All-append (λ b. b < 256) (b ∷ bs) (le ∷ []) body_fits
    (All-cons (λ b. b < 256) le [] (le_fits le refl) (All-nil (λ b. b < 256))))

-- Lc is a byte
pub length-fields : (body : List ℕ) (le : Option ℕ) → All (λ b. b < 256) (after_header body le) → length body ≤ 255
length-fields [] le octets = omega arith
length-fields (b ∷ bs) None octets =
    let lc = All-head (λ b. b < 256) (length (b ∷ bs)) (b ∷ bs) octets in omega (arith, lc)
length-fields (b ∷ bs) (Some le) octets =
    let lc = All-head (λ b. b < 256) (length (b ∷ bs)) (b ∷ bs ++ le ∷ []) octets in omega (arith, lc)

pub length-body : (c : Apdu) (bytes : List ℕ) → Short c bytes → length c.body ≤ 255
length-body c bytes s =
    let fields = after_header c.body c.le in
    let whole = subst (All (λ b. b < 256)) s.spelling s.octets in
    let from_ins = All-tail (λ b. b < 256) c.class (c.ins ∷ c.p1 ∷ c.p2 ∷ fields) whole in
    let from_p1 = All-tail (λ b. b < 256) c.ins (c.p1 ∷ c.p2 ∷ fields) from_ins in
    let from_p2 = All-tail (λ b. b < 256) c.p1 (c.p2 ∷ fields) from_p1 in
    length-fields c.body c.le (All-tail (λ b. b < 256) c.p2 fields from_p2)
