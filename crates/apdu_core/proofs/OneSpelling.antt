-- A command has one spelling, the spelling of one command is that of no other, and so for replies.
use Rattle.std.proofs.Common.{◌≡◌, ℕ, List, [], ◌∷◌, ◌++◌, ◌/◌, ◌%◌, length, Option, Some, None, refl, ap, sym, ◌∙◌, arith}
use Rattle.std.proofs.lemmas.List.{same_from_push, length_push}
use Rattle.std.proofs.Math.Seq.{append_snoc}
use Rattle.apdu_core.specs.Apdu.{after_header, OneCommand, OneSpelling}
use Rattle.apdu_core.specs.Reply.{status_bytes, OneReply}

-- what follows the header tells the body and Le
pub after_header-injective : (b e : List ℕ) (l m : Option ℕ)
    → after_header b l ≡ after_header e m → (b ≡ e) × (l ≡ m)
after_header-injective [] [] None None same = (refl, refl)
after_header-injective [] [] None (Some m) same = cc
after_header-injective [] [] (Some l) None same = cc
after_header-injective [] [] (Some l) (Some m) same = let le : l ≡ m = cc in (refl, ap Some le)
after_header-injective [] (e ∷ es) None None same = cc
after_header-injective [] (e ∷ es) None (Some m) same = cc
after_header-injective [] (e ∷ es) (Some l) None same = cc
after_header-injective [] (e ∷ es) (Some l) (Some m) same = cc
after_header-injective (b ∷ bs) [] None None same = cc
after_header-injective (b ∷ bs) [] None (Some m) same = cc
after_header-injective (b ∷ bs) [] (Some l) None same = cc
after_header-injective (b ∷ bs) [] (Some l) (Some m) same = cc
after_header-injective (b ∷ bs) (e ∷ es) None None same = let body : b ∷ bs ≡ e ∷ es = cc in (body, refl)
after_header-injective (b ∷ bs) (e ∷ es) None (Some m) same =
    let counts : length (b ∷ bs) ≡ length (e ∷ es) = cc in
    let bodies : b ∷ bs ≡ e ∷ es ++ m ∷ [] = cc in
    absurd (omega (arith, counts, ap length bodies, length_push (e ∷ es) m))
after_header-injective (b ∷ bs) (e ∷ es) (Some l) None same =
    let counts : length (b ∷ bs) ≡ length (e ∷ es) = cc in
    let bodies : b ∷ bs ++ l ∷ [] ≡ e ∷ es = cc in
    absurd (omega (arith, counts, ap length bodies, length_push (b ∷ bs) l))
after_header-injective (b ∷ bs) (e ∷ es) (Some l) (Some m) same =
    let tails : b ∷ bs ++ l ∷ [] ≡ e ∷ es ++ m ∷ [] = cc in
    let parts = same_from_push (b ∷ bs) (e ∷ es) l m tails in
    (parts.0, ap Some parts.1)

pub one_command : OneCommand
one_command c d bytes s t =
    let class : c.class ≡ d.class = cc in
    let ins : c.ins ≡ d.ins = cc in
    let p1 : c.p1 ≡ d.p1 = cc in
    let p2 : c.p2 ≡ d.p2 = cc in
    let fields : after_header c.body c.le ≡ after_header d.body d.le = cc in
    let parts = after_header-injective c.body d.body c.le d.le fields in
    λ i. record { class = class i; ins = ins i; p1 = p1 i; p2 = p2 i; body = parts.0 i; le = parts.1 i }

pub one_spelling : OneSpelling
one_spelling c bytes others s t = s.spelling ∙ sym t.spelling

-- a body and a status are told by what they are joined to
pub same_reply : (body other : List ℕ) (status another : ℕ) → body ++ status_bytes status ≡ other ++ status_bytes another
    → (body ≡ other) × (status ≡ another)
same_reply body other status another same =
    let joined =
    append_snoc body (status / 256) (status % 256 ∷ [])
    ∙ same ∙ sym (append_snoc other (another / 256) (another % 256 ∷ [])) in
    let low = same_from_push (body ++ status / 256 ∷ []) (other ++ another / 256 ∷ []) _ _ joined in
    let high = same_from_push body other _ _ low.0 in
    (high.0, omega (arith, high.1, low.1))

pub one_reply : OneReply
one_reply body other status another bytes s t = same_reply body other status another (sym s.spelling ∙ t.spelling)
