-- Commands of class 80, as words spell them.
use Rattle.std.proofs.Common.{◌≡◌, ◌≤◌, ◌<◌, ℕ, List, [], ◌∷◌, ◌++◌, length, Option, Some, None, Ok, subst, ap, arith, length-append, slice_index}
use Rattle.std.specs.Prelude.{All, MatchOption}
use Rattle.std.proofs.lemmas.List.Elements.{All-head, All-tail}
use Rattle.hex.specs.Hex.{decode_of}
use Rattle.hex.proofs.HexLemmas.{decode_of-same}
use Rattle.apdu_core.specs.Apdu.{Apdu, Short, after_header}
use Rattle.script_lines.specs.Send.{IsPlain, SpellsPlain}
use Rattle.script_lines.specs.declared.plain.Plain.{Plain}

abbrev IsByte : ℕ → Type 0
IsByte b = b < 256

after_len : (body : List ℕ) (le : Option ℕ) → All IsByte (after_header body le) → length (after_header body le) ≤ 257
after_len [] None octets = omega arith
after_len [] (Some le) octets = omega arith
after_len (b ∷ bs) None octets =
    let short = All-head IsByte (length (b ∷ bs)) (b ∷ bs) octets in omega (arith, short)
after_len (b ∷ bs) (Some le) octets =
    let short = All-head IsByte (length (b ∷ bs)) (b ∷ bs ++ le ∷ []) octets in
    let len = length-append (b ∷ bs) (le ∷ []) in omega (arith, short, len)

-- a short command has at most 261 bytes
pub short_len : (c : Apdu) (bytes : List ℕ) → Short c bytes → (1 ≤ length bytes) × (length bytes ≤ 261)
short_len c bytes h =
    let after = after_header c.body c.le in
    let all : All IsByte (c.class ∷ c.ins ∷ c.p1 ∷ c.p2 ∷ after) = subst (All IsByte) h.spelling h.octets in
    let rest = All-tail IsByte c.p2 after (All-tail IsByte c.p1 (c.p2 ∷ after) (All-tail IsByte c.ins (c.p1 ∷ c.p2 ∷ after) (All-tail IsByte c.class (c.ins ∷ c.p1 ∷ c.p2 ∷ after) all))) in
    let len = after_len c.body c.le rest in
    let whole : length bytes ≡ length (c.class ∷ c.ins ∷ c.p1 ∷ c.p2 ∷ after) = ap (λ l. length l) h.spelling in
    (omega (arith, whole), omega (arith, whole, len))

-- its first byte is the class
pub class_first : (c : Apdu) (bytes : List ℕ) → Short c bytes → slice_index bytes 0 ≡ c.class
class_first c bytes h = ap (λ l. slice_index l 0) h.spelling

pub through : {X : Type 0} (word bytes : List ℕ) (plain : Plain) (r : Option X) → decode_of word ≡ Ok bytes
    → MatchOption r ((value : Plain) → IsPlain bytes value → ⊥) (λ _. IsPlain bytes plain)
    → MatchOption r ((value : Plain) → SpellsPlain word value → ⊥) (λ _. SpellsPlain word plain)
unfolding SpellsPlain
through word bytes plain (Some x) decoded is = (bytes, decoded, is)
through word bytes plain None decoded refused = λ value h. refused value (subst (λ b. IsPlain b value) (decode_of-same word h.0 bytes h.1 decoded) h.2)
