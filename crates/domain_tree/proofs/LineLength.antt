-- No line of slots is longer than the list of slots.
use Rattle.std.proofs.Common.{◌≡◌, inl, inr, ℕ, ◌≤◌, true, false, List, [], ◌∷◌, length, Option, eqb, sym, subst}
use Rattle.std.specs.Prelude.{Contains, All}
use Rattle.std.specs.List.{IsDistinct, list_any}
use Rattle.std.proofs.lemmas.Bool.{eqb-true, ne_eqb, or_cases}
use Rattle.std.proofs.lemmas.List.Elements.{All-contains_itself, All-weaker, recursion_from_All}
use Rattle.std.proofs.lemmas.Map.Steps.{length-le_from_distinct_below}
use Rattle.card_types.specs.Hierarchy.{IsLine}
use Rattle.card_types.specs.Represents.{domain_slot}
use Rattle.card_types.specs.declared.tables.Entry.{Entry}
use Rattle.card_types.proofs.Domains.{used_from_step}
use Rattle.card_types.proofs.LeastSoFar.{within_slots}
use Rattle.card_types.proofs.Lines.{line_steps}
use Rattle.domain_tree.proofs.Paths.{first_alone, line_of_member}
use Rattle.card_types.proofs.Members.{contains_first, contains_later}

all_other : (step : ℕ → Option ℕ) (from x : ℕ) (line : List ℕ) → IsLine step from (x ∷ line) → All (λ y. eqb x y ≡ false) line
all_other step from x line is =
    All-weaker (Contains line) (λ y. eqb x y ≡ false)
    (λ y there. ne_eqb x y (λ same. first_alone step from x line is (subst (Contains line) (sym same) there)))
    line (All-contains_itself line)

line_distinct : (step : ℕ → Option ℕ) (from : ℕ) (line : List ℕ) → IsLine step from line → IsDistinct eqb line
unfolding IsDistinct
line_distinct step from [] is = absurd is
line_distinct step from (x ∷ []) is = (tt, tt)
line_distinct step from (x ∷ y ∷ line) is =
    (recursion_from_All (λ z. eqb x z ≡ false) (y ∷ line) (all_other step from x (y ∷ line) is), line_distinct step y (y ∷ line) is.3)

among : (q : ℕ) (xs : List ℕ) → list_any (eqb q) xs ≡ true → Contains xs q
among q [] is = cc
among q (x ∷ xs) is = elim (or_cases (eqb q x) (list_any (eqb q) xs) is) [
  | inl same ↦ subst (Contains (x ∷ xs)) (sym (eqb-true q x same)) (contains_first x xs)
  | inr later ↦ contains_later x xs q (among q xs later)
]

pub line_length : (entries : List (Option Entry)) (from : ℕ) (line : List ℕ) → IsLine (domain_slot entries) from line → length line ≤ length entries
line_length entries from line is =
    length-le_from_distinct_below line (length entries) (line_distinct (domain_slot entries) from line is) (λ q found.
    (let member = line_of_member (domain_slot entries) from line q is (among q line found) in
    let steps = line_steps (domain_slot entries) q member.0 member.1 in
    let entry = used_from_step entries q steps.0 steps.1 in
    within_slots entries q entry.0 entry.1))
