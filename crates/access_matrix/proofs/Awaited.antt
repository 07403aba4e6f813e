-- The candidate that comes next, where those before it may not be done.
use Rattle.std.proofs.Common.{◌≡◌, ◌≢◌, ℕ, zero, suc, ◌<◌, List, [], ◌∷◌, Option, None, Some, refl, ap, sym, subst, ◌∙◌, arith}
use Rattle.std.specs.Prelude.{IfNone, IfSome}
use Rattle.std.specs.declared.cmp.Ordering.{Ordering}
use Rattle.std.specs.declared.cmp.Ordering.TheVariants.{Less, Equal, Greater}
use Rattle.card_types.specs.Aid.{aid_order}
use Rattle.card_types.specs.Registry.{Registry}
use Rattle.card_types.specs.declared.tables.Tables.{Tables}
use Rattle.card_types.proofs.NotAbove.{then_equal}
use Rattle.card_types.proofs.SameAid.{aid_equal_same}
use Rattle.access_matrix.specs.May.{May}
use Rattle.access_matrix.specs.Next.{Allows, HasAllowed, HasCandidate, IsCandidate, IsNextByKey, IsPast, NoneNext, deed_place, place_order, right_of}
use Rattle.access_matrix.specs.Rights.{right_key}
use Rattle.access_matrix.specs.declared.candidate.Candidate.{Candidate}
use Rattle.access_matrix.specs.declared.deed.Deed.{Deed}
use Rattle.access_matrix.specs.declared.deed.Deed.TheVariants.{Delete, Related, Lock, Move, Install, Load}
use Rattle.access_matrix.specs.declared.deed.Right.{Right}
use Rattle.access_matrix.proofs.Counted.{fewer_left, place_total, turns_left}

pub same_place : (a b : List (List ℕ)) → place_order a b ≡ Equal → a ≡ b
same_place [] [] is = refl
same_place [] (y ∷ b) is = absurd cc
same_place (x ∷ a) [] is = absurd cc
same_place (x ∷ a) (y ∷ b) is =
    let parts = then_equal (aid_order x y) (place_order a b) is in
    λ i. aid_equal_same x y parts.0 i ∷ same_place a b parts.1 i

-- a deed by its place
deed_at : List (List ℕ) → Deed
deed_at ((zero ∷ []) ∷ thing ∷ goal ∷ []) = Delete thing
deed_at ((suc zero ∷ []) ∷ thing ∷ goal ∷ []) = Related thing
deed_at ((suc (suc zero) ∷ []) ∷ thing ∷ goal ∷ []) = Lock thing
deed_at ((suc (suc (suc zero)) ∷ []) ∷ thing ∷ goal ∷ []) = Move thing goal
deed_at ((suc (suc (suc (suc zero))) ∷ []) ∷ thing ∷ goal ∷ []) = Install thing
deed_at place = Load

at_place : (deed : Deed) → deed_at (deed_place deed) ≡ deed
unfolding deed_at
at_place (Delete aid) = refl
at_place _ = refl

pub same_deed : (a b : Deed) → deed_place a ≡ deed_place b → a ≡ b
same_deed a b is = sym (at_place a) ∙ ap deed_at is ∙ at_place b

first_part : List (List ℕ) → List ℕ
first_part [] = []
first_part (x ∷ xs) = x

other_parts : List (List ℕ) → List (List ℕ)
other_parts [] = []
other_parts (x ∷ xs) = xs

pub domain_at : (a b : Right) → right_key a ≡ right_key b → a.domain ≡ b.domain
unfolding first_part
domain_at a b is = ap first_part is

pub deed_there : (a b : Right) → right_key a ≡ right_key b → a.deed ≡ b.deed
unfolding other_parts
deed_there a b is = same_deed a.deed b.deed (ap other_parts is)

module _ (tables : Tables) (last : Option (List (List ℕ))) where
  -- where the next candidate stands
  abbrev pub Stands : Option Candidate → Type 0
  Stands None = Unit {0}
  Stands (Some c) = IsCandidate tables c × IsPast place_order last (right_key (right_of tables c))

  -- what may be done past the last right is not before it
  abbrev pub Awaits : Registry → Option Candidate → Type 0
  Awaits said None = NoneNext (HasAllowed said tables) place_order last
  Awaits said (Some c) = (other : Candidate) (place : List (List ℕ)) → HasAllowed said tables other place → IsPast place_order last place
      → place_order (right_key (right_of tables c)) place ≢ Greater

  pub stands_first : (next : Option Candidate) → IfSome next (IsNextByKey (HasCandidate tables) place_order last) → Stands next
  stands_first None is = tt
  stands_first (Some c) is = (is.has.0, subst (IsPast place_order last) (sym is.has.1) is.past)

  pub awaits_first : (said : Registry) (next : Option Candidate) → IfSome next (IsNextByKey (HasCandidate tables) place_order last)
      → IfNone next (NoneNext (HasCandidate tables) place_order last) → Awaits said next
  awaits_first said None some none = λ other place allowed past. none other place allowed.0 past
  awaits_first said (Some c) some none = λ other place allowed past.
      subst (λ (p : List (List ℕ)). place_order p place ≢ Greater) (sym some.has.1) (some.least other place allowed.0 past)

  -- the candidate that may be done is the next
  pub allowed_next : (said : Registry) (c : Candidate) → Stands (Some c) → Awaits said (Some c) → Allows said tables c
      → IsNextByKey (HasAllowed said tables) place_order last c
  allowed_next said c stands awaits allows = record {
    key = right_key (right_of tables c);
    has = ((stands.0, refl), allows);
    past = stands.1;
    least = awaits;
  }

  module _ (c : Candidate) (stands : Stands (Some c)) where
    further : (place : List (List ℕ)) → place_order (right_key (right_of tables c)) place ≡ Less → IsPast place_order last place
    further place after = by last stands.1
      where
        by : (l : Option (List (List ℕ))) → IsPast place_order l (right_key (right_of tables c)) → IsPast place_order l place
        by None past = tt
        by (Some l) past = place_total.trans l (right_key (right_of tables c)) place past after

    pub stands_after : (next : Option Candidate) → IfSome next (IsNextByKey (HasCandidate tables) place_order (Some (right_key (right_of tables c)))) → Stands next
    stands_after None is = tt
    stands_after (Some n) is = (is.has.0, further (right_key (right_of tables n)) (subst (λ (p : List (List ℕ)). place_order (right_key (right_of tables c)) p ≡ Less) (sym is.has.1) is.past))

    -- what may be done comes after a candidate that may not
    comes_after : (said : Registry) → Awaits said (Some c) → (Allows said tables c → ⊥) → (other : Candidate) (place : List (List ℕ))
        → HasAllowed said tables other place → IsPast place_order last place → place_order (right_key (right_of tables c)) place ≡ Less
    comes_after said awaits refused other place allowed past = by (place_order (right_key (right_of tables c)) place) refl
      where
        by : (o : Ordering) → place_order (right_key (right_of tables c)) place ≡ o → place_order (right_key (right_of tables c)) place ≡ Less
        by Less is = is
        by Equal is =
            (let same : right_key (right_of tables other) ≡ right_key (right_of tables c)
            = allowed.0.1 ∙ sym (same_place (right_key (right_of tables c)) place is) in
            let domain = domain_at (right_of tables other) (right_of tables c) same in
            let deed = deed_there (right_of tables other) (right_of tables c) same in
            absurd (refused (subst (λ (d : List ℕ). May said d (right_of tables c).deed) domain
            (subst (λ (d : Deed). May said (right_of tables other).domain d) deed allowed.1))))
        by Greater is = absurd (awaits other place allowed past is)

    pub awaits_after : (said : Registry) → Awaits said (Some c) → (Allows said tables c → ⊥) → (next : Option Candidate)
        → IfSome next (IsNextByKey (HasCandidate tables) place_order (Some (right_key (right_of tables c))))
        → IfNone next (NoneNext (HasCandidate tables) place_order (Some (right_key (right_of tables c)))) → Awaits said next
    awaits_after said awaits refused None some none = λ other place allowed past.
        none other place allowed.0 (comes_after said awaits refused other place allowed past)
    awaits_after said awaits refused (Some n) some none = λ other place allowed past.
        subst (λ (p : List (List ℕ)). place_order p place ≢ Greater) (sym some.has.1)
        (some.least other place allowed.0 (comes_after said awaits refused other place allowed past))

pub fewer_turns : (tables : Tables) (c : Candidate) (next : Option Candidate)
    → IfSome next (IsNextByKey (HasCandidate tables) place_order (Some (right_key (right_of tables c)))) → turns_left tables next < turns_left tables (Some c)
fewer_turns tables c None is = omega arith
fewer_turns tables c (Some n) is =
    let less = fewer_left tables (Some (right_of tables c)) n is.has.0
    (subst (λ (p : List (List ℕ)). place_order (right_key (right_of tables c)) p ≡ Less) (sym is.has.1) is.past) in
    omega arith
