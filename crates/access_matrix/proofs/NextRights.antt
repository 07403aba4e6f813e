-- Rights that follow one another from the first on, up to one after which there is none, are all.
use Rattle.std.proofs.Common.{◌≡◌, ◌⊎◌, inl, inr, List, [], ◌∷◌, Option, None, Some, refl, sym, subst, arith}
use Rattle.std.specs.Prelude.{Contains}
use Rattle.std.specs.List.{AllByRecursion}
use Rattle.std.specs.List.Sorted.{IsStrictlySortedBy}
use Rattle.std.specs.declared.cmp.Ordering.{Ordering}
use Rattle.std.specs.declared.cmp.Ordering.TheVariants.{Less, Equal, Greater}
use Rattle.card_types.specs.Registry.{Registry}
use Rattle.card_types.proofs.Members.{contains_cases, contains_first, contains_later}
use Rattle.access_matrix.specs.Rights.{AreNextRights, ComesAfter, IsNextRight, IsRight, NextRightsAreAll, NoRightAfter, right_key, right_order}
use Rattle.access_matrix.specs.declared.deed.Right.{Right}
use Rattle.access_matrix.proofs.Awaited.{deed_there, domain_at, same_place}
use Rattle.access_matrix.proofs.Counted.{place_total}

-- rights in the same place are the same
same_right : (a b : Right) → right_order a b ≡ Equal → a ≡ b
same_right a b is =
    let place = same_place (right_key a) (right_key b) is in
    λ i. record { domain = domain_at a b place i; deed = deed_there a b place i }

all_later : (next : Right) (rights : List Right) → ((right : Right) → Contains rights right → right_order next right ≡ Less)
    → AllByRecursion (λ right. right_order next right ≡ Less) rights
all_later next [] later = tt
all_later next (right ∷ rights) later =
    (later right (contains_first right rights), all_later next rights (λ other there. later other (contains_later right rights other there)))

module _ (registry : Registry) where
  earlier : (last : Option Right) (next right : Right) → ComesAfter last next → ComesAfter (Some next) right → ComesAfter last right
  earlier None next right first second = tt
  earlier (Some last) next right first second = place_total.trans (right_key last) (right_key next) (right_key right) first second

  -- each of them is a right after the last one
  each_follows : (last : Option Right) (rights : List Right) (end : Option Right) → AreNextRights registry last rights end → (right : Right)
      → Contains rights right → IsRight registry right × ComesAfter last right
  each_follows last [] end are right (k, within, is) = absurd (omega arith)
  each_follows last (next ∷ rights) end are right there = elim (contains_cases next rights right there) [
    | inl same ↦ subst (λ (r : Right). IsRight registry r × ComesAfter last r) same (are.0.is, are.0.after)
    | inr later ↦
        (let rest = each_follows (Some next) rights end are.1 right later in
        (rest.0, earlier last next right are.0.after rest.1))
  ]

  -- each right after the last one is the next, or comes after it
  next_or_later : (last : Option Right) (next right : Right) → IsNextRight registry last next → IsRight registry right → ComesAfter last right
      → (next ≡ right) ⊎ ComesAfter (Some next) right
  next_or_later last next right is there after = by (right_order next right) refl
    where
      by : (o : Ordering) → right_order next right ≡ o → (next ≡ right) ⊎ ComesAfter (Some next) right
      by Less less = inr less
      by Equal same = inl (same_right next right same)
      by Greater greater = absurd (is.least right there after greater)

  -- each right after the last one is one of the list
  each_is_there : (last : Option Right) (rights : List Right) (end : Option Right) → AreNextRights registry last rights end → NoRightAfter registry end
      → (right : Right) → IsRight registry right → ComesAfter last right → Contains rights right
  each_is_there last [] end are none right is after = absurd (none right is (subst (λ (o : Option Right). ComesAfter o right) (sym are) after))
  each_is_there last (next ∷ rights) end are none right is after = elim (next_or_later last next right are.0 is after) [
    | inl same ↦ subst (Contains (next ∷ rights)) same (contains_first next rights)
    | inr later ↦ contains_later next rights right (each_is_there (Some next) rights end are.1 none right is later)
  ]

  follow_in_order : (last : Option Right) (rights : List Right) (end : Option Right) → AreNextRights registry last rights end
      → IsStrictlySortedBy right_order rights
  unfolding IsStrictlySortedBy
  follow_in_order last [] end are = tt
  follow_in_order last (next ∷ rights) end are = (
    all_later next rights (λ right there. (let follows = each_follows (Some next) rights end are.1 right there in follows.1)),
    follow_in_order (Some next) rights end are.1,
  )

pub next_rights_are_all : NextRightsAreAll
next_rights_are_all registry rights end are none = record {
  sorted = follow_in_order registry None rights end are;
  all = λ right. (
    λ there. (let follows = each_follows registry None rights end are right there in follows.0),
    λ is. each_is_there registry None rights end are none right is tt,
  );
}
