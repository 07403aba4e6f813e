-- All that the security domains of a card may do, in order.
use Rattle.std.specs.Prelude.{◌≡◌, ◌≢◌, ◌↔◌, ℕ, List, [], ◌∷◌, Option, None, Some, Contains}
use Rattle.std.specs.Cmp.Lexicographic.{slice_cmp}
use Rattle.std.specs.List.Sorted.{IsStrictlySortedBy}
use Rattle.std.specs.Ordering.{nat_cmp, on}
use Rattle.std.specs.declared.cmp.Ordering.{Ordering}
use Rattle.std.specs.declared.cmp.Ordering.TheVariants.{Less, Greater}
use Rattle.card_types.specs.Registry.{Registry}
use Rattle.card_types.specs.Well.{IsDomainNamed}
use Rattle.access_matrix.specs.Deeds.{IsThere}
use Rattle.access_matrix.specs.May.{May}
use Rattle.access_matrix.specs.declared.deed.Deed.{Deed}
use Rattle.access_matrix.specs.declared.deed.Deed.TheVariants.{Delete, Related, Lock, Move, Install, Load}
use Rattle.access_matrix.specs.declared.deed.Right.{Right}

-- a security domain of the card may do this
pub record IsRight (registry : Registry) (right : Right) : Type 0 where
  pub domain : IsDomainNamed registry right.domain
  pub there : IsThere registry right.deed
  pub may : May registry right.domain right.deed

-- the kinds in their order
abbrev pub deed_kind : Deed → ℕ
deed_kind (Delete aid) = 0
deed_kind (Related file) = 1
deed_kind (Lock aid) = 2
deed_kind (Move aid domain) = 3
deed_kind (Install file) = 4
deed_kind Load = 5

-- what a deed is about, and the domain that it goes to
abbrev pub thing_of : Deed → List ℕ
thing_of (Delete aid) = aid
thing_of (Related file) = file
thing_of (Lock aid) = aid
thing_of (Move aid domain) = aid
thing_of (Install file) = file
thing_of Load = []

abbrev pub goal_of : Deed → List ℕ
goal_of (Move aid domain) = domain
goal_of deed = []

-- Rights are in the order of their domains, then of their kinds, things and new domains. AIDs are in byte order, a prefix first.
abbrev pub right_key : Right → List (List ℕ)
right_key right = right.domain ∷ (deed_kind right.deed ∷ []) ∷ thing_of right.deed ∷ goal_of right.deed ∷ []

abbrev pub right_order : Right → Right → Ordering
right_order = on right_key (slice_cmp (slice_cmp nat_cmp))

-- it comes after this one, if there is one
abbrev pub ComesAfter : Option Right → Right → Type 0
ComesAfter None right = Unit {0}
ComesAfter (Some last) right = right_order last right ≡ Less

-- the next right after this one, or the first
pub record IsNextRight (registry : Registry) (last : Option Right) (right : Right) : Type 0 where
  pub is : IsRight registry right
  pub after : ComesAfter last right
  pub least : (other : Right) → IsRight registry other → ComesAfter last other → right_order right other ≢ Greater

abbrev pub NoRightAfter : Registry → Option Right → Type 0
NoRightAfter registry last = (other : Right) → IsRight registry other → ComesAfter last other → ⊥

-- rights one after the other, each the next one, from the one after `last` up to `end`
abbrev pub AreNextRights : Registry → Option Right → List Right → Option Right → Type 0
AreNextRights registry last [] end = end ≡ last
AreNextRights registry last (right ∷ rights) end = IsNextRight registry last right × AreNextRights registry (Some right) rights end

-- all rights of a card, each once, in order
pub record AreRights (registry : Registry) (rights : List Right) : Type 0 where
  pub sorted : IsStrictlySortedBy right_order rights
  pub all : (right : Right) → Contains rights right ↔ IsRight registry right

-- those that follow one another from the first on, up to one after which there is none, are all
abbrev pub NextRightsAreAll : Type 0
NextRightsAreAll = (registry : Registry) (rights : List Right) (end : Option Right) → AreNextRights registry None rights end → NoRightAfter registry end → AreRights registry rights
