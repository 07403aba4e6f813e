-- Things with AIDs, in slots and in a list in ascending order of the AIDs.
use Rattle.std.proofs.Common.{◌≡◌, ℕ, Bool, true, List, Option, None, Some, refl, ap, sym, ◌∙◌}
use Rattle.std.specs.Prelude.{find, map}
use Rattle.std.specs.List.Sorted.{IsPermutation, IsStrictlySortedBy}
use Rattle.std.specs.Cmp.{IsTotalOrder}
use Rattle.std.specs.Ordering.{on}
use Rattle.std.proofs.lemmas.Cmp.{nat_list_cmp_total, on_total}
use Rattle.card_types.specs.Aid.{same_aid, aid_order}
use Rattle.card_types.specs.Search.{IsLeast, NoneFits}
use Rattle.card_types.specs.Represents.{things_in, thing_in}
use Rattle.card_types.proofs.LeastOfList.{sorted_by_name}
use Rattle.card_types.proofs.SameAid.{same_aid_decides, aid_same_itself, aid_same_equal}
use Rattle.card_types.proofs.Shows.{Shows, least_shown, none_shown, one_slot, only_shown, shows_used, slot_of_found}

module _ {T X : Type 0} (view : T → X) (aid : X → List ℕ) (slots : List (Option T)) (shown : List X)
    (same : IsPermutation (map view (things_in slots)) shown) (ascending : IsStrictlySortedBy aid_order (map aid shown)) where
  total : IsTotalOrder (on aid aid_order)
  total = on_total aid nat_list_cmp_total

  sorted : IsStrictlySortedBy (on aid aid_order) shown
  sorted = sorted_by_name aid_order aid shown ascending

  shows : Shows view (λ _. true) slots shown
  shows = shows_used view slots shown same

  pub aid_in_slot : (slot : ℕ) (thing : T) → thing_in slots slot ≡ Some thing
      → find (λ named. same_aid (aid named) (aid (view thing))) shown ≡ Some (view thing)
  aid_in_slot slot thing at =
      only_shown view (λ _. true) slots shown shows (on aid aid_order) total sorted
      (λ named. same_aid (aid named) (aid (view thing))) slot thing at refl (aid_same_itself (aid (view thing)))
      (λ other fit. aid_same_equal (aid (view thing)) (aid other) (sym ((same_aid_decides (aid other) (aid (view thing))).0 fit)))

  pub slot_of_aid : (name : List ℕ) (named : X) → find (λ named. same_aid (aid named) name) shown ≡ Some named
      → (slot : ℕ) × (thing : T) × (thing_in slots slot ≡ Some thing) × (view thing ≡ named) × (aid (view thing) ≡ name)
  slot_of_aid name named found =
      let at = slot_of_found view (λ _. true) slots shown shows (λ named. same_aid (aid named) name) named found in
      (at.0, at.1, at.2, at.4, ap aid at.4 ∙ (same_aid_decides (aid named) name).0 at.5)

  pub one_slot_of_aid : (a b : ℕ) (x y : T) → thing_in slots a ≡ Some x → thing_in slots b ≡ Some y → aid (view x) ≡ aid (view y) → a ≡ b
  one_slot_of_aid a b x y at_a at_b alike =
      one_slot view slots shown same (on aid aid_order) total sorted a b x y at_a at_b (aid_same_equal (aid (view x)) (aid (view y)) alike)

  pub least_aid : (p : X → Bool) (slot : ℕ) (thing : T)
      → IsLeast (λ thing. p (view thing)) (λ x y. aid_order (aid (view x)) (aid (view y))) slots slot thing → find p shown ≡ Some (view thing)
  least_aid p slot thing is =
      least_shown view (λ _. true) slots shown shows (on aid aid_order) total sorted p slot thing
      (record { at = is.at; fitting = is.fitting; least = is.least })

  pub no_aid : (p : X → Bool) → NoneFits (λ thing. p (view thing)) slots → find p shown ≡ None
  no_aid p none = none_shown view (λ _. true) slots shown shows p none
