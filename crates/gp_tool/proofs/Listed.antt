-- A list in strictly ascending order, and what of it stands past its things so far.
use Rattle.std.proofs.Common.{◌≡◌, ◌≢◌, ◌⊎◌, inl, inr, Bool, true, List, [], ◌∷◌, ◌++◌, Option, None, Some, refl, ap, sym, subst, ◌∙◌, arith, append_assoc}
use Rattle.std.specs.Prelude.{Contains, find}
use Rattle.std.specs.Cmp.{IsTotalOrder}
use Rattle.std.specs.List.Sorted.{IsStrictlySortedBy}
use Rattle.std.specs.Option.{option_or}
use Rattle.std.specs.Ordering.{is_lt}
use Rattle.std.specs.declared.cmp.Ordering.{Ordering}
use Rattle.std.specs.declared.cmp.Ordering.TheVariants.{Less, Equal, Greater}
use Rattle.std.proofs.lemmas.Cmp.{tied_itself}
use Rattle.std.proofs.lemmas.List.{append-nil}
use Rattle.std.proofs.lemmas.List.Folds.{find-append}
use Rattle.card_types.proofs.LeastOfList.{find_first, first_below, none_found, others_sorted}
use Rattle.card_types.proofs.Members.{contains_cases, contains_first, contains_later}
use Rattle.gp_tool.specs.Listing.{is_past_last}

-- the list is done up to the last one, and the rest is past it
pub record IsSplit {X : Type 0} (c : X → X → Ordering) (xs : List X) (last : Option X) (done rest : List X) : Type 0 where
  pub all : xs ≡ done ++ rest
  pub before : (y : X) → Contains done y → is_past_last c last y ≢ true
  pub sorted : IsStrictlySortedBy c rest
  pub past : (y : X) → Contains rest y → is_past_last c last y ≡ true

less_is : (o : Ordering) → is_lt o ≡ true → o ≡ Less
less_is Less is = refl
less_is Equal is = cc
less_is Greater is = cc

no_member : {X : Type 0} {P : Type 0} (y : X) → Contains [] y → P
no_member y (k, within, is) = absurd (omega arith)

-- where all fit, the first is found
found_first : {X : Type 0} (p : X → Bool) (rest : List X) (x : X) → ((y : X) → Contains rest y → p y ≡ true) → find p rest ≡ Some x
    → (more : List X) × (rest ≡ x ∷ more)
found_first p [] x fits found = cc
found_first p (y ∷ more) x fits found =
    let first = find_first p y more (fits y (contains_first y more)) in
    let same : y ≡ x = cc in
    (more, ap (λ z. z ∷ more) same)

found_none : {X : Type 0} (p : X → Bool) (rest : List X) → ((y : X) → Contains rest y → p y ≡ true) → find p rest ≡ None → rest ≡ []
found_none p [] fits found = refl
found_none p (y ∷ more) fits found = (let first = find_first p y more (fits y (contains_first y more)) in cc)

contains_pushed : {X : Type 0} (done : List X) (x y : X) → Contains (done ++ x ∷ []) y → Contains done y ⊎ (x ≡ y)
contains_pushed [] x y there = elim (contains_cases x [] y there) [ inl same ↦ inr same | inr none ↦ no_member y none ]
contains_pushed (d ∷ done) x y there = elim (contains_cases d (done ++ x ∷ []) y there) [
  | inl same ↦ inl (subst (Contains (d ∷ done)) same (contains_first d done))
  | inr later ↦ elim (contains_pushed done x y later) [
    | inl among ↦ inl (contains_later d done y among)
    | inr same ↦ inr same
  ]
]

module _ {X : Type 0} (c : X → X → Ordering) where
  pub none_done : (xs : List X) → IsStrictlySortedBy c xs → IsSplit c xs None [] xs
  none_done xs sorted = record { all = refl; before = λ y there. no_member y there; sorted = sorted; past = λ y there. refl }

  found_in_rest : (xs : List X) (last : Option X) (done rest : List X) → IsSplit c xs last done rest → find (is_past_last c last) xs ≡ find (is_past_last c last) rest
  found_in_rest xs last done rest split =
      ap (find (is_past_last c last)) split.all ∙ find-append (is_past_last c last) done rest
      ∙ ap (λ o. option_or o (find (is_past_last c last) rest)) (none_found (is_past_last c last) done split.before)

  pub end_of : (xs : List X) (last : Option X) (done rest : List X) → IsSplit c xs last done rest → find (is_past_last c last) xs ≡ None → xs ≡ done
  end_of xs last done rest split none =
      let empty = found_none (is_past_last c last) rest split.past (sym (found_in_rest xs last done rest split) ∙ none) in
      split.all ∙ ap (λ r. done ++ r) empty ∙ append-nil done

  module _ (total : IsTotalOrder c) where
    behind : (last : Option X) (x y : X) → is_past_last c last x ≡ true → is_past_last c last y ≢ true → is_past_last c (Some x) y ≢ true
    behind None x y past before below = before refl
    behind (Some last) x y past before below = before (ap is_lt (total.trans last x y (less_is (c last x) past) (less_is (c x y) below)))

    itself : (x : X) → is_past_last c (Some x) x ≢ true
    itself x past = (let tied = ap is_lt (tied_itself total x) in cc)

    pub next_of : (xs : List X) (last : Option X) (done rest : List X) → IsSplit c xs last done rest → (x : X) → find (is_past_last c last) xs ≡ Some x
        → (more : List X) × (rest ≡ x ∷ more) × IsSplit c xs (Some x) (done ++ x ∷ []) more
    next_of xs last done rest split x found =
        let first = found_first (is_past_last c last) rest x split.past (sym (found_in_rest xs last done rest split) ∙ found) in
        let sorted = subst (IsStrictlySortedBy c) first.1 split.sorted in
        let fits = split.past x (subst (λ r. Contains r x) (sym first.1) (contains_first x first.0)) in (
          first.0,
          first.1,
          record {
            all = split.all ∙ ap (λ r. done ++ r) first.1 ∙ sym (append_assoc done (x ∷ []) first.0);
            before = λ y there past. elim (contains_pushed done x y there) [
              | inl among ↦ behind last x y fits (split.before y among) past
              | inr same ↦ itself x (subst (λ z. is_past_last c (Some x) z ≡ true) (sym same) past)
            ];
            sorted = others_sorted c x first.0 sorted;
            past = λ y there. ap is_lt (first_below c x first.0 sorted y there);
          },
        )
