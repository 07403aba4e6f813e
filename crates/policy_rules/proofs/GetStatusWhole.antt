-- The parts of a listing: what was shown one after the other, and what is left, are all that is to be shown.
use Rattle.std.proofs.Common.{◌≡◌, ◌⊎◌, inl, inr, ℕ, List, [], ◌∷◌, ◌++◌, Option, None, Some, refl, ap, sym, subst, ◌∙◌, arith, append_assoc}
use Rattle.std.specs.Prelude.{Contains, MatchOption, map}
use Rattle.std.specs.List.Sorted.{IsStrictlySortedBy}
use Rattle.std.specs.Ordering.{on, ordering_reverse}
use Rattle.std.specs.declared.cmp.Ordering.{Ordering}
use Rattle.std.specs.declared.cmp.Ordering.TheVariants.{Less, Equal, Greater}
use Rattle.std.proofs.lemmas.Cmp.{nat_list_cmp_total}
use Rattle.card_types.proofs.LeastOfList.{first_below, names_sorted, others_sorted, sorted_by_name}
use Rattle.card_types.proofs.Members.{contains_cases, contains_first, contains_later}
use Rattle.card_types.proofs.NotAbove.{not_above_self}
use Rattle.policy_rules.specs.Prelude.{Admitted, BeginsAbove, IsAbove, IsAscending, IsListed, IsListing, IsNextListed, IsSearch, IsToBeShown, NoneListed, NotAbove, Thing, Well, acting, aid_in, aid_order, last_aid}
use Rattle.card_types.specs.declared.found.Found.{Found}
use Rattle.card_types.specs.declared.tables.Tables.{Tables}
use Rattle.policy_rules.proofs.GetStatusJudging.{one_beginning, one_search}
use Rattle.policy_rules.proofs.GetStatusListing.{first_of_sorted, listed_in_order, sorted_none, sorted_one}

-- below what is below a third, or at it
below_third : (a b c : List ℕ) → NotAbove a b → aid_order b c ≡ Less → aid_order a c ≡ Less
below_third a b c under below = by (aid_order a b) refl
  where
    by : (o : Ordering) → aid_order a b ≡ o → aid_order a c ≡ Less
    by Less is = nat_list_cmp_total.trans a b c is below
    by Equal is = nat_list_cmp_total.congr a b c is ∙ below
    by Greater is = absurd (under is)

above_further : (after : Option (List ℕ)) (a b : List ℕ) → IsAbove after a → aid_order a b ≡ Less → IsAbove after b
above_further None a b above below = tt
above_further (Some after) a b above below = nat_list_cmp_total.trans after a b above below

in_either : (xs ys : List Thing) (z : Thing) → Contains (xs ++ ys) z → Contains xs z ⊎ Contains ys z
in_either [] ys z there = inr there
in_either (x ∷ xs) ys z there = elim (contains_cases x (xs ++ ys) z there) [
  | inl same ↦ inl (subst (Contains (x ∷ xs)) same (contains_first x xs))
  | inr later ↦ elim (in_either xs ys z later) [
    | inl here ↦ inl (contains_later x xs z here)
    | inr behind ↦ inr behind
  ]
]

in_front : (xs ys : List Thing) (z : Thing) → Contains xs z → Contains (xs ++ ys) z
in_front [] ys z there = absurd (omega (arith, there.1))
in_front (x ∷ xs) ys z there = elim (contains_cases x xs z there) [
  | inl same ↦ subst (Contains (x ∷ xs ++ ys)) same (contains_first x (xs ++ ys))
  | inr later ↦ contains_later x (xs ++ ys) z (in_front xs ys z later)
]

in_back : (xs ys : List Thing) (z : Thing) → Contains ys z → Contains (xs ++ ys) z
in_back [] ys z there = there
in_back (x ∷ xs) ys z there = contains_later x (xs ++ ys) z (in_back xs ys z there)

joined_sorted : (xs ys : List Thing) → IsStrictlySortedBy (on aid_in aid_order) xs → IsStrictlySortedBy (on aid_in aid_order) ys
    → ((x y : Thing) → Contains xs x → Contains ys y → aid_order (aid_in x) (aid_in y) ≡ Less) → IsStrictlySortedBy (on aid_in aid_order) (xs ++ ys)
joined_sorted [] ys first second below = second
joined_sorted (x ∷ xs) ys first second below =
    first_of_sorted (on aid_in aid_order) x (xs ++ ys)
    (λ y there. elim (in_either xs ys y there) [
      | inl here ↦ first_below (on aid_in aid_order) x xs first y here
      | inr behind ↦ below x y (contains_first x xs) behind
    ])
    (joined_sorted xs ys (others_sorted (on aid_in aid_order) x xs first) second (λ z y there behind. below z y (contains_later x xs z there) behind))

-- two that tie are one
one_of_sorted : (xs : List Thing) → IsStrictlySortedBy (on aid_in aid_order) xs → (a b : Thing) → Contains xs a → Contains xs b → aid_order (aid_in a) (aid_in b) ≡ Equal → a ≡ b
one_of_sorted [] sorted a b in_a in_b tied = absurd (omega (arith, in_a.1))
one_of_sorted (x ∷ xs) sorted a b in_a in_b tied = elim (contains_cases x xs a in_a) [
  | inl first ↦ elim (contains_cases x xs b in_b) [
    | inl second ↦ sym first ∙ second
    | inr later ↦
        (let below = subst (λ (t : Thing). aid_order (aid_in t) (aid_in b) ≡ Less) first (first_below (on aid_in aid_order) x xs sorted b later) in
        let clash = sym below ∙ tied in cc)
  ]
  | inr later ↦ elim (contains_cases x xs b in_b) [
    | inl second ↦
        (let below = subst (λ (t : Thing). aid_order (aid_in t) (aid_in a) ≡ Less) second (first_below (on aid_in aid_order) x xs sorted a later) in
        let turned = nat_list_cmp_total.antisymm (aid_in b) (aid_in a) ∙ ap ordering_reverse tied in
        let clash = sym below ∙ turned in cc)
    | inr also ↦ one_of_sorted xs (others_sorted (on aid_in aid_order) x xs sorted) a b later also tied
  ]
]

pub last_of : (aid : List ℕ) (xs : List Thing) (thing : Thing) → last_aid aid (xs ++ thing ∷ []) ≡ aid_in thing
last_of aid [] thing = refl
last_of aid (x ∷ xs) thing = last_of (aid_in x) xs thing

module _ (admitted : Admitted) (well : Well admitted.at.registry) (ascending : IsAscending admitted.at.registry) (p1 : ℕ) (partial : List ℕ) (after : Option (List ℕ)) where
  abbrev IsOne : Option (List ℕ) → Thing → Type 0
  IsOne beginning thing = IsListed admitted.at.registry (acting admitted) p1 partial beginning thing

  -- two that are listed and have one AID are one
  one_thing : (a b : Thing) → IsOne after a → IsOne after b → aid_order (aid_in a) (aid_in b) ≡ Equal → a ≡ b
  one_thing a b first second tied =
      let all = listed_in_order admitted.at.registry well ascending (acting admitted) p1 partial after in
      one_of_sorted all.0 (sorted_by_name aid_order aid_in all.0 all.1) a b ((all.2 a).1 first) ((all.2 b).1 second) tied

  -- these things were shown, and the listing goes on above the AID
  pub record IsShownTo (shown : List Thing) (at : Option (List ℕ)) : Type 0 where
    pub ascending_ : IsStrictlySortedBy aid_order (map aid_in shown)
    pub each : (thing : Thing) → Contains shown thing → IsListed admitted.at.registry (acting admitted) p1 partial after thing
    pub within : (thing : Thing) → Contains shown thing → MatchOption at ⊥ (NotAbove (aid_in thing))
    pub past : (aid : List ℕ) → IsAbove at aid → IsAbove after aid
    pub others : (thing : Thing) → IsListed admitted.at.registry (acting admitted) p1 partial after thing → Contains shown thing ⊎ IsAbove at (aid_in thing)

  -- nothing was shown yet
  pub none_shown : IsShownTo [] after
  none_shown = record {
    ascending_ = names_sorted aid_order aid_in [] (sorted_none (on aid_in aid_order));
    each = λ thing there. absurd (omega (arith, there.1));
    within = λ thing there. absurd (omega (arith, there.1));
    past = λ aid above. above;
    others = λ thing listed. inr listed.above;
  }

  module _ (shown : List Thing) (at : Option (List ℕ)) (so : IsShownTo shown at) where
    -- what was shown is below what is listed further on
    shown_below : (x : Thing) (aid : List ℕ) → Contains shown x → IsAbove at aid → aid_order (aid_in x) aid ≡ Less
    shown_below x aid there above = by at (so.within x there) above
      where
        by : (o : Option (List ℕ)) → MatchOption o ⊥ (NotAbove (aid_in x)) → IsAbove o aid → aid_order (aid_in x) aid ≡ Less
        by None within above = absurd within
        by (Some last) within above = below_third (aid_in x) last aid within above

    further : (thing : Thing) → IsOne at thing → IsOne after thing
    further thing is = record { there = is.there; kind = is.kind; begins = is.begins; above = so.past (aid_in thing) is.above; seen = is.seen }

    back : (thing : Thing) → IsOne after thing → IsAbove at (aid_in thing) → IsOne at thing
    back thing is above = record { there = is.there; kind = is.kind; begins = is.begins; above = above; seen = is.seen }

    by_order : IsStrictlySortedBy (on aid_in aid_order) shown
    by_order = sorted_by_name aid_order aid_in shown so.ascending_

    -- the next was shown too
    pub more_shown : (page : ℕ → List ℕ) (tables : Tables) (found : Found) (next : IsNextListed page tables admitted p1 partial at found)
        → IsShownTo (shown ++ next.thing ∷ []) (Some (aid_in next.thing))
    more_shown page tables found next = record {
      ascending_ = names_sorted aid_order aid_in (shown ++ next.thing ∷ [])
          (joined_sorted shown (next.thing ∷ []) by_order (sorted_one (on aid_in aid_order) next.thing) (λ x y there here.
          (let same = only y here in subst (λ (t : Thing). aid_order (aid_in x) (aid_in t) ≡ Less) same (shown_below x (aid_in next.thing) there next.listed.above))));
      each = λ thing there. elim (in_either shown (next.thing ∷ []) thing there) [
        | inl here ↦ so.each thing here
        | inr last ↦ subst (IsOne after) (only thing last) (further next.thing next.listed)
      ];
      within = λ thing there. elim (in_either shown (next.thing ∷ []) thing there) [
        | inl here ↦ (λ above. (let below = shown_below thing (aid_in next.thing) here next.listed.above in let clash = sym below ∙ above in cc))
        | inr last ↦ subst (λ (t : Thing). NotAbove (aid_in t) (aid_in next.thing)) (only thing last) (not_above_self nat_list_cmp_total (aid_in next.thing))
      ];
      past = λ aid above. so.past aid (above_further at (aid_in next.thing) aid next.listed.above above);
      others = λ thing listed. elim (so.others thing listed) [
        | inl here ↦ inl (in_front shown (next.thing ∷ []) thing here)
        | inr above ↦ by thing listed (next.least thing (back thing listed above)) (aid_order (aid_in next.thing) (aid_in thing)) refl
      ];
    }
      where
        only : (y : Thing) → Contains (next.thing ∷ []) y → next.thing ≡ y
        only y there = elim (contains_cases next.thing [] y there) [
          | inl same ↦ same
          | inr later ↦ absurd (omega (arith, later.1))
        ]

        by : (thing : Thing) → IsOne after thing → NotAbove (aid_in next.thing) (aid_in thing) → (o : Ordering) → aid_order (aid_in next.thing) (aid_in thing) ≡ o
            → Contains (shown ++ next.thing ∷ []) thing ⊎ IsAbove (Some (aid_in next.thing)) (aid_in thing)
        by thing listed under Less is = inr is
        by thing listed under Equal is =
            inl (in_back shown (next.thing ∷ []) thing (subst (Contains (next.thing ∷ [])) (one_thing next.thing thing (further next.thing next.listed) listed is) (contains_first next.thing [])))
        by thing listed under Greater is = absurd (under is)

    -- with what is listed further on it is the whole
    module _ (same : p1 ≡ admitted.command.p1) (search : IsSearch admitted.command.body partial) (begins : BeginsAbove admitted after) where
      shown_of : (thing : Thing) → IsOne after thing → IsToBeShown admitted thing
      shown_of thing is =
          (partial, after, search, begins, subst (λ (p : ℕ). IsListed admitted.at.registry (acting admitted) p partial after thing) same is)

      of_shown : (thing : Thing) → IsToBeShown admitted thing → IsOne after thing
      of_shown thing (other, beginning, asks, above, listed) =
          let kinds = subst (λ (p : ℕ). IsListed admitted.at.registry (acting admitted) p other beginning thing) (sym same) listed in
          let asked = subst (λ (p : List ℕ). IsListed admitted.at.registry (acting admitted) p1 p beginning thing)
          (one_search admitted.command.body other partial asks search) kinds in
          subst (λ (b : Option (List ℕ)). IsOne b thing) (one_beginning admitted beginning after above begins) asked

      whole : (left : List Thing) → IsStrictlySortedBy aid_order (map aid_in left) → ((thing : Thing) → Contains left thing → IsOne at thing)
          → ((thing : Thing) → IsOne at thing → Contains left thing) → IsListing admitted (shown ++ left)
      whole left sorted to from = record {
        ascending = names_sorted aid_order aid_in (shown ++ left)
            (joined_sorted shown left by_order (sorted_by_name aid_order aid_in left sorted)
            (λ x y there behind. shown_below x (aid_in y) there (to y behind).above));
        all = λ thing. (
          λ there. elim (in_either shown left thing there) [
            | inl here ↦ shown_of thing (so.each thing here)
            | inr behind ↦ shown_of thing (further thing (to thing behind))
          ],
          λ is. (let listed = of_shown thing is in
              elim (so.others thing listed) [
                | inl here ↦ in_front shown left thing here
                | inr above ↦ in_back shown left thing (from thing (back thing listed above))
              ]),
        );
      }

      -- there is always such a list
      pub with_rest : (left : List Thing) × IsListing admitted (shown ++ left)
      with_rest =
          let rest = listed_in_order admitted.at.registry well ascending (acting admitted) p1 partial at in
          (rest.0, whole rest.0 rest.1 (λ thing there. (rest.2 thing).0 there) (λ thing is. (rest.2 thing).1 is))

      -- where nothing is listed further on, all was shown
      pub all_shown : NoneListed admitted p1 partial at → IsListing admitted (shown ++ [])
      all_shown none =
          whole [] (names_sorted aid_order aid_in [] (sorted_none (on aid_in aid_order))) (λ thing there. absurd (omega (arith, there.1))) (λ thing is. absurd (none thing is))

-- where something is listed further on, the next is the first of what is left
pub next_left : (admitted : Admitted) (well : Well admitted.at.registry) (ascending : IsAscending admitted.at.registry) (p1 : ℕ) (partial : List ℕ) (after : Option (List ℕ))
    → (shown : List Thing) (at : Option (List ℕ)) (so : IsShownTo admitted well ascending p1 partial after shown at) → p1 ≡ admitted.command.p1
    → IsSearch admitted.command.body partial → BeginsAbove admitted after → (page : ℕ → List ℕ) (tables : Tables) (found : Found)
    → (next : IsNextListed page tables admitted p1 partial at found) → (rest : List Thing) × IsListing admitted (shown ++ next.thing ∷ rest)
next_left admitted well ascending p1 partial after shown at so same search begins page tables found next =
    let later = with_rest admitted well ascending p1 partial after (shown ++ next.thing ∷ []) (Some (aid_in next.thing))
    (more_shown admitted well ascending p1 partial after shown at so page tables found next) same search begins in
    let joined : (shown ++ next.thing ∷ []) ++ later.0 ≡ shown ++ next.thing ∷ later.0 = simp append_assoc in
    (later.0, subst (IsListing admitted) joined later.1)
