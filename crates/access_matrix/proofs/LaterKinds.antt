-- Acts of one kind after those of another.
use Rattle.std.proofs.Common.{◌≡◌, ◌≢◌, inl, inr, ℕ, ◌+◌, ◌<◌, ◌≤◌, List, [], ◌∷◌, Option, None, Some, ap, sym, subst, ◌∙◌, arith}
use Rattle.std.proofs.lemmas.Bool.Decides.{nat_tests}
use Rattle.std.specs.Prelude.{IfSome, IfNone}
use Rattle.std.specs.declared.cmp.Ordering.TheVariants.{Less, Greater}
use Rattle.card_types.specs.Aid.{aid_order}
use Rattle.card_types.specs.declared.tables.Tables.{Tables}
use Rattle.card_types.proofs.SameAid.{aid_same_equal}
use Rattle.access_matrix.specs.Deeds.{deed_of}
use Rattle.access_matrix.specs.Next.{HasPlace, HasPlaceFrom, HasSpot, IsNextByKey, NoneNext, deed_place, place_order, spot_of}
use Rattle.access_matrix.specs.Rights.{deed_kind}
use Rattle.access_matrix.specs.declared.act.Act.{Act}
use Rattle.access_matrix.specs.declared.deed.Deed.{Deed}
use Rattle.access_matrix.specs.declared.deed.Deed.TheVariants.{Delete}
use Rattle.access_matrix.proofs.Places.{lower_first, not_above_first, not_greater, same_first, which_part}

lower_kind : (k l : ℕ) → k < l → aid_order (k ∷ []) (l ∷ []) ≡ Less
lower_kind k l below = grind (arith, nat_tests)

is_lower_kind : (k l : ℕ) → aid_order (k ∷ []) (l ∷ []) ≡ Less → k < l
is_lower_kind k l less = grind (arith, nat_tests)

kind_not_above : (k l : ℕ) → k ≤ l → aid_order (k ∷ []) (l ∷ []) ≢ Greater
kind_not_above k l upto above = grind (arith, nat_tests)

one_kind : (k l : ℕ) → k ∷ [] ≡ l ∷ [] → k ≡ l
one_kind k l is = cc

pub kind_below : (deed : Deed) → deed_kind deed < 6
kind_below (Delete aid) = omega arith
kind_below _ = omega arith

module _ (tables : Tables) where
  kind_is : (k : ℕ) (act : Act) (spot : List (List ℕ)) → HasSpot tables k act spot → deed_kind (deed_of tables act) ≡ k
  kind_is k act spot has = (let is = has.1 in cc)

  of_kind : (k : ℕ) (act : Act) (place : List (List ℕ)) → HasPlace tables act place → k ∷ [] ≡ deed_kind (deed_of tables act) ∷ []
      → HasSpot tables k act (spot_of (deed_of tables act))
  of_kind k act place has same = (has.0, ap (λ (h : List ℕ). h ∷ spot_of (deed_of tables act)) (sym same))

  at_or_after : (k : ℕ) (act : Act) (place : List (List ℕ)) → HasPlaceFrom tables k act place → NoneNext (HasSpot tables k) place_order None
      → k + 1 ≤ deed_kind (deed_of tables act)
  at_or_after k act place has none =
      let deed = deed_of tables act in
      let from : k ≤ deed_kind deed = has.1 in
      let other : k ≡ deed_kind deed → 1 ≤ 0 = λ is.
      absurd (none act (spot_of deed) (of_kind k act place has.0 (ap (λ (n : ℕ). n ∷ []) is)) tt) in
      grind arith

  module _ (k : ℕ) where
    -- the first of a kind comes before those of later kinds
    pub first_of_kind : (act : Act) → IsNextByKey (HasSpot tables k) place_order None act → IsNextByKey (HasPlaceFrom tables k) place_order None act
    first_of_kind act next =
        let same = kind_is k act next.key next.has in
        record {
          key = (k ∷ []) ∷ next.key;
          has = (next.has, omega arith);
          past = tt;
          least = λ other another has past.
              (let deed = deed_of tables other in
              subst (λ (p : List (List ℕ)). place_order ((k ∷ []) ∷ next.key) p ≢ Greater) has.0.1
              (not_above_first (k ∷ []) (deed_kind deed ∷ []) next.key (spot_of deed) (kind_not_above k (deed_kind deed) has.1) (λ alike.
              next.least other (spot_of deed) (of_kind k other another has.0 alike) tt)));
        }

    -- where there is no act of a kind, the first of those of later kinds comes first
    module _ (none : NoneNext (HasSpot tables k) place_order None) (l : ℕ) (later : l ≡ k + 1) where
      pub first_of_later : (act : Act) → IsNextByKey (HasPlaceFrom tables l) place_order None act → IsNextByKey (HasPlaceFrom tables k) place_order None act
      first_of_later act next = record {
        key = next.key;
        has = (next.has.0, (let from = next.has.1 in omega arith));
        past = tt;
        least = λ other another has past. next.least other another (has.0, (let more = at_or_after k other another has none in omega arith)) tt;
      }

  module _ (last : Deed) where
    which : (act : Act) (place : List (List ℕ)) → HasPlace tables act place → place_order (deed_place last) place ≡ Less
        → place_order (deed_place last) (deed_place (deed_of tables act)) ≡ Less
    which act place has past = subst (λ (p : List (List ℕ)). place_order (deed_place last) p ≡ Less) (sym has.1) past

    -- the next act of the same kind comes first
    pub next_of_kind : (act : Act) → IsNextByKey (HasSpot tables (deed_kind last)) place_order (Some (spot_of last)) act
        → IsNextByKey (HasPlace tables) place_order (Some (deed_place last)) act
    next_of_kind act next = record {
      key = (deed_kind last ∷ []) ∷ next.key;
      has = next.has;
      past = same_first (deed_kind last ∷ []) (spot_of last) next.key ∙ next.past;
      least = λ other another has past.
          (let deed = deed_of tables other in
          subst (λ (p : List (List ℕ)). place_order ((deed_kind last ∷ []) ∷ next.key) p ≢ Greater) has.1
          (elim (which_part (deed_kind last ∷ []) (deed_kind deed ∷ []) (spot_of last) (spot_of deed) (which other another has past)) [
            | inl less ↦ not_above_first (deed_kind last ∷ []) (deed_kind deed ∷ []) next.key (spot_of deed) (not_greater _ less) (λ alike.
                (let tied = aid_same_equal (deed_kind last ∷ []) (deed_kind deed ∷ []) alike in let clash = sym tied ∙ less in absurd cc))
            | inr same ↦ not_above_first (deed_kind last ∷ []) (deed_kind deed ∷ []) next.key (spot_of deed)
                (kind_not_above (deed_kind last) (deed_kind deed) (let is = one_kind (deed_kind last) (deed_kind deed) same.0 in omega arith))
                (λ alike. next.least other (spot_of deed) (of_kind (deed_kind last) other another has same.0) same.1)
          ]));
    }

    -- acts of later kinds come where there is no next one of the same kind
    module _ (none : NoneNext (HasSpot tables (deed_kind last)) place_order (Some (spot_of last))) where
      later : (act : Act) (place : List (List ℕ)) → HasPlace tables act place → place_order (deed_place last) place ≡ Less
          → deed_kind last + 1 ≤ deed_kind (deed_of tables act)
      later act place has past =
          let deed = deed_of tables act in
          elim (which_part (deed_kind last ∷ []) (deed_kind deed ∷ []) (spot_of last) (spot_of deed) (which act place has past)) [
            | inl less ↦ (let below = is_lower_kind (deed_kind last) (deed_kind deed) less in omega arith)
            | inr same ↦ absurd (none act (spot_of deed) (of_kind (deed_kind last) act place has same.0) same.1)
          ]

      module _ (l : ℕ) (after : l ≡ deed_kind last + 1) where
        pub next_of_later : (act : Act) → IsNextByKey (HasPlaceFrom tables l) place_order None act → IsNextByKey (HasPlace tables) place_order (Some (deed_place last)) act
        next_of_later act next = record {
          key = next.key;
          has = next.has.0;
          past =
              (let deed = deed_of tables act in
              let more : l ≤ deed_kind deed = next.has.1 in
              subst (λ (p : List (List ℕ)). place_order (deed_place last) p ≡ Less) next.has.0.1
              (lower_first (deed_kind last ∷ []) (deed_kind deed ∷ []) (spot_of last) (spot_of deed) (lower_kind (deed_kind last) (deed_kind deed) (omega arith))));
          least = λ other another has past. next.least other another (has, (let more = later other another has past in omega arith)) tt;
        }

        pub none_of_later : NoneNext (HasPlaceFrom tables l) place_order None → NoneNext (HasPlace tables) place_order (Some (deed_place last))
        none_of_later none_more act place has past = none_more act place (has, (let more = later act place has past in omega arith)) tt

  -- from the first kind on there are all
  pub first_of_all : (act : Act) → IsNextByKey (HasPlaceFrom tables 0) place_order None act → IsNextByKey (HasPlace tables) place_order None act
  first_of_all act next = record {
    key = next.key;
    has = next.has.0;
    past = tt;
    least = λ other another has past. next.least other another (has, omega arith) tt;
  }

-- what is so of one that is found
pub if_some : {X : Type 0} (P Q : X → Type 0) (found : Option X) → ((x : X) → P x → Q x) → IfSome found P → IfSome found Q
if_some P Q None turn is = tt
if_some P Q (Some x) turn is = turn x is

pub if_none : {X : Type 0} (P Q : Type 0) (found : Option X) → (P → Q) → IfNone found P → IfNone found Q
if_none P Q None turn is = turn is
if_none P Q (Some x) turn is = tt
