-- What comes next where places are in order part by part.
use Rattle.std.proofs.Common.{◌≡◌, ◌≢◌, ◌⊎◌, inl, inr, ℕ, List, [], ◌∷◌, Option, None, Some, refl, ap, sym, subst, ◌∙◌}
use Rattle.std.specs.Option.{option_map}
use Rattle.std.specs.Ordering.{ordering_then}
use Rattle.std.specs.declared.cmp.Ordering.{Ordering}
use Rattle.std.specs.declared.cmp.Ordering.TheVariants.{Less, Equal, Greater}
use Rattle.card_types.specs.Aid.{aid_order}
use Rattle.card_types.proofs.SameAid.{aid_equal_itself, aid_equal_same}
use Rattle.access_matrix.specs.Next.{IsNextByKey, IsPast, NoneNext, place_order}

pub not_greater : (o : Ordering) → o ≡ Less → o ≢ Greater
not_greater o less greater = cc

then_equal_right : (o : Ordering) → ordering_then o Equal ≡ o
then_equal_right Less = refl
then_equal_right _ = refl

-- a lower first part decides, and after the same one the rest does
pub lower_first : (a a' : List ℕ) (b b' : List (List ℕ)) → aid_order a a' ≡ Less → place_order (a ∷ b) (a' ∷ b') ≡ Less
lower_first a a' b b' less = ap (λ (o : Ordering). ordering_then o (place_order b b')) less

pub same_first : (a : List ℕ) (b b' : List (List ℕ)) → place_order (a ∷ b) (a ∷ b') ≡ place_order b b'
same_first a b b' = ap (λ (o : Ordering). ordering_then o (place_order b b')) (aid_equal_itself a)

then_less : (o p : Ordering) → ordering_then o p ≡ Less → (o ≡ Less) ⊎ ((o ≡ Equal) × (p ≡ Less))
then_less Less p is = inl refl
then_less Equal p is = inr (refl, is)
then_less Greater p is = absurd cc

pub which_part : (a a' : List ℕ) (b b' : List (List ℕ)) → place_order (a ∷ b) (a' ∷ b') ≡ Less
    → (aid_order a a' ≡ Less) ⊎ ((a ≡ a') × (place_order b b' ≡ Less))
which_part a a' b b' is = elim (then_less (aid_order a a') (place_order b b') is) [
  | inl less ↦ inl less
  | inr tied ↦ inr (aid_equal_same a a' tied.0, tied.1)
]

-- not above, part by part
pub not_above_first : (a a' : List ℕ) (b b' : List (List ℕ)) → aid_order a a' ≢ Greater → (a ≡ a' → place_order b b' ≢ Greater)
    → place_order (a ∷ b) (a' ∷ b') ≢ Greater
not_above_first a a' b b' first rest = by (aid_order a a') refl
  where
    by : (o : Ordering) → aid_order a a' ≡ o → place_order (a ∷ b) (a' ∷ b') ≢ Greater
    by Less is = not_greater (place_order (a ∷ b) (a' ∷ b')) (lower_first a a' b b' is)
    by Equal is = subst (λ (o : Ordering). ordering_then o (place_order b b') ≢ Greater) (sym is) (rest (aid_equal_same a a' is))
    by Greater is = absurd (first is)

-- a key of one part is in the order of AIDs
pub order_of_one : (a b : List ℕ) → place_order (a ∷ []) (b ∷ []) ≡ aid_order a b
order_of_one a b = then_equal_right (aid_order a b)

pub order_of_alone : (a b : List ℕ) → place_order (a ∷ [] ∷ []) (b ∷ [] ∷ []) ≡ aid_order a b
order_of_alone a b = then_equal_right (aid_order a b)

-- What is next by its AID is next by a place that has the AID alone.
module _ {X Z : Type 0} (Has : X → List ℕ → Type 0) (HasZ : Z → List (List ℕ) → Type 0) (place : List ℕ → List (List ℕ)) (wrap : X → Z)
    (alike : (a b : List ℕ) → place_order (place a) (place b) ≡ aid_order a b)
    (to : (x : X) (a : List ℕ) → Has x a → HasZ (wrap x) (place a))
    (back : (z : Z) (p : List (List ℕ)) → HasZ z p → (x : X) × (a : List ℕ) × Has x a × (p ≡ place a)) where
  to_past : (last : Option (List ℕ)) (a : List ℕ) → IsPast aid_order last a → IsPast place_order (option_map place last) (place a)
  to_past None a past = tt
  to_past (Some l) a past = alike l a ∙ past

  from_past : (last : Option (List ℕ)) (a : List ℕ) → IsPast place_order (option_map place last) (place a) → IsPast aid_order last a
  from_past None a past = tt
  from_past (Some l) a past = sym (alike l a) ∙ past

  pub wrapped_next : (last : Option (List ℕ)) (x : X) → IsNextByKey Has aid_order last x → IsNextByKey HasZ place_order (option_map place last) (wrap x)
  wrapped_next last x next = record {
    key = place next.key;
    has = to x next.key next.has;
    past = to_past last next.key next.past;
    least = λ other another has past.
        (let at = back other another has in
        let here = from_past last at.1 (subst (IsPast place_order (option_map place last)) at.3 past) in
        subst (λ (p : List (List ℕ)). place_order (place next.key) p ≢ Greater) (sym at.3)
        (subst (λ (o : Ordering). o ≢ Greater) (sym (alike next.key at.1)) (next.least at.0 at.1 at.2 here)));
  }

  pub none_wrapped : (last : Option (List ℕ)) → NoneNext Has aid_order last → NoneNext HasZ place_order (option_map place last)
  none_wrapped last none z p has past =
      let at = back z p has in
      none at.0 at.1 at.2 (from_past last at.1 (subst (IsPast place_order (option_map place last)) at.3 past))

-- Pairs are in the order of their first parts, then of their second ones.
pub record Paired {X Y : Type 0} (HasX : X → List ℕ → Type 0) (HasY : Y → List (List ℕ) → Type 0) (place : List (List ℕ)) : Type 0 where
  pub x : X
  pub a : List ℕ
  pub has_x : HasX x a
  pub y : Y
  pub b : List (List ℕ)
  pub has_y : HasY y b
  pub is : place ≡ a ∷ b

module _ {X Y Z : Type 0} (HasX : X → List ℕ → Type 0) (HasY : Y → List (List ℕ) → Type 0) (HasZ : Z → List (List ℕ) → Type 0) (pair : X → Y → Z)
    (to : (x : X) (a : List ℕ) → HasX x a → (y : Y) (b : List (List ℕ)) → HasY y b → HasZ (pair x y) (a ∷ b))
    (from : (z : Z) (p : List (List ℕ)) → HasZ z p → Paired HasX HasY p) where
  pub next_second : (x : X) (a : List ℕ) → HasX x a → (b : List (List ℕ)) (y : Y) → IsNextByKey HasY place_order (Some b) y
      → IsNextByKey HasZ place_order (Some (a ∷ b)) (pair x y)
  next_second x a has_x b y next = record {
    key = a ∷ next.key;
    has = to x a has_x y next.key next.has;
    past = same_first a b next.key ∙ next.past;
    least = λ other another has past.
        (let of = from other another has in
        let here : place_order (a ∷ b) (of.a ∷ of.b) ≡ Less = subst (λ (p : List (List ℕ)). place_order (a ∷ b) p ≡ Less) of.is past in
        subst (λ (p : List (List ℕ)). place_order (a ∷ next.key) p ≢ Greater) (sym of.is)
        (elim (which_part a of.a b of.b here) [
          | inl less ↦ not_greater (place_order (a ∷ next.key) (of.a ∷ of.b)) (lower_first a of.a next.key of.b less)
          | inr same ↦
              subst (λ (c : List ℕ). place_order (a ∷ next.key) (c ∷ of.b) ≢ Greater) same.0
              (subst (λ (o : Ordering). o ≢ Greater) (sym (same_first a next.key of.b)) (next.least of.y of.b of.has_y same.1))
        ]));
  }

  -- no pair is left with this first part
  abbrev pub NoneLeft : List ℕ → List (List ℕ) → Type 0
  NoneLeft a b = (x : X) → HasX x a → NoneNext HasY place_order (Some b)

  pub next_first : (a : List ℕ) (b : List (List ℕ)) → NoneLeft a b → (x : X) → IsNextByKey HasX aid_order (Some a) x → (y : Y) → IsNextByKey HasY place_order None y
      → IsNextByKey HasZ place_order (Some (a ∷ b)) (pair x y)
  next_first a b none x first y second = record {
    key = first.key ∷ second.key;
    has = to x first.key first.has y second.key second.has;
    past = lower_first a first.key b second.key first.past;
    least = λ other another has past.
        (let of = from other another has in
        let here : place_order (a ∷ b) (of.a ∷ of.b) ≡ Less = subst (λ (p : List (List ℕ)). place_order (a ∷ b) p ≡ Less) of.is past in
        subst (λ (p : List (List ℕ)). place_order (first.key ∷ second.key) p ≢ Greater) (sym of.is)
        (elim (which_part a of.a b of.b here) [
          | inl less ↦ not_above_first first.key of.a second.key of.b (first.least of.x of.a of.has_x less) (λ same. second.least of.y of.b of.has_y tt)
          | inr same ↦ absurd (none of.x (subst (HasX of.x) (sym same.0) of.has_x) of.y of.b of.has_y same.1)
        ]));
  }

  pub first_pair : (x : X) → IsNextByKey HasX aid_order None x → (y : Y) → IsNextByKey HasY place_order None y → IsNextByKey HasZ place_order None (pair x y)
  first_pair x first y second = record {
    key = first.key ∷ second.key;
    has = to x first.key first.has y second.key second.has;
    past = tt;
    least = λ other another has past.
        (let of = from other another has in
        subst (λ (p : List (List ℕ)). place_order (first.key ∷ second.key) p ≢ Greater) (sym of.is)
        (not_above_first first.key of.a second.key of.b (first.least of.x of.a of.has_x tt) (λ same. second.least of.y of.b of.has_y tt)));
  }

  pub none_first : (a : List ℕ) (b : List (List ℕ)) → NoneLeft a b → NoneNext HasX aid_order (Some a) → NoneNext HasZ place_order (Some (a ∷ b))
  none_first a b none none_x z p has past =
      let of = from z p has in
      let here : place_order (a ∷ b) (of.a ∷ of.b) ≡ Less = subst (λ (q : List (List ℕ)). place_order (a ∷ b) q ≡ Less) of.is past in
      elim (which_part a of.a b of.b here) [
        | inl less ↦ none_x of.x of.a of.has_x less
        | inr same ↦ none of.x (subst (HasX of.x) (sym same.0) of.has_x) of.y of.b of.has_y same.1
      ]
