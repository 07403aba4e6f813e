-- The least thing, slot by slot.
use Rattle.std.proofs.Common.{◌≡◌, ◌≢◌, ◌⊎◌, inl, inr, ℕ, ◌+◌, ◌<◌, ◌≤◌, Bool, true, false, List, length, Option, None, Some, refl, ap, subst, ◌∙◌, arith}
use Rattle.std.specs.Cmp.{IsTotalOrder}
use Rattle.std.specs.Ordering.{is_lt}
use Rattle.std.specs.declared.cmp.Ordering.{Ordering}
use Rattle.std.specs.declared.cmp.Ordering.TheVariants.{Less, Equal, Greater}
use Rattle.std.proofs.lemmas.Bool.{and_parts}
use Rattle.std.proofs.lemmas.List.{get_or_past}
use Rattle.std.proofs.Math.Nat.{eq-or-lt_of_le}
use Rattle.card_types.specs.Search.{IsLeast, NoneFits, is_nearer}
use Rattle.card_types.specs.Represents.{thing_in}
use Rattle.card_types.specs.declared.search.InSlot.{InSlot}
use Rattle.card_types.proofs.NotAbove.{not_above_self, not_above_third, not_below}

-- of the things in the first n slots that fit, the least
pub record IsLeastBefore {T : Type 0} (fits : T → Bool) (order : T → T → Ordering) (slots : List (Option T)) (n slot : ℕ) (thing : T) : Type 0 where
  pub at : thing_in slots slot ≡ Some thing
  pub fitting : fits thing ≡ true
  pub least : (other : ℕ) (another : T) → other < n → thing_in slots other ≡ Some another → fits another ≡ true → order thing another ≢ Greater

abbrev pub NoneBefore : {T : Type 0} → (T → Bool) → List (Option T) → ℕ → Type 0
NoneBefore {T} fits slots n = (slot : ℕ) (thing : T) → slot < n → thing_in slots slot ≡ Some thing → fits thing ≢ true

abbrev pub LeastBefore : {T : Type 0} → (T → Bool) → (T → T → Ordering) → List (Option T) → ℕ → Option (InSlot T) → Type 0
LeastBefore fits order slots n None = NoneBefore fits slots n
LeastBefore fits order slots n (Some found) = IsLeastBefore fits order slots n found.slot found.thing.now

-- one of the first n + 1 is one of the first n or the last of them
newest : (n slot : ℕ) → slot < n + 1 → (slot < n) ⊎ (slot ≡ n)
newest n slot within =
    let most : slot ≤ n = omega arith in
    elim (eq-or-lt_of_le most) [
      | inl same ↦ inr same
      | inr below ↦ inl below
    ]

-- a slot that holds something is not past the last
pub within_slots : {T : Type 0} (slots : List (Option T)) (slot : ℕ) (thing : T) → thing_in slots slot ≡ Some thing → slot < length slots
within_slots slots slot thing at =
    let past : length slots ≤ slot → 1 ≤ 0 = λ over. (let none = get_or_past slots slot None over in cc) in
    grind arith

module _ {T : Type 0} (fits : T → Bool) (order : T → T → Ordering) (slots : List (Option T)) where
  -- the least so far stays where what is newest does not fit or is not below
  stays : (n : ℕ) (least : Option (InSlot T)) → LeastBefore fits order slots n least
      → ((thing : T) → thing_in slots n ≡ Some thing → fits thing ≡ true → (found : InSlot T) × (least ≡ Some found) × (order found.thing.now thing ≢ Greater))
      → LeastBefore fits order slots (n + 1) least
  stays n None none last = λ slot thing within at fit.
      elim (newest n slot within) [
        | inl below ↦ none slot thing below at fit
        | inr same ↦ (let found = last thing (subst (λ (s : ℕ). thing_in slots s ≡ Some thing) same at) fit in (let clash = found.1 in cc))
      ]
  stays n (Some best) before last = record {
    at = before.at;
    fitting = before.fitting;
    least = λ other another within at fit.
        elim (newest n other within) [
          | inl below ↦ before.least other another below at fit
          | inr same ↦
              (let found = last another (subst (λ (s : ℕ). thing_in slots s ≡ Some another) same at) fit in
              let alike : found.0 ≡ best = (let is = found.1 in cc) in
              subst (λ (f : InSlot T). order f.thing.now another ≢ Greater) alike found.2)
        ];
  }

  pub free_stays : (n : ℕ) (least : Option (InSlot T)) → thing_in slots n ≡ None → LeastBefore fits order slots n least
      → LeastBefore fits order slots (n + 1) least
  free_stays n least free before = stays n least before (λ thing at fit. absurd cc)

  module _ (total : IsTotalOrder order) where
    -- the least so far stays where what is newest is not nearer
    pub not_nearer_stays : (n : ℕ) (least : Option (InSlot T)) (thing : T) → thing_in slots n ≡ Some thing → is_nearer fits order least thing ≡ false
        → LeastBefore fits order slots n least → LeastBefore fits order slots (n + 1) least
    not_nearer_stays n None thing at not_nearer before = stays n None before (λ other here fit.
        (let same : other ≡ thing = cc in
        let misfit : fits other ≡ false = ap fits same ∙ not_nearer in absurd cc))
    not_nearer_stays n (Some best) thing at not_nearer before = stays n (Some best) before (λ other here fit.
        (let same : thing ≡ other = cc in
        let fitting : fits thing ≡ true = ap fits same ∙ fit in
        let not_below_best : order thing best.thing.now ≡ Less → ⊥ = λ below. (let clash = rw (fitting, below) at not_nearer in cc) in
        (best, refl, subst (λ (t : T). order best.thing.now t ≢ Greater) same (not_below total thing best.thing.now not_below_best))))

    -- what is nearer is the least then
    pub nearer_takes : (n : ℕ) (least : Option (InSlot T)) (thing : T) → thing_in slots n ≡ Some thing → is_nearer fits order least thing ≡ true
        → LeastBefore fits order slots n least → IsLeastBefore fits order slots (n + 1) n thing
    nearer_takes n None thing at nearer before = record {
      at = at;
      fitting = nearer;
      least = λ other another within here fit.
          elim (newest n other within) [
            | inl below ↦ absurd (before other another below here fit)
            | inr same ↦
                (let alike : thing ≡ another = (let there = subst (λ (s : ℕ). thing_in slots s ≡ Some another) same here in cc) in
                subst (λ (t : T). order thing t ≢ Greater) alike (not_above_self total thing))
          ];
    }
    nearer_takes n (Some best) thing at nearer before = record {
      at = at;
      fitting = (and_parts (fits thing) (is_lt (order thing best.thing.now)) nearer).0;
      least = λ other another within here fit.
          elim (newest n other within) [
            | inl below ↦ not_above_third total thing best.thing.now another (less (order thing best.thing.now) (and_parts (fits thing) (is_lt (order thing best.thing.now)) nearer).1) (before.least other another below here fit)
            | inr same ↦
                (let alike : thing ≡ another = (let there = subst (λ (s : ℕ). thing_in slots s ≡ Some another) same here in cc) in
                subst (λ (t : T). order thing t ≢ Greater) alike (not_above_self total thing))
          ];
    }
      where
        less : (o : Ordering) → is_lt o ≡ true → o ≡ Less
        less Less is = refl
        less Equal is = cc
        less Greater is = cc

  -- after the last slot it is the least of all
  pub least_of_all : (n slot : ℕ) (thing : T) → length slots ≤ n → IsLeastBefore fits order slots n slot thing → IsLeast fits order slots slot thing
  least_of_all n slot thing past before = record {
    at = before.at;
    fitting = before.fitting;
    least = λ other another at fit. (let inside = within_slots slots other another at in before.least other another (omega arith) at fit);
  }

  pub none_of_all : (n : ℕ) → length slots ≤ n → NoneBefore fits slots n → NoneFits fits slots
  none_of_all n past none slot thing at = (let inside = within_slots slots slot thing at in none slot thing (omega arith) at)
