-- What a list of slots shows after a change of one slot.
use Rattle.std.proofs.Common.{true, false, ◌≡◌, inl, inr, ℕ, zero, suc, ◌+◌, ◌<◌, Bool, cond, List, [], ◌∷◌, length, Option, None, Some, refl, ap, sym, subst, ◌∙◌, arith}
use Rattle.std.specs.Prelude.{filter, map, slice_set}
use Rattle.std.specs.List.{cons_option, filter_map}
use Rattle.std.specs.Option.{option_map}
use Rattle.std.specs.List.Sorted.{IsPermutation}
use Rattle.std.proofs.lemmas.Bool.{cases_Bool, cases_eq}
use Rattle.std.proofs.lemmas.List.{get_or-set_other, get_or-set_same}
use Rattle.std.proofs.lemmas.List.Sorted.{IsPermutation-cons, IsPermutation-middle, IsPermutation-refl, IsPermutation-sym, IsPermutation-trans}
use Rattle.std.specs.Cmp.{IsTotalOrder}
use Rattle.std.specs.declared.cmp.Ordering.{Ordering}
use Rattle.card_types.proofs.AtMostOnce.{AtMostOnce, once_from_sorted, without_first}
use Rattle.card_types.specs.RegistryChange.{IsChanged}
use Rattle.card_types.specs.Represents.{things_in, thing_in}

-- what a slot shows: a view of what it holds, if that is kept
abbrev pub shown : {T X : Type 0} → (T → X) → (T → Bool) → Option T → Option X
shown view keep None = None
shown view keep (Some thing) = cond (keep thing) (Some (view thing)) None

all_kept : {T : Type 0} (things : List T) → filter (λ _. true) things ≡ things
all_kept [] = refl
all_kept (t ∷ things) = ap (λ rest. t ∷ rest) (all_kept things)

module _ {X : Type 0} where
  exchanged : (a b : Option X) (xs : List X) → IsPermutation (cons_option a (cons_option b xs)) (cons_option b (cons_option a xs))
  exchanged None b xs = IsPermutation-refl _
  exchanged (Some x) None xs = IsPermutation-refl _
  exchanged (Some x) (Some y) xs = IsPermutation-middle (x ∷ []) y xs

  with_first : (a : Option X) (xs ys : List X) → IsPermutation xs ys → IsPermutation (cons_option a xs) (cons_option a ys)
  with_first None xs ys same = same
  with_first (Some x) xs ys same = IsPermutation-cons x xs ys same

  without : (order : X → X → Ordering) (total : IsTotalOrder order) (a : Option X) (us vs : List X) → AtMostOnce order total vs
      → IsPermutation (cons_option a us) (cons_option a vs) → IsPermutation us vs
  without order total None us vs once same = same
  without order total (Some x) us vs once same = without_first order total x us vs once same

  -- with what the slot shows then, the list before is the list after with what the slot showed
  pub set_shown : {S : Type 0} (h : Option S → Option X) (slots : List (Option S)) (slot : ℕ) (new : Option S) → slot < length slots
      → IsPermutation (cons_option (h new) (filter_map h slots)) (cons_option (h (thing_in slots slot)) (filter_map h (slice_set slots slot new)))
  set_shown h [] slot new within = absurd (omega arith)
  set_shown h (s ∷ slots) zero new within = exchanged (h new) (h s) (filter_map h slots)
  set_shown h (s ∷ slots) (suc slot) new within =
      let rest = set_shown h slots slot new (omega arith) in
      IsPermutation-trans _ _ _ (exchanged (h new) (h s) (filter_map h slots))
      (IsPermutation-trans _ _ _ (with_first (h s) _ _ rest) (exchanged (h s) (h (thing_in slots slot)) (filter_map h (slice_set slots slot new))))

module _ {T X : Type 0} where
  pub shown_list : (view : T → X) (keep : T → Bool) (slots : List (Option T)) → map view (filter keep (things_in slots)) ≡ filter_map (shown view keep) slots
  shown_list view keep [] = refl
  shown_list view keep (None ∷ slots) = shown_list view keep slots
  shown_list view keep (Some thing ∷ slots) = elim (cases_Bool (keep thing)) [
    | inl kept ↦ rw kept (ap (λ rest. view thing ∷ rest) (shown_list view keep slots))
    | inr dropped ↦ rw dropped (shown_list view keep slots)
  ]

  shown_alike : (view view' : T → X) (keep : T → Bool) (slots : List (Option T)) → ((slot : ℕ) (thing : T) → thing_in slots slot ≡ Some thing → view' thing ≡ view thing)
      → filter_map (shown view' keep) slots ≡ filter_map (shown view keep) slots
  shown_alike view view' keep [] alike = refl
  shown_alike view view' keep (None ∷ slots) alike = shown_alike view view' keep slots (λ slot. alike (suc slot))
  shown_alike view view' keep (Some thing ∷ slots) alike =
      let rest = shown_alike view view' keep slots (λ slot. alike (suc slot)) in
      let first = alike 0 thing refl in
      rw (first, rest)

  -- the list that is shown after the change
  pub changed_slot : (view view' : T → X) (keep : T → Bool) (slots slots' : List (Option T)) (slot : ℕ) (new : Option T) (order : X → X → Ordering) (total : IsTotalOrder order) (before after : List X)
      → IsPermutation (map view (filter keep (things_in slots))) before → slot < length slots → slots' ≡ slice_set slots slot new
      → ((other : ℕ) (thing : T) → thing_in slots' other ≡ Some thing → view' thing ≡ view thing)
      → IsChanged order (shown view keep (thing_in slots slot)) (shown view keep new) before after
      → IsPermutation (map view' (filter keep (things_in slots'))) after
  changed_slot view view' keep slots slots' slot new order total before after shows within set alike changed =
      let h = shown view keep in
      let was : IsPermutation (filter_map h slots) before = subst (λ (xs : List X). IsPermutation xs before) (shown_list view keep slots) shows in
      let moved = IsPermutation-sym _ _ (set_shown h slots slot new within) in
      let whole : IsPermutation (cons_option (h (thing_in slots slot)) (filter_map h (slice_set slots slot new))) (cons_option (h (thing_in slots slot)) after) =
      IsPermutation-trans _ _ _ moved (IsPermutation-trans _ _ _ (with_first (h new) _ _ was) changed.same) in
      let rest : IsPermutation (filter_map h (slice_set slots slot new)) after =
      without order total (h (thing_in slots slot)) (filter_map h (slice_set slots slot new)) after (once_from_sorted order total after changed.ascending) whole in
      let long = shown_list view' keep slots' ∙ shown_alike view view' keep slots' alike ∙ ap (filter_map h) set in
      subst (λ (xs : List X). IsPermutation xs after) (sym long) rest

  -- the list that is shown where nothing changes
  pub same_slots : (view view' : T → X) (keep : T → Bool) (slots slots' : List (Option T)) (before : List X)
      → IsPermutation (map view (filter keep (things_in slots))) before → slots' ≡ slots
      → ((other : ℕ) (thing : T) → thing_in slots other ≡ Some thing → view' thing ≡ view thing)
      → IsPermutation (map view' (filter keep (things_in slots'))) before
  same_slots view view' keep slots slots' before shows same alike =
      let long = shown_list view' keep slots' ∙ ap (filter_map (shown view' keep)) same ∙ shown_alike view view' keep slots alike ∙ sym (shown_list view keep slots) in
      subst (λ (xs : List X). IsPermutation xs before) (sym long) shows

  shown_all : (view : T → X) (o : Option T) → shown view (λ _. true) o ≡ option_map view o
  shown_all view None = refl
  shown_all view (Some thing) = refl

  -- the list that is shown after the change, where all is kept
  pub changed_all : (view view' : T → X) (slots slots' : List (Option T)) (slot : ℕ) (new : Option T) (order : X → X → Ordering) (total : IsTotalOrder order) (before after : List X)
      → IsPermutation (map view (things_in slots)) before → slot < length slots → slots' ≡ slice_set slots slot new
      → ((other : ℕ) (thing : T) → thing_in slots' other ≡ Some thing → view' thing ≡ view thing)
      → IsChanged order (option_map view (thing_in slots slot)) (option_map view new) before after
      → IsPermutation (map view' (things_in slots')) after
  changed_all view view' slots slots' slot new order total before after shows within set alike changed =
      let kept = changed_slot view view' (λ _. true) slots slots' slot new order total before after (rw (all_kept (things_in slots)) shows) within set alike
      (rw (shown_all view (thing_in slots slot), shown_all view new) changed) in
      rw (all_kept (things_in slots')) at kept

  pub same_all : (view view' : T → X) (slots slots' : List (Option T)) (before : List X)
      → IsPermutation (map view (things_in slots)) before → slots' ≡ slots
      → ((other : ℕ) (thing : T) → thing_in slots other ≡ Some thing → view' thing ≡ view thing)
      → IsPermutation (map view' (things_in slots')) before
  same_all view view' slots slots' before shows same alike =
      let kept = same_slots view view' (λ _. true) slots slots' before (rw (all_kept (things_in slots)) shows) same alike in
      rw (all_kept (things_in slots')) at kept

-- what is so of the slots before one, after one turn: that slot is passed, or is freed
module _ {T : Type 0} (fits : Option T → Bool) (free : fits None ≡ false) (slots : List (Option T)) (slot : ℕ) (before : (k : ℕ) → k < slot → fits (thing_in slots k) ≡ false) where
  pub gone_more : fits (thing_in slots slot) ≡ false → (k : ℕ) → k < slot + 1 → fits (thing_in slots k) ≡ false
  gone_more here k lt = elim (cases_eq slot k) [
    | inl same ↦ subst (λ n. fits (thing_in slots n) ≡ false) same here
    | inr other ↦ before k (omega (arith, lt, other))
  ]

  pub gone_set : slot < length slots → (k : ℕ) → k < slot + 1 → fits (thing_in (slice_set slots slot None) k) ≡ false
  gone_set within k lt = elim (cases_eq k slot) [
    | inl same ↦ ap fits (ap (thing_in (slice_set slots slot None)) same ∙ get_or-set_same slots slot None None within) ∙ free
    | inr other ↦ ap fits (get_or-set_other slots slot k None None other) ∙ before k (omega (arith, lt, other))
  ]
