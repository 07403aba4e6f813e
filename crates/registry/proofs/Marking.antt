-- Slots of entries, one after the other, of which those of a tree get a lock mark.
use Rattle.std.proofs.Common.{◌≡◌, ◌≢◌, inl, inr, ℕ, ◌+◌, ◌<◌, Bool, List, length, Option, None, Some, refl, ap, sym, subst, ◌∙◌, arith}
use Rattle.std.specs.Prelude.{slice_set}
use Rattle.std.specs.Option.{option_map}
use Rattle.std.proofs.lemmas.Bool.{cases_eq}
use Rattle.std.proofs.lemmas.List.{get_or-set_other, get_or-set_same, length-set}
use Rattle.card_types.specs.Represents.{domain_slot, thing_in}
use Rattle.card_types.specs.declared.tables.Entry.{Entry}
use Rattle.card_types.proofs.DrawnCounter.{held_within}
use Rattle.rec_store.specs.Places.{entry_page}
use Rattle.registry.specs.Pages.{StagesChanged}
use Rattle.registry.specs.Tree.{IsSlotInTree, with_lock}
use Rattle.registry.proofs.Staging.{IsStaged}
use Rattle.registry.proofs.Tree.{used_in_tree}

-- The slots of the tree below the count have the mark, and all others hold what they held.
pub record IsMarked (start now : List (Option Entry)) (domain : ℕ) (locked : Bool) (count : ℕ) : Type 0 where
  pub long : length now ≡ length start
  pub steps : (slot : ℕ) → domain_slot now slot ≡ domain_slot start slot
  pub inside : (slot : ℕ) → slot < count → IsSlotInTree start domain slot → thing_in now slot ≡ option_map (with_lock locked) (thing_in start slot)
  pub outside : (slot : ℕ) → (slot < count → IsSlotInTree start domain slot → ⊥) → thing_in now slot ≡ thing_in start slot

pub none_marked : (start : List (Option Entry)) (domain : ℕ) (locked : Bool) → IsMarked start start domain locked 0
none_marked start domain locked = record {
  long = refl;
  steps = λ slot. refl;
  inside = λ slot low there. absurd (omega (arith, low));
  outside = λ slot not. refl;
}

module _ (start now : List (Option Entry)) (domain : ℕ) (locked : Bool) (slot : ℕ) (so_far : IsMarked start now domain locked slot) where
  untouched : thing_in now slot ≡ thing_in start slot
  untouched = so_far.outside slot (λ low there. omega (arith, low))

  -- a slot that is not of the tree is passed
  pub passed : (IsSlotInTree start domain slot → ⊥) → IsMarked start now domain locked (slot + 1)
  passed out = record {
    long = so_far.long;
    steps = so_far.steps;
    inside = λ k low there. elim (cases_eq k slot) [
      | inl same ↦ absurd (out (subst (IsSlotInTree start domain) same there))
      | inr other ↦ so_far.inside k (omega (arith, low, other)) there
    ];
    outside = λ k not. so_far.outside k (λ low there. not (omega (arith, low)) there);
  }

  module _ (after : List (Option Entry)) (set : after ≡ slice_set now slot (option_map (with_lock locked) (thing_in now slot))) (within : slot < length now) where
    here : thing_in after slot ≡ option_map (with_lock locked) (thing_in start slot)
    here = ap (λ (s : List (Option Entry)). thing_in s slot) set ∙ get_or-set_same now slot (option_map (with_lock locked) (thing_in now slot)) None within ∙ ap (option_map (with_lock locked)) untouched

    apart : (k : ℕ) → k ≢ slot → thing_in after k ≡ thing_in now k
    apart k other = ap (λ (s : List (Option Entry)). thing_in s k) set ∙ get_or-set_other now slot k (option_map (with_lock locked) (thing_in now slot)) None other

    step_here : (o : Option Entry) → option_map (λ (e : Entry). e.domain) (option_map (with_lock locked) o) ≡ option_map (λ e. e.domain) o
    step_here None = refl
    step_here (Some entry) = refl

    -- one of the tree gets the mark
    pub marked_too : IsSlotInTree start domain slot → IsMarked start after domain locked (slot + 1)
    marked_too of_tree = record {
      long = ap (λ (s : List (Option Entry)). length s) set ∙ length-set now slot _ ∙ so_far.long;
      steps = λ k. elim (cases_eq k slot) [
        | inl same ↦
            ap (domain_slot after) same ∙ ap (option_map (λ (e : Entry). e.domain)) here ∙ step_here (thing_in start slot) ∙ ap (domain_slot start) (sym same)
        | inr other ↦ ap (option_map (λ (e : Entry). e.domain)) (apart k other) ∙ so_far.steps k
      ];
      inside = λ k low there. elim (cases_eq k slot) [
        | inl same ↦ ap (thing_in after) same ∙ here ∙ ap (λ (n : ℕ). option_map (with_lock locked) (thing_in start n)) (sym same)
        | inr other ↦ apart k other ∙ so_far.inside k (omega (arith, low, other)) there
      ];
      outside = λ k not. elim (cases_eq k slot) [
        | inl same ↦ absurd (not (omega (arith, same)) (subst (IsSlotInTree start domain) (sym same) of_tree))
        | inr other ↦ apart k other ∙ so_far.outside k (λ low there. not (omega (arith, low)) there)
      ];
    }

    pub marked_staged : (before staged then : List ℕ) → IsStaged entry_page before staged start now slot → StagesChanged entry_page now after staged then
        → IsStaged entry_page before then start after (slot + 1)
    marked_staged before staged then each more page there = elim (more page there) [
      | inl old ↦ elim (each page old) [
        | inl older ↦ inl older
        | inr new ↦ inr (new.0, new.1, omega (arith, new.2), λ same. new.3 (sym (apart new.0 (λ is. omega (arith, is, new.2))) ∙ same))
      ]
      | inr new ↦ elim (cases_eq new.0 slot) [
        | inl same ↦ inr (new.0, new.1, omega (arith, same), λ alike. new.2 (alike ∙ ap (thing_in start) same ∙ sym untouched ∙ ap (thing_in now) (sym same)))
        | inr other ↦ absurd (new.2 (apart new.0 other))
      ]
    ]

-- all slots
module _ (start now : List (Option Entry)) (domain : ℕ) (locked : Bool) (count : ℕ) (marked : IsMarked start now domain locked count) (all : length start ≡ count) where
  pub all_inside : (slot : ℕ) (top : Entry) → thing_in start domain ≡ Some top → IsSlotInTree start domain slot → thing_in now slot ≡ option_map (with_lock locked) (thing_in start slot)
  all_inside slot top at there =
      let entry = used_in_tree start domain slot top at there in
      marked.inside slot (omega (arith, held_within start slot entry.0 entry.1, all)) there

  pub all_outside : (slot : ℕ) → (IsSlotInTree start domain slot → ⊥) → thing_in now slot ≡ thing_in start slot
  all_outside slot out = marked.outside slot (λ low there. out there)
