-- The next thing of a kind is the least of a part of the slots.
use Rattle.std.proofs.Common.{◌≡◌, ◌≢◌, ℕ, zero, suc, ◌+◌, ◌-◌, true, List, [], ◌∷◌, length, take, drop, Option, None, Some, refl, ap, sym, subst, ◌∙◌, add-one, arith}
use Rattle.std.specs.Option.{option_map}
use Rattle.std.specs.Ordering.{is_lt}
use Rattle.std.specs.declared.cmp.Ordering.{Ordering}
use Rattle.std.specs.declared.cmp.Ordering.TheVariants.{Less, Equal, Greater}
use Rattle.card_types.specs.Aid.{aid_order}
use Rattle.card_types.specs.Search.{is_above, IsLeast, NoneFits}
use Rattle.card_types.specs.Found.{IsAbove, IsNext, IsOf, NoneFollows, aid_of}
use Rattle.card_types.specs.Represents.{thing_in}
use Rattle.card_types.specs.declared.found.Found.{Found}
use Rattle.card_types.specs.declared.found.Found.TheVariants.{Entry, File}
use Rattle.card_types.specs.declared.found.Kind.{Kind}
use Rattle.card_types.specs.declared.found.Kind.TheVariants.{Issuer, Entries, Files}
use Rattle.card_types.specs.declared.tables.Tables.{Tables}

-- the part of the slots holds what is of the kind, each thing at its place
pub record HoldsKind {T : Type 0} (name : T → List ℕ) (tables : Tables) (kind : Kind) (part : List (Option T)) (place : ℕ → Found) : Type 0 where
  pub there : (slot : ℕ) (thing : T) → thing_in part slot ≡ Some thing → IsOf kind (place slot) × (aid_of tables (place slot) ≡ Some (name thing))
  pub back : (found : Found) (aid : List ℕ) → IsOf kind found → aid_of tables found ≡ Some aid
      → (slot : ℕ) × (thing : T) × (thing_in part slot ≡ Some thing) × (place slot ≡ found) × (name thing ≡ aid)

pub above_from : (after : Option (List ℕ)) (aid : List ℕ) → is_above after aid ≡ true → IsAbove after aid
above_from None aid is = tt
above_from (Some after) aid is = less (aid_order after aid) is
  where
    less : (o : Ordering) → is_lt o ≡ true → o ≡ Less
    less Less is = refl
    less Equal is = cc
    less Greater is = cc

pub to_above : (after : Option (List ℕ)) (aid : List ℕ) → IsAbove after aid → is_above after aid ≡ true
to_above None aid above = refl
to_above (Some after) aid above = ap is_lt above

module _ {T : Type 0} (name : T → List ℕ) (tables : Tables) (kind : Kind) (after : Option (List ℕ)) (part : List (Option T)) (place : ℕ → Found)
    (holds : HoldsKind name tables kind part place) where
  pub next_from_least : (slot : ℕ) (thing : T)
      → IsLeast (λ t. is_above after (name t)) (λ a b. aid_order (name a) (name b)) part slot thing → IsNext tables kind after (place slot)
  next_from_least slot thing is =
      let there = holds.there slot thing is.at in
      record {
        aid = name thing;
        follows = record { of = there.0; named = there.1; above = above_from after (name thing) is.fitting };
        least = λ other another follows.
            (let at = holds.back other another follows.of follows.named in
            let fits : is_above after (name at.1) ≡ true = ap (is_above after) at.4 ∙ to_above after another follows.above in
            subst (λ (aid : List ℕ). aid_order (name thing) aid ≢ Greater) at.4 (is.least at.0 at.1 at.2 fits));
      }

  pub none_follows : NoneFits (λ t. is_above after (name t)) part → NoneFollows tables kind after
  none_follows none found aid follows =
      let at = holds.back found aid follows.of follows.named in
      none at.0 at.1 at.2 (ap (is_above after) at.4 ∙ to_above after aid follows.above)

pub held_from_name : {T : Type 0} (name : T → List ℕ) (slots : List (Option T)) (slot : ℕ) (aid : List ℕ) → option_map name (thing_in slots slot) ≡ Some aid
    → (thing : T) × (thing_in slots slot ≡ Some thing) × (name thing ≡ aid)
held_from_name {T} name slots slot aid named = by (thing_in slots slot) refl named
  where
    by : (o : Option T) → thing_in slots slot ≡ o → option_map name o ≡ Some aid → (thing : T) × (thing_in slots slot ≡ Some thing) × (name thing ≡ aid)
    by None is named = cc
    by (Some thing) is named = (thing, is, cc)

first_held : {T : Type 0} (slots : List (Option T)) (slot : ℕ) (thing : T) → thing_in (take 1 slots) slot ≡ Some thing → (slot ≡ 0) × (thing_in slots slot ≡ Some thing)
first_held [] slot thing at = cc
first_held (s ∷ slots) zero thing at = (refl, at)
first_held (s ∷ slots) (suc slot) thing at = cc

to_first_held : {T : Type 0} (slots : List (Option T)) (thing : T) → thing_in slots 0 ≡ Some thing → thing_in (take 1 slots) 0 ≡ Some thing
to_first_held [] thing at = cc
to_first_held (s ∷ slots) thing at = at

take_length : {T : Type 0} (xs : List T) → take (length xs) xs ≡ xs
take_length [] = refl
take_length (x ∷ xs) = ap (λ rest. x ∷ rest) (take_length xs)

other_held : {T : Type 0} (slots : List (Option T)) (slot : ℕ) → thing_in (take (length slots - 1) (drop 1 slots)) slot ≡ thing_in slots (suc slot)
other_held [] slot = refl
other_held (s ∷ slots) slot =
    let long : length (s ∷ slots) - 1 ≡ length slots = omega arith in
    rw long (ap (λ list. thing_in list slot) (take_length slots))

-- the Issuer Security Domain is in the first slot, the other entries are in those after it
pub holds_issuer : (tables : Tables) → HoldsKind (λ entry. entry.aid) tables Issuer (take 1 tables.entries.items) Entry
holds_issuer tables = record {
  there = λ slot entry at.
      (let first = first_held tables.entries.items slot entry at in
      (first.0, ap (option_map (λ e. e.aid)) first.1));
  back = back;
}
  where
    back : (found : Found) (aid : List ℕ) → IsOf Issuer found → aid_of tables found ≡ Some aid
        → (slot : ℕ) × (entry : _) × (thing_in (take 1 tables.entries.items) slot ≡ Some entry) × (Entry slot ≡ found) × (entry.aid ≡ aid)
    back (Entry slot) aid of named =
        (let entry = held_from_name (λ entry. entry.aid) tables.entries.items slot aid named in
        (0, entry.0, to_first_held tables.entries.items entry.0 (subst (λ (s : ℕ). thing_in tables.entries.items s ≡ Some entry.0) of entry.1), ap Entry (sym of), entry.2))
    back (File slot) aid of named = absurd of

pub holds_entries : (tables : Tables)
    → HoldsKind (λ entry. entry.aid) tables Entries (take (length tables.entries.items - 1) (drop 1 tables.entries.items)) (λ slot. Entry (slot + 1))
holds_entries tables = record {
  there = λ slot entry at.
      (let up : thing_in tables.entries.items (slot + 1) ≡ Some entry = ap (thing_in tables.entries.items) (add-one slot) ∙ sym (other_held tables.entries.items slot) ∙ at in
      (omega arith, ap (option_map (λ e. e.aid)) up));
  back = back;
}
  where
    back : (found : Found) (aid : List ℕ) → IsOf Entries found → aid_of tables found ≡ Some aid
        → (slot : ℕ) × (entry : _) × (thing_in (take (length tables.entries.items - 1) (drop 1 tables.entries.items)) slot ≡ Some entry)
        × (Entry (slot + 1) ≡ found) × (entry.aid ≡ aid)
    back (Entry zero) aid of named = absurd (omega arith)
    back (Entry (suc slot)) aid of named =
        (let entry = held_from_name (λ entry. entry.aid) tables.entries.items (suc slot) aid named in
        (slot, entry.0, other_held tables.entries.items slot ∙ entry.1, ap Entry (add-one slot), entry.2))
    back (File slot) aid of named = absurd of

pub holds_files : (tables : Tables) → HoldsKind (λ file. file.aid) tables Files tables.files.items File
holds_files tables = record {
  there = λ slot file at. (tt, ap (option_map (λ f. f.aid)) at);
  back = back;
}
  where
    back : (found : Found) (aid : List ℕ) → IsOf Files found → aid_of tables found ≡ Some aid
        → (slot : ℕ) × (file : _) × (thing_in tables.files.items slot ≡ Some file) × (File slot ≡ found) × (file.aid ≡ aid)
    back (Entry slot) aid of named = absurd of
    back (File slot) aid of named =
        (let file = held_from_name (λ file. file.aid) tables.files.items slot aid named in
        (slot, file.0, file.1, refl, file.2))
