-- How many things there are by names, and whether a slot is free.
use Rattle.std.proofs.Common.{◌≡◌, ◌≢◌, ℕ, zero, suc, ◌<◌, ◌≤◌, List, [], ◌∷◌, length, Option, None, Some, refl, ap, ◌∙◌, arith}
use Rattle.std.specs.Prelude.{IfNone, IsSome, map}
use Rattle.std.specs.List.Sorted.{IsPermutation}
use Rattle.std.proofs.lemmas.List.{length-map}
use Rattle.std.proofs.lemmas.List.Sorted.{length_permutation}
use Rattle.card_types.specs.Search.{NoneFree}
use Rattle.card_types.specs.Registry as registry
use Rattle.card_types.specs.Represents.{Represents, entry_of, file_of, key_of, object_of, things_in, thing_in}
use Rattle.card_types.specs.declared.tables.Tables.{Tables}

module _ {T : Type 0} where
  used_at_most : (slots : List (Option T)) → length (things_in slots) ≤ length slots
  used_at_most [] = omega arith
  used_at_most (None ∷ slots) = (let rest = used_at_most slots in omega arith)
  used_at_most (Some thing ∷ slots) = (let rest = used_at_most slots in omega arith)

  used_fewer : (slots : List (Option T)) (slot : ℕ) → slot < length slots → thing_in slots slot ≡ None → length (things_in slots) < length slots
  used_fewer [] slot within free = absurd (omega arith)
  used_fewer (None ∷ slots) slot within free = (let rest = used_at_most slots in omega arith)
  used_fewer (Some thing ∷ slots) zero within free = cc
  used_fewer (Some thing ∷ slots) (suc slot) within free = (let rest = used_fewer slots slot (omega arith) free in omega arith)

  -- where each slot holds something, there are as many things as slots
  used_all : (slots : List (Option T)) → ((slot : ℕ) → slot < length slots → thing_in slots slot ≢ None) → length (things_in slots) ≡ length slots
  used_all [] full = refl
  used_all (None ∷ slots) full = absurd (full 0 (omega arith) refl)
  used_all (Some thing ∷ slots) full = ap suc (used_all slots (λ slot within. full (suc slot) (omega arith)))

  -- where there are fewer things than slots, a search finds a free slot
  pub free_found : (slots : List (Option T)) (found : Option ℕ) → length (things_in slots) < length slots → IfNone found (NoneFree slots) → IsSome found
  free_found slots None fewer none = absurd (omega (arith, fewer, used_all slots none))
  free_found slots (Some slot) fewer none = refl

  counted : {X : Type 0} (view : T → X) (slots : List (Option T)) (shown : List X) → IsPermutation (map view (things_in slots)) shown → length shown ≡ length (things_in slots)
  counted view slots shown same = length_permutation _ shown same ∙ length-map (things_in slots) view

  -- there are fewer things than slots where one is free, and as many where none is
  pub room : {X : Type 0} (view : T → X) (slots : List (Option T)) (shown : List X) → IsPermutation (map view (things_in slots)) shown
      → (slot : ℕ) → slot < length slots → thing_in slots slot ≡ None → length shown < length slots
  room view slots shown same slot within free =
      let fewer = used_fewer slots slot within free in
      omega (arith, counted view slots shown same)

  pub no_room : {X : Type 0} (view : T → X) (slots : List (Option T)) (shown : List X) → IsPermutation (map view (things_in slots)) shown
      → ((slot : ℕ) → slot < length slots → thing_in slots slot ≢ None) → length shown ≡ length slots
  no_room view slots shown same full = counted view slots shown same ∙ used_all slots full

module _ (page : ℕ → List ℕ) (tables : Tables) (said : registry.Registry) (says : Represents page tables said) where
  pub entry_room : (slot : ℕ) → slot < length tables.entries.items → thing_in tables.entries.items slot ≡ None → length said.entries < length tables.entries.items
  entry_room slot within free = room (entry_of tables.entries.items tables.files.items) tables.entries.items said.entries says.entries slot within free

  pub no_entry_room : ((slot : ℕ) → slot < length tables.entries.items → thing_in tables.entries.items slot ≢ None) → length said.entries ≡ length tables.entries.items
  no_entry_room full = no_room (entry_of tables.entries.items tables.files.items) tables.entries.items said.entries says.entries full

  pub file_room : (slot : ℕ) → slot < length tables.files.items → thing_in tables.files.items slot ≡ None → length said.files < length tables.files.items
  file_room slot within free = room (file_of page tables.entries.items) tables.files.items said.files says.files slot within free

  pub no_file_room : ((slot : ℕ) → slot < length tables.files.items → thing_in tables.files.items slot ≢ None) → length said.files ≡ length tables.files.items
  no_file_room full = no_room (file_of page tables.entries.items) tables.files.items said.files says.files full

  pub key_room : (slot : ℕ) → slot < length tables.keys.items → thing_in tables.keys.items slot ≡ None → length said.keys < length tables.keys.items
  key_room slot within free = room (key_of tables.entries.items) tables.keys.items said.keys says.keys slot within free

  pub no_key_room : ((slot : ℕ) → slot < length tables.keys.items → thing_in tables.keys.items slot ≢ None) → length said.keys ≡ length tables.keys.items
  no_key_room full = no_room (key_of tables.entries.items) tables.keys.items said.keys says.keys full

  pub object_room : (slot : ℕ) → slot < length tables.objects.items → thing_in tables.objects.items slot ≡ None → length said.objects < length tables.objects.items
  object_room slot within free = room (object_of tables.entries.items) tables.objects.items said.objects says.objects slot within free

  pub no_object_room : ((slot : ℕ) → slot < length tables.objects.items → thing_in tables.objects.items slot ≢ None) → length said.objects ≡ length tables.objects.items
  no_object_room full = no_room (object_of tables.entries.items) tables.objects.items said.objects says.objects full
