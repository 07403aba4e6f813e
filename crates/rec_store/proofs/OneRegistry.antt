-- Store pages and load pages hold at most one registry.
use Rattle.std.proofs.Common.{◌≡◌, inl, inr, ℕ, suc, ◌<◌, List, [], ◌∷◌, length, Option, None, Some, refl, ap, sym, ◌∙◌, subst, arith}
use Rattle.std.specs.Prelude.{All, IfSome, MatchOption, nat_eq, take, map, filter, unwrap_or}
use Rattle.std.specs.List.{IsDistinct, concat}
use Rattle.std.specs.List.Sorted.{IsPermutation, IsStrictlySortedBy}
use Rattle.std.specs.Cmp.{IsTotalOrder}
use Rattle.std.specs.Option.{option_map}
use Rattle.std.specs.Ordering.{on}
use Rattle.std.specs.declared.cmp.Ordering.{Ordering}
use Rattle.std.proofs.lemmas.Cmp.{nat_list_cmp_total, on_total}
use Rattle.std.proofs.lemmas.Bool.{cases_lt}
use Rattle.std.proofs.lemmas.List.{get_or_past}
use Rattle.std.proofs.lemmas.Nat.{and_le_r}
use Rattle.std.proofs.lemmas.List.Elements.{All-contains}
use Rattle.std.proofs.lemmas.List.Sorted.{IsPermutation-sym, IsPermutation-trans}
use Rattle.card_check.specs.IsCard.{IsCard, IsCardOf, IsInLoadPages, pages_named}
use Rattle.card_types.proofs.ChangeExists.{one_order}
use Rattle.card_types.proofs.KeyNames.{counter_order_total, key_order_total}
use Rattle.card_types.proofs.LeastOfList.{sorted_by_name}
use Rattle.card_types.proofs.ObjectNames.{object_order_total}
use Rattle.card_types.proofs.Shows.{shows_used}
use Rattle.card_types.specs.Aid.{aid_order}
use Rattle.card_types.specs.Registry.{counter_order, key_order, object_order}
use Rattle.card_types.specs.Represents.{HasIssuer, Represents, counter_of, domain_aid, entry_of, file_aid, file_of, keeps_counter, key_of, object_of, things_in, thing_in}
use Rattle.card_types.specs.Privileges.{bits_of, named_bits}
use Rattle.card_types.specs.Registry as registry
use Rattle.card_types.specs.Well.{IsWellEntry}
use Rattle.card_types.specs.declared.factory.TheConstants.{FACTORY_FILE}
use Rattle.card_types.specs.declared.limits.TheConstants.{KEYS}
use Rattle.card_types.specs.declared.tables.Entry.{Entry}
use Rattle.card_types.specs.declared.tables.KeyRec.{KeyRec}
use Rattle.card_types.specs.declared.tables.LoadFile.{LoadFile}
use Rattle.card_types.specs.declared.tables.Tables.{Tables}
use Rattle.page_journal.specs.Pages.{IsLoadPage}
use Rattle.rec_store.specs.EntrySlot.{HasThreeBytes}
use Rattle.rec_store.specs.Reopens.{HoldsRegistry}
use Rattle.rec_store.specs.KeySlot.{HoldsKey}
use Rattle.rec_store.specs.Places.{entry_slot, file_slot, key_slot, object_slot}
use Rattle.rec_store.specs.StoredTables.{AreHeld, HoldsTables}
use Rattle.rec_store.specs.declared.store_layout.Layout.{Layout}
use Rattle.rec_store.proofs.Roomy.{of_all, of_slot}
use Rattle.rec_store.proofs.OneThing.{AreThreeBytes, AreSameFiles, SameFile, one_card_life, one_entry, one_file, one_key, one_object}

module _ {T : Type 0} where
  pub same_slots : (xs ys : List (Option T)) → length xs ≡ length ys → ((i : ℕ) → i < length xs → thing_in xs i ≡ thing_in ys i) → xs ≡ ys
  same_slots [] [] count each = refl
  same_slots [] (y ∷ ys) count each = absurd (omega (arith, count))
  same_slots (x ∷ xs) [] count each = absurd (omega (arith, count))
  same_slots (x ∷ xs) (y ∷ ys) count each =
      let first : x ≡ y = each 0 (omega arith) in
      let rest = same_slots xs ys (omega (arith, count)) (λ i lt. each (suc i) (omega (arith, lt))) in
      cc

  pub same_views : {X : Type 0} (view : T → X) (xs ys : List (Option T)) → length xs ≡ length ys → ((i : ℕ) → i < length xs → option_map view (thing_in xs i) ≡ option_map view (thing_in ys i)) → map view (things_in xs) ≡ map view (things_in ys)
  same_views view [] [] count each = refl
  same_views view [] (y ∷ ys) count each = absurd (omega (arith, count))
  same_views view (x ∷ xs) [] count each = absurd (omega (arith, count))
  same_views view (x ∷ xs) (y ∷ ys) count each = by_first x y (each 0 (omega arith)) (same_views view xs ys (omega (arith, count)) (λ i lt. each (suc i) (omega (arith, lt))))
    where
      by_first : (a b : Option T) → option_map view a ≡ option_map view b → map view (things_in xs) ≡ map view (things_in ys) → map view (things_in (a ∷ xs)) ≡ map view (things_in (b ∷ ys))
      by_first None None same rest = rest
      by_first None (Some b) same rest = absurd (cc same)
      by_first (Some a) None same rest = absurd (cc same)
      by_first (Some a) (Some b) same rest = let head : view a ≡ view b = cc same in cc

  pub same_map : {X : Type 0} (f g : T → X) → ((x : T) → f x ≡ g x) → (xs : List T) → map f xs ≡ map g xs
  same_map f g each [] = refl
  same_map f g each (x ∷ xs) = let first = each x in let rest = same_map f g each xs in cc

-- two lists in one order that have the same members as a third are one
one_list : {X : Type 0} (order : X → X → Ordering) → IsTotalOrder order → (all xs ys : List X) → IsPermutation all xs → IsPermutation all ys → IsStrictlySortedBy order xs → IsStrictlySortedBy order ys → xs ≡ ys
one_list order total all xs ys first second sorted also = one_order order total xs ys sorted also (IsPermutation-trans xs all ys (IsPermutation-sym all xs first) second)

-- two such lists are one where they are in order of a name
one_named_list : {X : Type 0} (name : X → List ℕ) (all xs ys : List X) → IsPermutation all xs → IsPermutation all ys → IsStrictlySortedBy aid_order (map name xs) → IsStrictlySortedBy aid_order (map name ys) → xs ≡ ys
one_named_list name all xs ys first second sorted also =
    one_list (on name aid_order) (on_total name nat_list_cmp_total) all xs ys first second (sorted_by_name aid_order name xs sorted) (sorted_by_name aid_order name ys also)

-- tables say at most one registry
pub said_once : (load : ℕ → List ℕ) (t : Tables) (a b : registry.Registry) → Represents load t a → Represents load t b → a ≡ b
said_once load t a b says other =
    let entries : a.entries ≡ b.entries = one_named_list (λ entry. entry.aid) _ a.entries b.entries says.entries other.entries says.ascending.entries other.ascending.entries in
    let files : a.files ≡ b.files = one_named_list (λ file. file.aid) _ a.files b.files says.files other.files says.ascending.files other.ascending.files in
    let keys : a.keys ≡ b.keys = one_list key_order key_order_total _ a.keys b.keys says.keys other.keys says.ascending.keys other.ascending.keys in
    let counters : a.counters ≡ b.counters = one_list counter_order counter_order_total _ a.counters b.counters says.counters other.counters says.ascending.counters other.ascending.counters in
    let objects : a.objects ≡ b.objects = one_list object_order object_order_total _ a.objects b.objects says.objects other.objects says.ascending.objects other.ascending.objects in
    let life : a.life ≡ b.life = sym says.life ∙ other.life in
    λ i. record { life = life i; entries = entries i; files = files i; keys = keys i; counters = counters i; objects = objects i }

-- a card's tables are those of a card with the registry that they say
pub card_of_said : (load : ℕ → List ℕ) (t : Tables) (said : registry.Registry) → IsCard load t → Represents load t said → IsCardOf load t said
card_of_said load t said card says = subst (IsCardOf load t) (said_once load t card.said said card.of.says says) card.of

-- entries of a card have privileges with names
card_entry : (load : ℕ → List ℕ) (tables : Tables) (said : registry.Registry) → IsCardOf load tables said → (i : ℕ) → AreThreeBytes (thing_in tables.entries.items i)
card_entry load tables said card i = of (thing_in tables.entries.items i) refl
  where
    of : (entry : Option Entry) → thing_in tables.entries.items i ≡ entry → AreThreeBytes entry
    of None is = tt
    of (Some entry) is =
        let view = entry_of tables.entries.items tables.files.items in
        let shown = (shows_used view tables.entries.items said.entries card.says.entries).there i entry is refl in
        let named = (All-contains (IsWellEntry said) said.entries (view entry) card.well.entries shown).proper.named_privileges in
        omega (arith, named, and_le_r (bits_of entry.privileges) named_bits)

-- slots hold one list of keys
pub one_keys : (store : ℕ → List ℕ) (xs ys : List (Option KeyRec)) → length xs ≡ KEYS → length ys ≡ KEYS → AreHeld HoldsKey (key_slot store) KEYS xs → AreHeld HoldsKey (key_slot store) KEYS ys → xs ≡ ys
one_keys store xs ys count also first second =
    same_slots xs ys (count ∙ sym also) (λ i lt. one_key (key_slot store i) (thing_in xs i) (thing_in ys i) (first i (omega (arith, lt, count))) (second i (omega (arith, lt, count))))

module _ (store load : ℕ → List ℕ) (t u : Tables) {a b : Layout} (first : HoldsTables a store t) (second : HoldsTables b store u) where
  same_file : (i : ℕ) → i < length t.files.items → AreSameFiles (thing_in t.files.items i) (thing_in u.files.items i)
  same_file i lt = let n = first.slots.files in one_file (file_slot store i) (thing_in t.files.items i) (thing_in u.files.items i) (first.files i (omega (arith, lt, n))) (second.files i (omega (arith, lt, n)))

  -- what hangs on all that counts of a file is the same
  pub same_file_views : {X : Type 0} (view : LoadFile → X) → ((x y : LoadFile) → SameFile x y → view x ≡ view y) → (i : ℕ) → i < length t.files.items → option_map view (thing_in t.files.items i) ≡ option_map view (thing_in u.files.items i)
  same_file_views view congruent i lt = by_slots (thing_in t.files.items i) (thing_in u.files.items i) (same_file i lt)
    where
      by_slots : (a b : Option LoadFile) → AreSameFiles a b → option_map view a ≡ option_map view b
      by_slots None None same = refl
      by_slots None (Some b) same = absurd same
      by_slots (Some a) None same = absurd same
      by_slots (Some a) (Some b) same = ap Some (congruent a b same)

  pub files_count : length t.files.items ≡ length u.files.items
  files_count = first.slots.files ∙ sym second.slots.files

  pub same_pages : map pages_named (things_in t.files.items) ≡ map pages_named (things_in u.files.items)
  same_pages = same_views pages_named t.files.items u.files.items files_count (same_file_views pages_named (λ x y same. same.pages))

  same_file_aid : (slot : ℕ) → file_aid t.files.items slot ≡ file_aid u.files.items slot
  same_file_aid slot = elim (cases_lt slot (length t.files.items)) [
    | inl lt ↦ ap (λ aid. unwrap_or aid []) (same_file_views (λ file. file.aid) (λ x y same. same.aid) slot lt)
    | inr past ↦
        (let none : thing_in t.files.items slot ≡ None = get_or_past t.files.items slot None past in
        let also_none : thing_in u.files.items slot ≡ None = get_or_past u.files.items slot None (omega (arith, past, files_count)) in
        ap (λ file. unwrap_or (option_map (λ file. file.aid) file) []) (none ∙ sym also_none))
  ]

  same_entries : ((i : ℕ) → AreThreeBytes (thing_in t.entries.items i)) → ((i : ℕ) → AreThreeBytes (thing_in u.entries.items i)) → t.entries.items ≡ u.entries.items
  same_entries three also =
      same_slots t.entries.items u.entries.items (first.slots.entries ∙ sym second.slots.entries)
      (λ i lt. one_entry (entry_slot store i) (thing_in t.entries.items i) (thing_in u.entries.items i) (three i) (also i) (first.entries i (omega (arith, lt, first.slots.entries))) (second.entries i (omega (arith, lt, first.slots.entries))))

  module _ (same : t.entries.items ≡ u.entries.items) where
    same_keys : t.keys.items ≡ u.keys.items
    same_keys = one_keys store t.keys.items u.keys.items first.slots.keys second.slots.keys first.keys second.keys

    same_objects : t.objects.items ≡ u.objects.items
    same_objects =
        same_slots t.objects.items u.objects.items (first.slots.objects ∙ sym second.slots.objects)
        (λ i lt. one_object (object_slot store i) (thing_in t.objects.items i) (thing_in u.objects.items i) (first.objects i (omega (arith, lt, first.slots.objects))) (second.objects i (omega (arith, lt, first.slots.objects))))

    shown_entries : map (entry_of t.entries.items t.files.items) (things_in t.entries.items) ≡ map (entry_of u.entries.items u.files.items) (things_in u.entries.items)
    shown_entries =
        same_map (entry_of t.entries.items t.files.items) (entry_of t.entries.items u.files.items) (λ entry. let file = same_file_aid entry.file in λ i. record (entry_of t.entries.items t.files.items entry) { file = file i }) (things_in t.entries.items)
        ∙ ap (λ entries. map (entry_of entries u.files.items) (things_in entries)) same

    shown_files : map (file_of load t.entries.items) (things_in t.files.items) ≡ map (file_of load u.entries.items) (things_in u.files.items)
    shown_files =
        same_views (file_of load t.entries.items) t.files.items u.files.items files_count
        (same_file_views (file_of load t.entries.items) (λ x y same. let aid = same.aid in let domain = same.domain in let size = same.size in let pages = same.pages in
        λ i. record { aid = aid i; domain = domain_aid t.entries.items (domain i); bytes = take (size i) (concat (map load (pages i))) }))
        ∙ ap (λ entries. map (file_of load entries) (things_in u.files.items)) same

    -- what the one say, the others do
    says_alike : (said : registry.Registry) → Represents load u said → Represents load t said
    says_alike said says = record {
      life = one_card_life (store 0) t.life u.life first.superblock second.superblock ∙ says.life;
      entries = subst (λ all. IsPermutation all said.entries) (sym shown_entries) says.entries;
      files = subst (λ all. IsPermutation all said.files) (sym shown_files) says.files;
      keys = subst (λ all. IsPermutation all said.keys) (sym (ap (λ entries. map (key_of entries) (things_in t.keys.items)) same ∙ ap (λ keys. map (key_of u.entries.items) (things_in keys)) same_keys)) says.keys;
      counters = subst (λ all. IsPermutation all said.counters) (sym (ap (λ entries. map (counter_of entries) (filter keeps_counter (things_in t.keys.items))) same ∙ ap (λ keys. map (counter_of u.entries.items) (filter keeps_counter (things_in keys))) same_keys)) says.counters;
      objects = subst (λ all. IsPermutation all said.objects) (sym (ap (λ entries. map (object_of entries) (things_in t.objects.items)) same ∙ ap (λ objects. map (object_of u.entries.items) (things_in objects)) same_objects)) says.objects;
      ascending = says.ascending;
    }

    pub one_said : (a b : registry.Registry) → Represents load t a → Represents load u b → a ≡ b
    one_said a b says other = said_once load t a b says (says_alike b other)

    factory_alike : (a b : Option LoadFile) → AreSameFiles a b → MatchOption b ⊥ (λ file. (file.aid ≡ FACTORY_FILE) × (file.len ≡ 0)) → MatchOption a ⊥ (λ file. (file.aid ≡ FACTORY_FILE) × (file.len ≡ 0))
    factory_alike None None alike is = is
    factory_alike None (Some y) alike is = absurd alike
    factory_alike (Some x) None alike is = absurd alike
    factory_alike (Some x) (Some y) alike is = (alike.aid ∙ is.0, alike.size ∙ is.1)

    loaded_alike : (a b : Option LoadFile) → AreSameFiles a b → IfSome b IsInLoadPages → IfSome a IsInLoadPages
    loaded_alike None b alike is = tt
    loaded_alike (Some x) None alike is = absurd alike
    loaded_alike (Some x) (Some y) alike is = record {
      size = omega (arith, is.size, alike.size);
      pages = subst (All IsLoadPage) (sym alike.pages) is.pages;
    }

    -- where the one are a card's, so are the others
    pub card_alike : (said : registry.Registry) → IsCardOf load u said → IsCardOf load t said
    card_alike said card = record {
      layout = record { slots = first.slots; issuer = subst HasIssuer (sym same) card.layout.issuer };
      factory_file = factory_alike (thing_in t.files.items 0) (thing_in u.files.items 0) (same_file 0 (omega (arith, first.slots.files))) card.factory_file;
      files = of_all IsInLoadPages t.files.items (λ i lt. loaded_alike (thing_in t.files.items i) (thing_in u.files.items i) (same_file i lt) (of_slot IsInLoadPages u.files.items i card.files));
      apart = subst (λ pages. IsDistinct nat_eq (concat pages)) (sym same_pages) card.apart;
      says = says_alike said card.says;
      well = card.well;
    }

-- tables that were read, where the store pages hold a card's
pub read_card : (store load : ℕ → List ℕ) (t u : Tables) (said : registry.Registry) {a b : Layout} → HoldsTables a store t → All HasThreeBytes (things_in t.entries.items) → HoldsTables b store u → IsCardOf load u said → IsCardOf load t said
read_card store load t u said read three held_u card =
    card_alike store load t u read held_u (same_entries store load t u read held_u (λ i. of_slot HasThreeBytes t.entries.items i three) (card_entry load u said card)) said card

pub one_registry : (store load : ℕ → List ℕ) (a b : registry.Registry) → HoldsRegistry store load a → HoldsRegistry store load b → a ≡ b
one_registry store load a b first second =
    one_said store load first.tables second.tables first.held second.held
    (same_entries store load first.tables second.tables first.held second.held (card_entry load first.tables a first.card) (card_entry load second.tables b second.card)) a b first.card.says second.card.says
