-- Store pages of which one is staged anew.
use Rattle.std.proofs.Common.{◌≡◌, ◌≢◌, ◌⊎◌, inl, inr, ℕ, ◌+◌, ◌*◌, ◌/◌, ◌%◌, ◌<◌, true, List, [], ◌∷◌, length, Option, None, Some, refl, ap, sym, subst, ◌∙◌, arith}
use Rattle.std.specs.Prelude.{Contains, IsSome, map, slice_set}
use Rattle.std.proofs.lemmas.Bool.{cases_eq}
use Rattle.std.proofs.lemmas.Bool.Decides.{nat_tests}
use Rattle.std.proofs.lemmas.List.{get_or-set_other}
use Rattle.std.proofs.Math.Nat.{div-add-mod}
use Rattle.card_types.proofs.Members.{contains_cases}
use Rattle.card_types.specs.Represents.{thing_in}
use Rattle.card_types.specs.declared.tables.Tables.{Tables}
use Rattle.flash_core.specs.declared.flash.Flash.{Ghosts as Flash}
use Rattle.flash_core.specs.declared.page.Page.{Page}
use Rattle.frame_pool.specs.Staged.{staged_at, with_page}
use Rattle.page_journal.specs.Journal.{bytes_of, stored_page}
use Rattle.page_journal.specs.Moments.{first_of}
use Rattle.page_journal.specs.Store.{Store}
use Rattle.rec_store.specs.Reopens.{NoLoadPage, current_page}
use Rattle.rec_store.specs.Places.{slot_at, slot_from}
use Rattle.rec_store.specs.Room.{HasFrame, with_staged}
use Rattle.rec_store.specs.StoredTables.{AreHeld, AreRoomy, HoldsPage, HoldsTables}
use Rattle.rec_store.specs.declared.store_layout.Layout.TheVariants.{Third}
use Rattle.page_journal.specs.Pages.{IsStorePage}
use Rattle.frame_pool.specs.declared.pool.TheConstants.{FRAMES}

abbrev Pages : Type 0
Pages = List (ℕ × Page)

abbrev pub numbers : Pages → List ℕ
numbers pool = map (λ page. page.0) pool

some_staged : (pool : Pages) (page : ℕ) → Contains (numbers pool) page → IsSome (staged_at pool page)
some_staged [] page among = absurd (omega (arith, among.1))
some_staged (first ∷ rest) page among = elim (cases_eq first.0 page) [
  | inl same ↦ grind (arith, nat_tests)
  | inr other ↦ elim (contains_cases first.0 (numbers rest) page among) [
    | inl same ↦ absurd (other same)
    | inr later ↦ (let rest_has = some_staged rest page later in grind (arith, nat_tests))
  ]
]

count_numbers : (pool : Pages) → length (numbers pool) ≡ length pool
count_numbers [] = refl
count_numbers (first ∷ rest) = omega (arith, count_numbers rest)

-- the page is staged, or there is a frame
pub frame : (pool : Pages) (page : ℕ) → HasFrame (numbers pool) page → IsSome (staged_at pool page) ⊎ (length pool < FRAMES)
frame pool page (inl among) = inl (some_staged pool page among)
frame pool page (inr room) = inr (omega (arith, room, count_numbers pool))

pub staged_numbers : (pool : Pages) (page : ℕ) (x : Page) → numbers (with_page pool page x) ≡ with_staged (numbers pool) page
staged_numbers [] page x = refl
staged_numbers (first ∷ rest) page x = elim (cases_eq first.0 page) [
  | inl same ↦ grind (arith, nat_tests)
  | inr other ↦ (let later : numbers (with_page rest page x) ≡ with_staged (numbers rest) page = staged_numbers rest page x in grind (arith, nat_tests))
]

staged_here : (pool : Pages) (page : ℕ) (x : Page) → staged_at (with_page pool page x) page ≡ Some x
staged_here [] page x = grind (arith, nat_tests)
staged_here (first ∷ rest) page x = elim (cases_eq first.0 page) [
  | inl same ↦ grind (arith, nat_tests)
  | inr other ↦ (let later : staged_at (with_page rest page x) page ≡ Some x = staged_here rest page x in grind (arith, nat_tests))
]

staged_apart : (pool : Pages) (page : ℕ) (x : Page) (n : ℕ) → n ≢ page → staged_at (with_page pool page x) n ≡ staged_at pool n
staged_apart [] page x n apart = grind (arith, nat_tests)
staged_apart (first ∷ rest) page x n apart = elim (cases_eq first.0 page) [
  | inl same ↦ grind (arith, nat_tests)
  | inr other ↦ (let later : staged_at (with_page rest page x) n ≡ staged_at rest n = staged_apart rest page x n apart in
      elim (cases_eq first.0 n) [
        | inl is ↦ grind (arith, nat_tests)
        | inr differs ↦ grind (arith, nat_tests)
      ])
]

pub none_loaded : (pool : Pages) (page : ℕ) (x : Page) → IsStorePage page → NoLoadPage pool → NoLoadPage (with_page pool page x)
none_loaded pool page x lt none n le = staged_apart pool page x n (λ is. omega (arith, is, lt, le)) ∙ none n le

pub none_staged : (pool : Pages) → numbers pool ≡ [] → pool ≡ []
none_staged [] none = refl
none_staged (first ∷ rest) none = absurd (cc none)

-- the page as it is now, and the others as they were
pub page_here : (pool : Pages) (pages : List Page) (page : ℕ) (x : Page) → current_page (with_page pool page x) pages page ≡ x.bytes
page_here pool pages page x = ap (λ one. bytes_of (first_of one (stored_page pages page))) (staged_here pool page x)

pub page_apart : (pool : Pages) (pages : List Page) (page : ℕ) (x : Page) (n : ℕ) → n ≢ page → current_page (with_page pool page x) pages n ≡ current_page pool pages n
page_apart pool pages page x n apart = ap (λ one. bytes_of (first_of one (stored_page pages n))) (staged_apart pool page x n apart)

module _ {T : Type 0} (holds : List ℕ → Option T → Type 0) (old new : ℕ → List ℕ) (page : ℕ) (apart : (n : ℕ) → n ≢ page → new n ≡ old n) (first size : ℕ) where
  slot_apart : (slot : ℕ) → first + slot / (256 / size) ≢ page → slot_from new first size slot ≡ slot_from old first size slot
  slot_apart slot other = ap (λ bytes. slot_at bytes size (slot % (256 / size))) (apart (first + slot / (256 / size)) other)

  -- things of another kind are in other pages
  pub held_apart : (count : ℕ) (things : List (Option T)) → ((slot : ℕ) → slot < count → first + slot / (256 / size) ≢ page) → AreHeld holds (slot_from old first size) count things → AreHeld holds (slot_from new first size) count things
  held_apart count things other was slot lt = subst (λ bytes. holds bytes (thing_in things slot)) (sym (slot_apart slot (other slot lt))) (was slot lt)

  -- the things in the page, and in the other pages those that were there
  held_set : (bytes : List ℕ) (count slot : ℕ) (thing : Option T) (things : List (Option T)) → page ≡ first + slot / (256 / size) → new page ≡ bytes → HoldsPage holds size bytes (slot / (256 / size)) (slice_set things slot thing)
      → 0 < 256 / size → AreHeld holds (slot_from old first size) count things → AreHeld holds (slot_from new first size) count (slice_set things slot thing)
  held_set bytes count slot thing things is here in_page some was i lt = elim (cases_eq (i / (256 / size)) (slot / (256 / size))) [
    | inl same ↦
        (let place : slot / (256 / size) * (256 / size) + i % (256 / size) ≡ i = ap (λ n. n * (256 / size) + i % (256 / size)) (sym same) ∙ whole i in
        let at : slot_from new first size i ≡ slot_at bytes size (i % (256 / size)) = ap (λ n. slot_at (new (first + n)) size (i % (256 / size))) same ∙ ap (λ n. slot_at (new n) size (i % (256 / size))) (sym is) ∙ ap (λ b. slot_at b size (i % (256 / size))) here in
        subst (λ b. holds b (thing_in (slice_set things slot thing) i)) (sym at)
        (subst (λ n. holds (slot_at bytes size (i % (256 / size))) (thing_in (slice_set things slot thing) n)) place (in_page (i % (256 / size)) (within i))))
    | inr other ↦
        (let same : thing_in (slice_set things slot thing) i ≡ thing_in things i = get_or-set_other things slot i thing None (λ e. other (ap (λ n. n / (256 / size)) e)) in
        subst (λ b. holds b (thing_in (slice_set things slot thing) i)) (sym (slot_apart i (λ e. other (omega (arith, e, is)))))
        (subst (holds (slot_from old first size i)) (sym same) (was i lt)))
  ]
    where
      whole : (i : ℕ) → i / (256 / size) * (256 / size) + i % (256 / size) ≡ i
      whole i = grind (arith, div-add-mod i (256 / size))

      within : (i : ℕ) → i % (256 / size) < 256 / size
      within i = omega (arith, some)

  pub held_anew : (bytes : List ℕ) (count slot n : ℕ) (thing : Option T) (things : List (Option T)) → n ≡ slot → page ≡ first + slot / (256 / size) → new page ≡ bytes → HoldsPage holds size bytes (slot / (256 / size)) (slice_set things n thing)
      → 0 < 256 / size → AreHeld holds (slot_from old first size) count things → AreHeld holds (slot_from new first size) count (slice_set things n thing)
  held_anew bytes count slot n thing things same is here in_page some was =
      subst (λ k. HoldsPage holds size bytes (slot / (256 / size)) (slice_set things k thing) → AreHeld holds (slot_from new first size) count (slice_set things k thing)) (sym same)
      (λ put. held_set bytes count slot thing things is here put some was) in_page

-- the frame for a page, by the numbers of the staged pages
pub frame_for : (pool : Pages) (shown : List ℕ) (page : ℕ) → numbers pool ≡ shown → HasFrame shown page → IsSome (staged_at pool page) ⊎ (length pool < FRAMES)
frame_for pool shown page is room = frame pool page (subst (λ staged. HasFrame staged page) (sym is) room)

-- what is kept of records
abbrev pub IsKept : {F : Type 0} → Flash F → Store F → Tables → Type 0
IsKept device store t = AreRoomy t × (store.settled ≡ true) × NoLoadPage store.staged × (device.tells → store.live ≡ true → HoldsTables Third (current_page store.staged (device.pages store.flash)) t)

-- a store with one page more
module _ {F : Type 0} (store new : Store F) (page : ℕ) (x : Page) (anew : new ≡ record store { staged = with_page store.staged page x }) where
  pub numbers_anew : (shown : List ℕ) → numbers store.staged ≡ shown → numbers new.staged ≡ with_staged shown page
  numbers_anew shown is = ap (λ (s : Store F). numbers s.staged) anew ∙ staged_numbers store.staged page x ∙ ap (λ staged. with_staged staged page) is

  pub kept_anew : (device : Flash F) (t : Tables) → IsStorePage page → AreRoomy t → store.settled ≡ true → NoLoadPage store.staged
      → (device.tells → HoldsTables Third (current_page (with_page store.staged page x) (device.pages store.flash)) t) → IsKept device new t
  kept_anew device t lt roomy settled none held = subst (λ (s : Store F). IsKept device s t) (sym anew) (roomy, settled, none_loaded store.staged page x lt none, λ told live. held told)
