-- What pages with an open gate and with a closed one stand for.
use Rattle.std.proofs.Common.{◌≡◌, ◌≢◌, ◌⊎◌, inl, inr, ⊎_elim, true, false, ℕ, zero, suc, ◌+◌, ◌<◌, ◌≤◌, List, [], ◌∷◌, length, Option, None, Some, is_some, Contains, slice_get, if◌then◌else◌, ◌==◌, get_or, refl, sym, ap, ◌∙◌, subst, arith}
use Rattle.std.proofs.lemmas.Bool.{cases_eq, false≢true}
use Rattle.std.proofs.lemmas.Bool.Decides.{nat_tests}
use Rattle.std.proofs.lemmas.Option.{slice_get_cases, slice_get_within}
use Rattle.flash_core.specs.declared.page.Page.{Page}
use Rattle.frame_pool.specs.Staged.{staged_at, AreDistinct}
use Rattle.page_journal.specs.Journal.{bytes_of, is_open, descriptor, IsValid, copied_place, stored_page}
use Rattle.page_journal.specs.Moments.{Leaves, first_of, current}
use Rattle.page_journal.specs.Phases.{IsStaged, CopiesOf, Names, HomesOf}
use Rattle.page_journal.specs.Store.{AreStorePages, StandsForList}
use Rattle.page_journal.specs.Touches.{SameOutside}
use Rattle.page_journal.specs.Pages.{IsStorePage}
use Rattle.page_journal.proofs.Descriptors.{place_found, place_home}
use Rattle.page_journal.proofs.PageKinds.{IsGate, IsPage, IsPastJournal, IsPastStore, copy_page, descriptor_page, gate_page}
use Rattle.frame_pool.specs.declared.pool.TheConstants.{FRAMES}

abbrev Pages : Type 0
Pages = List (ℕ × Page)

pub gate_same : (a b : List Page) → slice_get a gate_page ≡ slice_get b gate_page → is_open a ≡ is_open b
gate_same a b same = ap (λ (o : Option Page). get_or (bytes_of o) 0 0 == 165) same

pub descriptor_same : (a b : List Page) → slice_get a descriptor_page ≡ slice_get b descriptor_page → descriptor a ≡ descriptor b
descriptor_same a b same = ap bytes_of same

pub stored_shut : (pages : List Page) (page : ℕ) → is_open pages ≡ false → stored_page pages page ≡ slice_get pages page
stored_shut pages page closed = ap (λ b. slice_get pages (if b then copied_place (descriptor pages) page else page)) closed

pub stored_open : (pages : List Page) (page : ℕ) → is_open pages ≡ true → stored_page pages page ≡ slice_get pages (copied_place (descriptor pages) page)
stored_open pages page opened = ap (λ b. slice_get pages (if b then copied_place (descriptor pages) page else page)) opened

-- with a closed gate
pub shut : (list : ℕ → Option Page) (loose : List ℕ) (c : List Page) → is_open c ≡ false → ((p : ℕ) → IsStorePage p → slice_get c p ≡ list p) → ((p : ℕ) → IsPastJournal p → (Contains loose p → ⊥) → slice_get c p ≡ list p) → Leaves list loose c
shut list loose c closed store load = record {
  sound = λ opened. absurd (false≢true (sym closed ∙ opened));
  store = λ p lt. stored_shut c p closed ∙ store p lt;
  load = λ p le tight. stored_shut c p closed ∙ load p le tight;
}

-- where a page is staged, or that it is not
abbrev Found : Pages → ℕ → Type 0
Found pool p = (i : ℕ) × (x : Page) × (slice_get pool i ≡ Some (p, x)) × ((k : ℕ) (s : ℕ × Page) → k < i → slice_get pool k ≡ Some s → s.0 ≢ p) × (staged_at pool p ≡ Some x)

abbrev Missing : Pages → ℕ → Type 0
Missing pool p = ((k : ℕ) (s : ℕ × Page) → slice_get pool k ≡ Some s → s.0 ≢ p) × (staged_at pool p ≡ None)

look : (pool : Pages) (p : ℕ) → Found pool p ⊎ Missing pool p
look [] p = inr ((λ k s is. absurd (cc is)), refl)
look (e ∷ pool) p = by_head (cases_eq e.0 p) (look pool p)
  where
    hit : e.0 ≡ p → staged_at (e ∷ pool) p ≡ Some e.1
    hit is = grind (arith, nat_tests)

    miss : e.0 ≢ p → staged_at (e ∷ pool) p ≡ staged_at pool p
    miss ne = grind (arith, nat_tests)

    before : (i : ℕ) → e.0 ≢ p → ((k : ℕ) (s : ℕ × Page) → k < i → slice_get pool k ≡ Some s → s.0 ≢ p) → (k : ℕ) (s : ℕ × Page) → k < suc i → slice_get (e ∷ pool) k ≡ Some s → s.0 ≢ p
    before i ne none zero s lt is = let head : e ≡ s = cc is in λ same. ne (ap (λ (o : ℕ × Page). o.0) head ∙ same)
    before i ne none (suc k) s lt is = none k s (omega (arith, lt)) is

    all : e.0 ≢ p → ((k : ℕ) (s : ℕ × Page) → slice_get pool k ≡ Some s → s.0 ≢ p) → (k : ℕ) (s : ℕ × Page) → slice_get (e ∷ pool) k ≡ Some s → s.0 ≢ p
    all ne none zero s is = let head : e ≡ s = cc is in λ same. ne (ap (λ (o : ℕ × Page). o.0) head ∙ same)
    all ne none (suc k) s is = none k s is

    by_head : (e.0 ≡ p) ⊎ (e.0 ≢ p) → Found pool p ⊎ Missing pool p → Found (e ∷ pool) p ⊎ Missing (e ∷ pool) p
    by_head (inl is) tail = inl (0, e.1, ap (λ n. Some (n, e.1)) is, (λ k s lt there. absurd (omega (arith, lt))), hit is)
    by_head (inr ne) (inl f) = inl (suc f.0, f.1, f.2, before f.0 ne f.3, miss ne ∙ f.4)
    by_head (inr ne) (inr m) = inr (all ne m.0, miss ne ∙ m.1)

pub staged_store : (pool : Pages) (p : ℕ) → AreStorePages pool → IsStaged pool p → IsStorePage p
staged_store pool p homes is = ⊎_elim (λ (f : Found pool p). homes f.0 (p, f.1) f.2) (λ (m : Missing pool p). absurd (none m.1)) (look pool p)
  where
    none : staged_at pool p ≡ None → ⊥
    none missing = absurd (cc (ap is_some missing, is))

entry_at : (pool : Pages) (i : ℕ) → i < length pool → (e : ℕ × Page) × (slice_get pool i ≡ Some e)
entry_at pool i lt = ⊎_elim (λ (f : (x : ℕ × Page) × (i < length pool) × (slice_get pool i ≡ Some x) × (get_or pool i x ≡ x)). (f.0, f.2)) (λ (m : (length pool ≤ i) × (slice_get pool i ≡ None)). absurd (omega (arith, lt, m.0))) (slice_get_cases pool i).1

-- a descriptor that names staged pages has a valid form
pub names_valid : (pool : Pages) (bytes : List ℕ) → 0 < length pool → length pool ≤ FRAMES → AreStorePages pool → AreDistinct pool → Names pool bytes → IsValid bytes
names_valid pool bytes some room homes distinct names = record {
  some = omega (arith, names.count, some);
  room = omega (arith, names.count, room);
  homes = λ i lt. let e = entry_at pool i (omega (arith, lt, names.count)) in omega (arith, names.homes i e.0 e.1, homes i e.0 e.1);
  distinct = λ i j ij lt same.
      let a = entry_at pool i (omega (arith, ij, lt, names.count)) in
      let b = entry_at pool j (omega (arith, lt, names.count)) in
      let eq : i ≡ j = distinct i j a.0 b.0 a.1 b.1 (sym (names.homes i a.0 a.1) ∙ same ∙ names.homes j b.0 b.1) in
      omega (arith, ij, eq);
}

-- no page of the list is the gate
pub no_gate : (p : ℕ) → IsPage p → IsGate p → ⊥
no_gate p (inl lt) is = omega (arith, lt, is)
no_gate p (inr le) is = omega (arith, le, is)

-- The staged pages are recorded: the descriptor names them, the copies stand, and all others are as they were.
pub record Recorded (pool : Pages) (start c : List Page) : Type 0 where
  pub names : Names pool (descriptor c)
  pub copies : CopiesOf (length pool) pool c
  pub others : (p : ℕ) → (IsStaged pool p → ⊥) → IsPage p → slice_get c p ≡ slice_get start p

-- they stay so where only the gate and the pages in place are torn
pub recorded_after : (inside : ℕ → Type 0) (pool : Pages) (start a c : List Page) → AreStorePages pool → ((p : ℕ) → inside p → IsGate p ⊎ IsStaged pool p) → SameOutside inside a c → Recorded pool start a → Recorded pool start c
recorded_after inside pool start a c homes within same was = record {
  names = subst (Names pool) (sym (descriptor_same c a (same descriptor_page (λ i. low descriptor_page (omega arith) (λ gate. omega (arith, gate)) (within descriptor_page i))))) was.names;
  copies = λ i e lt is. same (copy_page i) (λ j. low (copy_page i) (omega arith) (λ gate. omega (arith, gate)) (within (copy_page i) j)) ∙ was.copies i e lt is;
  others = λ p out page. same p (λ i. ⊎_elim (λ gate. no_gate p page gate) out (within p i)) ∙ was.others p out page;
}
  where
    low : (p : ℕ) → IsPastStore p → (IsGate p → ⊥) → IsGate p ⊎ IsStaged pool p → ⊥
    low p le other (inl gate) = other gate
    low p le other (inr is) = omega (arith, le, staged_store pool p homes is)

module _ (pool : Pages) (start c : List Page) (some : 0 < length pool) (room : length pool ≤ FRAMES) (homes : AreStorePages pool) (distinct : AreDistinct pool) (closed : is_open start ≡ false) where
  unstaged : (p : ℕ) → staged_at pool p ≡ None → IsStaged pool p → ⊥
  unstaged p none is = absurd (cc (ap is_some none, is))

  list_some : (p : ℕ) (x : Page) → staged_at pool p ≡ Some x → Some x ≡ current pool start p
  list_some p x is = sym (ap (λ (o : Option Page). first_of o (stored_page start p)) is)

  list_none : (p : ℕ) → staged_at pool p ≡ None → slice_get start p ≡ current pool start p
  list_none p none = sym (stored_shut start p closed) ∙ sym (ap (λ (o : Option Page). first_of o (stored_page start p)) none)

  -- with an open gate the copies count
  at_copy : Recorded pool start c → is_open c ≡ true → (p : ℕ) → IsPage p → stored_page c p ≡ current pool start p
  at_copy was opened p page = stored_open c p opened ∙ by_look (look pool p)
    where
      bytes : List ℕ
      bytes = descriptor c

      count : get_or bytes 0 0 ≡ length pool
      count = was.names.count

      named : (k : ℕ) → k < length pool → (e : ℕ × Page) × (slice_get pool k ≡ Some e) × (get_or bytes (k + 1) 0 ≡ e.0)
      named k lt = let e = entry_at pool k lt in (e.0, e.1, was.names.homes k e.0 e.1)

      by_look : Found pool p ⊎ Missing pool p → slice_get c (copied_place bytes p) ≡ current pool start p
      by_look (inl f) =
          let within : f.0 < length pool = slice_get_within pool f.0 _ f.2 in
          ap (slice_get c) (place_found bytes 0 (get_or bytes 0 0) f.0 p (omega arith) (omega (arith, within, count)) (was.names.homes f.0 (p, f.1) f.2)
          (λ k a lt same. let e = named k (omega (arith, lt, within)) in f.3 k e.0 lt e.1 (sym e.2 ∙ same)))
          ∙ was.copies f.0 (p, f.1) within f.2 ∙ list_some p f.1 f.4
      by_look (inr m) =
          ap (slice_get c) (place_home bytes 0 (get_or bytes 0 0) p (λ k a lt same. let e = named k (omega (arith, lt, count)) in m.0 k e.0 e.1 (sym e.2 ∙ same)))
          ∙ was.others p (unstaged p m.1) page ∙ list_none p m.1

  pub opened : Recorded pool start c → is_open c ≡ true → Leaves (current pool start) [] c
  opened was is = record {
    sound = λ _. names_valid pool (descriptor c) some room homes distinct was.names;
    store = λ p lt. at_copy was is p (inl lt);
    load = λ p le tight. at_copy was is p (inr le);
  }

  -- with a closed one the pages in place do
  pub at_home : Recorded pool start c → HomesOf (length pool) pool c → (p : ℕ) → IsPage p → slice_get c p ≡ current pool start p
  at_home was put p page = by_look (look pool p)
    where
      by_look : Found pool p ⊎ Missing pool p → slice_get c p ≡ current pool start p
      by_look (inl f) = put f.0 (p, f.1) (slice_get_within pool f.0 _ f.2) f.2 ∙ list_some p f.1 f.4
      by_look (inr m) = was.others p (unstaged p m.1) page ∙ list_none p m.1

  pub closed_after : Recorded pool start c → HomesOf (length pool) pool c → is_open c ≡ false → Leaves (current pool start) [] c
  closed_after was put is = shut (current pool start) [] c is (λ p lt. at_home was put p (inl lt)) (λ p le tight. at_home was put p (inr le))

  pub listed : Recorded pool start c → HomesOf (length pool) pool c → is_open c ≡ false → StandsForList (current pool start) c
  listed was put is p page = stored_shut c p is ∙ at_home was put p page
