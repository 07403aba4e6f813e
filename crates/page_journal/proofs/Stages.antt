-- Staged pages and load pages.
use Rattle.std.proofs.Common.{◌≡◌, ◌≢◌, ◌⊎◌, inl, inr, true, false, ℕ, zero, suc, List, [], ◌∷◌, Option, None, Some, IfSome, is_some, is_none, slice_get, refl, sym, ap, ◌∙◌, arith}
use Rattle.std.proofs.lemmas.Bool.{cases_eq}
use Rattle.std.proofs.lemmas.Bool.Decides.{nat_tests}
use Rattle.flash_core.specs.declared.flash.Flash.{Ghosts as Flash}
use Rattle.flash_core.specs.declared.page.Page.{Page}
use Rattle.frame_pool.specs.Staged.{with_page}
use Rattle.page_journal.specs.Journal.{bytes_of, is_open, copied_place, place_of_page, stored_page}
use Rattle.page_journal.specs.Moments.{Always, LeavesOnly, Leaves}
use Rattle.page_journal.specs.Store.{AreStorePages, SameBelow}
use Rattle.page_journal.specs.Touches.{IsTorn, Touches}
use Rattle.page_journal.specs.Pages.{IsStorePage}
use Rattle.page_journal.proofs.Runs.{only_torn}
use Rattle.page_journal.proofs.PageKinds.{IsPastJournal, descriptor_page, gate_page}
use Rattle.page_journal.proofs.Lists.{gate_same, stored_shut, stored_open, shut}

pub with_store : (pool : List (ℕ × Page)) (n : ℕ) (x : Page) → IsStorePage n → AreStorePages pool → AreStorePages (with_page pool n x)
with_store [] n x lt homes zero e is = let same : (n, x) ≡ e = cc is in omega (arith, lt, ap (λ (o : ℕ × Page). o.0) same)
with_store [] n x lt homes (suc i) e is = absurd (cc is)
with_store (f ∷ pool) n x lt homes i e is = by_head (cases_eq f.0 n) (with_store pool n x lt (λ i e is. homes (suc i) e is))
  where
    hit : f.0 ≡ n → with_page (f ∷ pool) n x ≡ (n, x) ∷ pool
    hit same = grind (arith, nat_tests)

    miss : f.0 ≢ n → with_page (f ∷ pool) n x ≡ f ∷ with_page pool n x
    miss ne = grind (arith, nat_tests)

    head : (i : ℕ) (l : List (ℕ × Page)) (a : ℕ × Page) → IsStorePage a.0 → ((k : ℕ) (e : ℕ × Page) → slice_get l k ≡ Some e → IsStorePage e.0) → slice_get (a ∷ l) i ≡ Some e → IsStorePage e.0
    head zero l a small tail there = let same : a ≡ e = cc there in omega (arith, small, ap (λ (o : ℕ × Page). o.0) same)
    head (suc k) l a small tail there = tail k e there

    by_head : (f.0 ≡ n) ⊎ (f.0 ≢ n) → ((k : ℕ) (e : ℕ × Page) → slice_get (with_page pool n x) k ≡ Some e → IsStorePage e.0) → IsStorePage e.0
    by_head (inl same) tail = head i pool (n, x) lt (λ k a there. homes (suc k) a there) (sym (ap (λ l. slice_get l i) (hit same)) ∙ is)
    by_head (inr ne) tail = head i (with_page pool n x) f (homes zero f refl) tail (sym (ap (λ l. slice_get l i) (miss ne)) ∙ is)

pub none_some : {X : Type 0} (o : Option X) → is_none o ≡ true → is_some o ≡ false
none_some None is = refl
none_some (Some x) is = absurd (cc is)

-- where a page of the list stands
pub stored_at : (pages : List Page) (journal : Option Page) (page : ℕ) → is_open pages ≡ is_some journal → IfSome journal (λ d. slice_get pages descriptor_page ≡ Some d) → stored_page pages page ≡ slice_get pages (place_of_page journal page)
stored_at pages None page gate named = stored_shut pages page gate
stored_at pages (Some d) page gate named = stored_open pages page gate ∙ ap (λ (o : Option Page). slice_get pages (copied_place (bytes_of o) page)) named

module _ {F T : Type 0} (device : Flash F) (only : (f : F) (c : List Page) → T → device.left_since f (device.moment f) c → device.may_leave f c) (told : T) where
  -- a load page that was written is loose
  pub free : (loose : List ℕ) (page : ℕ) (old new : F) → IsPastJournal page → is_open (device.pages old) ≡ false → Always (device.may_leave old) (SameBelow (device.pages old)) → Always (device.may_leave old) (Leaves (stored_page (device.pages old)) loose)
      → Touches device (λ p. p ≡ page) old new → LeavesOnly device old new (Leaves (stored_page (device.pages old)) (page ∷ loose))
  free loose page old new high closed calm before run = only_torn device only told (λ p. p ≡ page) old new (Leaves (stored_page (device.pages old)) (page ∷ loose)) run here
    where
      here : (c : List Page) → IsTorn (λ p. p ≡ page) (device.may_leave old) c → Leaves (stored_page (device.pages old)) (page ∷ loose) c
      here c torn =
          let d = torn.0 in
          let below = calm d torn.1 in
          let was = before d torn.1 in
          let gate_d : is_open d ≡ false = gate_same d (device.pages old) (below gate_page (omega arith)) ∙ closed in
          let gate : is_open c ≡ false = gate_same c d (torn.2 gate_page (λ is. omega (arith, is, high))) ∙ gate_d in
          shut (stored_page (device.pages old)) (page ∷ loose) c gate (λ p lt. torn.2 p (λ is. omega (arith, is, lt, high)) ∙ sym (stored_shut d p gate_d) ∙ was.store p lt)
          (λ p le tight. torn.2 p (λ is. tight (0, omega arith, sym is)) ∙ sym (stored_shut d p gate_d) ∙ was.load p le (λ in_loose. tight (suc in_loose.0, omega (arith, in_loose.1), in_loose.2)))
