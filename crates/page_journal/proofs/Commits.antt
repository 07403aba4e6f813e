-- The four parts of a commit, at every moment.
use Rattle.std.proofs.Common.{◌≡◌, ◌⊎◌, inl, inr, Bool, true, false, ℕ, ◌<◌, ◌≤◌, List, [], length, Option, Some, slice_get, get_or, refl, sym, ap, ◌∙◌, subst, arith, ◌==◌}
use Rattle.flash_core.specs.declared.flash.Flash.{Ghosts as Flash}
use Rattle.flash_core.specs.declared.page.Page.{Page}
use Rattle.flash_core.specs.Device.{Only}
use Rattle.frame_pool.specs.Staged.{AreDistinct}
use Rattle.page_journal.specs.Journal.{bytes_of, is_open, stored_page}
use Rattle.page_journal.specs.Moments.{Always, LeavesOnly, Leaves, current}
use Rattle.page_journal.specs.Phases.{IsRecord, IsStaged, CopiesOf, Names, HomesOf}
use Rattle.page_journal.specs.Store.{AreStorePages, SameBelow, StandsForList}
use Rattle.page_journal.specs.Touches.{SameOutside, IsTorn, Touches}
use Rattle.page_journal.proofs.Runs.{only_torn, then_only}
use Rattle.page_journal.proofs.PageKinds.{IsGate, IsPage, descriptor_page, gate_page}
use Rattle.page_journal.proofs.Lists.{no_gate, gate_same, stored_shut, shut, staged_store, Recorded, recorded_after, opened, closed_after, listed}
use Rattle.frame_pool.specs.declared.pool.TheConstants.{FRAMES}

-- what the gate is after a byte was written
pub gate_is : (pages : List Page) (page : Page) (byte : ℕ) → slice_get pages gate_page ≡ Some page → get_or page.bytes 0 0 ≡ byte → is_open pages ≡ (byte == 165)
gate_is pages page byte is written = ap (λ (o : Option Page). get_or (bytes_of o) 0 0 == 165) is ∙ ap (λ n. n == 165) written

pub is_or_not : (b : Bool) → (b ≡ true) ⊎ (b ≡ false)
is_or_not true = inl refl
is_or_not false = inr refl

-- no page of the list is part of the record
outside : (p : ℕ) → IsPage p → IsRecord p → ⊥
outside p (inl lt) (inl is) = omega (arith, lt, is)
outside p (inl lt) (inr copy) = omega (arith, lt, copy.0)
outside p (inr le) (inl is) = omega (arith, le, is)
outside p (inr le) (inr copy) = omega (arith, le, copy.1)

-- nor is the gate
gate_unrecorded : IsRecord gate_page → ⊥
gate_unrecorded (inl is) = omega (arith, is)
gate_unrecorded (inr copy) = omega (arith, copy.0)

module _ {F T : Type 0} (device : Flash F) (only : (f : F) (c : List Page) → T → device.left_since f (device.moment f) c → device.may_leave f c) (told : T)
    (pool : List (ℕ × Page)) (some : 0 < length pool) (room : length pool ≤ FRAMES) (homes : AreStorePages pool) (distinct : AreDistinct pool) (f0 : F) (closed : is_open (device.pages f0) ≡ false) where
  -- power lost leaves the pages from before or those after
  abbrev pub Either : List ℕ → List Page → Type 0
  Either loose c = Leaves (stored_page (device.pages f0)) loose c ⊎ Leaves (current pool (device.pages f0)) [] c

  -- after a part of a commit: what power lost may have left so far, and what is recorded
  pub record SoFar (loose : List ℕ) (f : F) : Type 0 where
    pub moments : LeavesOnly device f0 f (Either loose)
    pub kept : Recorded pool (device.pages f0) (device.pages f)

  -- The copies and the descriptor are written while the gate is closed.
  pub first : (loose : List ℕ) (f1 : F) → Always (device.may_leave f0) (SameBelow (device.pages f0)) → Always (device.may_leave f0) (Leaves (stored_page (device.pages f0)) loose) → Touches device IsRecord f0 f1 → LeavesOnly device f0 f1 (Either loose)
  first loose f1 calm before run = only_torn device only told IsRecord f0 f1 (Either loose) run here
    where
      here : (c : List Page) → IsTorn IsRecord (device.may_leave f0) c → Either loose c
      here c torn =
          let d = torn.0 in
          let below = calm d torn.1 in
          let gate_d : is_open d ≡ false = gate_same d (device.pages f0) (below gate_page (omega arith)) ∙ closed in
          let gate : is_open c ≡ false = gate_same c d (torn.2 gate_page gate_unrecorded) ∙ gate_d in
          inl (shut (stored_page (device.pages f0)) loose c gate (λ p lt. torn.2 p (outside p (inl lt)) ∙ below p (omega (arith, lt)) ∙ sym (stored_shut (device.pages f0) p closed))
          (λ p le tight. torn.2 p (outside p (inr le)) ∙ sym (stored_shut d p gate_d) ∙ (before d torn.1).load p le tight))

  pub recorded : (f1 : F) → Touches device IsRecord f0 f1 → CopiesOf (length pool) pool (device.pages f1) → (page : Page) × (slice_get (device.pages f1) descriptor_page ≡ Some page) × Names pool page.bytes → Recorded pool (device.pages f0) (device.pages f1)
  recorded f1 run copies names = record {
    names = subst (Names pool) (sym (ap bytes_of names.1)) names.2;
    copies = copies;
    others = λ p out page. run.seen p (outside p page);
  }

  -- The gate is opened before the copies.
  pub second : (loose : List ℕ) (f1 f2 : F) → Always (device.may_leave f0) (SameBelow (device.pages f0)) → Always (device.may_leave f0) (Leaves (stored_page (device.pages f0)) loose) → Touches device IsRecord f0 f1 → CopiesOf (length pool) pool (device.pages f1)
      → (page : Page) × (slice_get (device.pages f1) descriptor_page ≡ Some page) × Names pool page.bytes → Only (device.pages f1) (device.may_leave f1) → Touches device IsGate f1 f2 → SoFar loose f2
  second loose f1 f2 calm before wrote copies names synced run = record {
    moments = then_only device only told f0 f1 f2 (Either loose) (first loose f1 calm before wrote) (only_torn device only told IsGate f1 f2 (Either loose) run here);
    kept = recorded_after IsGate pool (device.pages f0) (device.pages f1) (device.pages f2) homes (λ p is. inl is) run.seen was;
  }
    where
      was : Recorded pool (device.pages f0) (device.pages f1)
      was = recorded f1 wrote copies names

      here : (c : List Page) → IsTorn IsGate (device.may_leave f1) c → Either loose c
      here c torn =
          let same : SameOutside IsGate (device.pages f1) c = subst (λ d. SameOutside IsGate d c) (synced torn.0 torn.1) torn.2 in
          by_gate same (is_or_not (is_open c))
        where
          at : SameOutside IsGate (device.pages f1) c → (p : ℕ) → IsPage p → slice_get c p ≡ stored_page (device.pages f0) p
          at same p page = same p (no_gate p page) ∙ wrote.seen p (outside p page) ∙ sym (stored_shut (device.pages f0) p closed)

          by_gate : SameOutside IsGate (device.pages f1) c → (is_open c ≡ true) ⊎ (is_open c ≡ false) → Either loose c
          by_gate same (inl gate) = inr (opened pool (device.pages f0) c some room homes distinct closed (recorded_after IsGate pool (device.pages f0) (device.pages f1) c homes (λ p is. inl is) same was) gate)
          by_gate same (inr gate) = inl (shut (stored_page (device.pages f0)) loose c gate (λ p lt. at same p (inl lt)) (λ p le tight. at same p (inr le)))

  -- The pages in place are written while the gate is open.
  pub third : (loose : List ℕ) (f2 f3 : F) → SoFar loose f2 → is_open (device.pages f2) ≡ true → Only (device.pages f2) (device.may_leave f2) → Touches device (IsStaged pool) f2 f3 → SoFar loose f3
  third loose f2 f3 before gate synced run = record {
    moments = then_only device only told f0 f2 f3 (Either loose) before.moments (only_torn device only told (IsStaged pool) f2 f3 (Either loose) run here);
    kept = recorded_after (IsStaged pool) pool (device.pages f0) (device.pages f2) (device.pages f3) homes (λ p is. inr is) run.seen before.kept;
  }
    where
      low : IsStaged pool gate_page → ⊥
      low is = omega (arith, staged_store pool gate_page homes is)

      here : (c : List Page) → IsTorn (IsStaged pool) (device.may_leave f2) c → Either loose c
      here c torn =
          let same : SameOutside (IsStaged pool) (device.pages f2) c = subst (λ d. SameOutside (IsStaged pool) d c) (synced torn.0 torn.1) torn.2 in
          inr (opened pool (device.pages f0) c some room homes distinct closed (recorded_after (IsStaged pool) pool (device.pages f0) (device.pages f2) c homes (λ p is. inr is) same before.kept) (gate_same c (device.pages f2) (same gate_page low) ∙ gate))

  -- The gate is closed before the pages in place.
  pub fourth : (loose : List ℕ) (f3 f4 : F) → SoFar loose f3 → HomesOf (length pool) pool (device.pages f3) → Only (device.pages f3) (device.may_leave f3) → Touches device IsGate f3 f4 → LeavesOnly device f0 f4 (Either loose)
  fourth loose f3 f4 before put synced run =
      then_only device only told f0 f3 f4 (Either loose) before.moments (only_torn device only told IsGate f3 f4 (Either loose) run here)
    where
      here : (c : List Page) → IsTorn IsGate (device.may_leave f3) c → Either loose c
      here c torn =
          let same : SameOutside IsGate (device.pages f3) c = subst (λ d. SameOutside IsGate d c) (synced torn.0 torn.1) torn.2 in
          by_gate (recorded_after IsGate pool (device.pages f0) (device.pages f3) c homes (λ p is. inl is) same before.kept) (λ i e lt is. same e.0 (λ gate. omega (arith, gate, homes i e is)) ∙ put i e lt is) (is_or_not (is_open c))
        where
          by_gate : Recorded pool (device.pages f0) c → HomesOf (length pool) pool c → (is_open c ≡ true) ⊎ (is_open c ≡ false) → Either loose c
          by_gate kept stand (inl gate) = inr (opened pool (device.pages f0) c some room homes distinct closed kept gate)
          by_gate kept stand (inr gate) = inr (closed_after pool (device.pages f0) c some room homes distinct closed kept stand gate)

  -- what the device stands for in the end
  pub ended : (f3 f4 : F) → Recorded pool (device.pages f0) (device.pages f3) → HomesOf (length pool) pool (device.pages f3) → Touches device IsGate f3 f4 → is_open (device.pages f4) ≡ false → StandsForList (current pool (device.pages f0)) (device.pages f4)
  ended f3 f4 was put run gate =
      listed pool (device.pages f0) (device.pages f4) some room homes distinct closed (recorded_after IsGate pool (device.pages f0) (device.pages f3) (device.pages f4) homes (λ p is. inl is) run.seen was)
      (λ i e lt is. run.seen e.0 (λ at. omega (arith, at, homes i e is)) ∙ put i e lt is) gate
