-- The two parts of the end of a commit that was cut off, at every moment.
use Rattle.std.proofs.Common.{◌≡◌, ◌≢◌, inl, inr, ⊎_elim, true, false, ℕ, ◌+◌, ◌<◌, ◌≤◌, List, slice_get, get_or, sym, ap, ◌∙◌, subst, arith}
use Rattle.flash_core.specs.declared.flash.Flash.{Ghosts as Flash}
use Rattle.flash_core.specs.declared.page.Page.{Page}
use Rattle.flash_core.specs.Device.{Only}
use Rattle.page_journal.specs.Journal.{is_open, descriptor, IsValid, copied_place, stored_page}
use Rattle.page_journal.specs.Moments.{Always, LeavesOnly, Leaves}
use Rattle.page_journal.specs.Phases.{IsInDescriptor, CopiesHome}
use Rattle.page_journal.specs.Store.{SameBelow, StandsForList}
use Rattle.page_journal.specs.Touches.{SameOutside, IsTorn, Touches}
use Rattle.page_journal.proofs.Runs.{only_torn}
use Rattle.page_journal.proofs.Descriptors.{where_is}
use Rattle.page_journal.proofs.PageKinds.{IsGate, IsPage, IsPastStore, copy_page, descriptor_page, gate_page}
use Rattle.page_journal.proofs.Lists.{gate_same, descriptor_same, no_gate, stored_shut, stored_open, shut}
use Rattle.page_journal.proofs.Commits.{is_or_not}

-- where a page stands, it is named for no copy
unnamed_place : (bytes : List ℕ) (p : ℕ) → IsValid bytes → IsInDescriptor bytes (copied_place bytes p) → ⊥
unnamed_place bytes p valid named = ⊎_elim
    (λ (f : (at : ℕ) × (0 ≤ at) × (at < 0 + get_or bytes 0 0) × (get_or bytes (at + 1) 0 ≡ p) × (copied_place bytes p ≡ copy_page at)). absurd (omega (arith, f.4, named.2, valid.homes named.0 named.1)))
    (λ (m : ((k : ℕ) → 0 ≤ k → k < 0 + get_or bytes 0 0 → get_or bytes (k + 1) 0 ≢ p) × (copied_place bytes p ≡ p)). absurd (m.0 named.0 (omega arith) (omega (arith, named.1)) (named.2 ∙ m.1)))
    (where_is bytes 0 (get_or bytes 0 0) p)

no_gate_place : (bytes : List ℕ) (p : ℕ) → IsPage p → IsGate (copied_place bytes p) → ⊥
no_gate_place bytes p page is = ⊎_elim
    (λ (f : (at : ℕ) × (0 ≤ at) × (at < 0 + get_or bytes 0 0) × (get_or bytes (at + 1) 0 ≡ p) × (copied_place bytes p ≡ copy_page at)). absurd (omega (arith, f.4, is)))
    (λ (m : ((k : ℕ) → 0 ≤ k → k < 0 + get_or bytes 0 0 → get_or bytes (k + 1) 0 ≢ p) × (copied_place bytes p ≡ p)). no_gate p page (sym m.1 ∙ is))
    (where_is bytes 0 (get_or bytes 0 0) p)

-- pages with the same journal stand for the same list, where the places of its pages are the same
same_list : (a b : List Page) (p : ℕ) → is_open a ≡ true → slice_get b gate_page ≡ slice_get a gate_page → slice_get b descriptor_page ≡ slice_get a descriptor_page → slice_get b (copied_place (descriptor a) p) ≡ slice_get a (copied_place (descriptor a) p) → stored_page b p ≡ stored_page a p
same_list a b p gate at_gate at_descriptor at =
    stored_open b p (gate_same b a at_gate ∙ gate) ∙ ap (λ bytes. slice_get b (copied_place bytes p)) (descriptor_same b a at_descriptor) ∙ at ∙ sym (stored_open a p gate)

module _ {F T : Type 0} (device : Flash F) (only : (f : F) (c : List Page) → T → device.left_since f (device.moment f) c → device.may_leave f c) (told : T)
    (bytes : List ℕ) (valid : IsValid bytes) (f0 : F) (gate : is_open (device.pages f0) ≡ true) (named : descriptor (device.pages f0) ≡ bytes) where
  -- The copies are written in place while the gate is open.
  pub copied : (loose : List ℕ) (f1 : F) → Always (device.may_leave f0) (SameBelow (device.pages f0)) → Always (device.may_leave f0) (Leaves (stored_page (device.pages f0)) loose) → Touches device (IsInDescriptor bytes) f0 f1
      → LeavesOnly device f0 f1 (Leaves (stored_page (device.pages f0)) loose)
  copied loose f1 calm before run = only_torn device only told (IsInDescriptor bytes) f0 f1 (Leaves (stored_page (device.pages f0)) loose) run here
    where
      high : (p : ℕ) → IsPastStore p → IsInDescriptor bytes p → ⊥
      high p le n = omega (arith, le, n.2, valid.homes n.0 n.1)

      here : (c : List Page) → IsTorn (IsInDescriptor bytes) (device.may_leave f0) c → Leaves (stored_page (device.pages f0)) loose c
      here c torn =
          let d = torn.0 in
          let below = calm d torn.1 in
          let was = before d torn.1 in
          let gate_d : is_open d ≡ true = gate_same d (device.pages f0) (below gate_page (omega arith)) ∙ gate in
          let named_d : descriptor d ≡ bytes = descriptor_same d (device.pages f0) (below descriptor_page (omega arith)) ∙ named in
          let at_gate = torn.2 gate_page (high gate_page (omega arith)) in
          let at_descriptor = torn.2 descriptor_page (high descriptor_page (omega arith)) in
          let same : (p : ℕ) → stored_page c p ≡ stored_page d p = λ p. same_list d c p gate_d at_gate at_descriptor (torn.2 (copied_place (descriptor d) p) (λ n. unnamed_place bytes p valid (subst (λ b. IsInDescriptor bytes (copied_place b p)) named_d n))) in
          record {
            sound = λ _. subst IsValid (sym (descriptor_same c d at_descriptor ∙ named_d)) valid;
            store = λ p lt. same p ∙ was.store p lt;
            load = λ p le tight. same p ∙ was.load p le tight;
          }

  module _ (f1 : F) (c : List Page) (run : Touches device (IsInDescriptor bytes) f0 f1) (put : CopiesHome (get_or bytes 0 0) bytes (device.pages f0) (device.pages f1)) (same : SameOutside IsGate (device.pages f1) c) where
    high1 : (p : ℕ) → IsPastStore p → IsInDescriptor bytes p → ⊥
    high1 p le n = omega (arith, le, n.2, valid.homes n.0 n.1)

    desc : slice_get c descriptor_page ≡ slice_get (device.pages f0) descriptor_page
    desc = same descriptor_page (λ is. omega (arith, is)) ∙ run.seen descriptor_page (high1 descriptor_page (omega arith))

    -- with the open gate the copies count
    at_copy : (p : ℕ) → IsPage p → is_open c ≡ true → stored_page c p ≡ stored_page (device.pages f0) p
    at_copy p page opened =
        let there : slice_get c (copied_place bytes p) ≡ slice_get (device.pages f0) (copied_place bytes p) = same (copied_place bytes p) (no_gate_place bytes p page) ∙ run.seen (copied_place bytes p) (unnamed_place bytes p valid) in
        stored_open c p opened ∙ ap (λ b. slice_get c (copied_place b p)) (descriptor_same c (device.pages f0) desc ∙ named) ∙ there ∙ ap (λ b. slice_get (device.pages f0) (copied_place b p)) (sym named) ∙ sym (stored_open (device.pages f0) p gate)

    -- with the closed one the pages in place
    pub at_home : (p : ℕ) → IsPage p → slice_get c p ≡ stored_page (device.pages f0) p
    at_home p page =
        same p (no_gate p page) ∙ ⊎_elim
        (λ (f : (at : ℕ) × (0 ≤ at) × (at < 0 + get_or bytes 0 0) × (get_or bytes (at + 1) 0 ≡ p) × (copied_place bytes p ≡ copy_page at)).
        ap (slice_get (device.pages f1)) (sym f.3) ∙ put f.0 (omega (arith, f.2)) ∙ ap (slice_get (device.pages f0)) (sym f.4) ∙ back)
        (λ (m : ((k : ℕ) → 0 ≤ k → k < 0 + get_or bytes 0 0 → get_or bytes (k + 1) 0 ≢ p) × (copied_place bytes p ≡ p)).
        run.seen p (λ n. m.0 n.0 (omega arith) (omega (arith, n.1)) n.2) ∙ ap (slice_get (device.pages f0)) (sym m.1) ∙ back)
        (where_is bytes 0 (get_or bytes 0 0) p)
      where
        back : slice_get (device.pages f0) (copied_place bytes p) ≡ stored_page (device.pages f0) p
        back = ap (λ b. slice_get (device.pages f0) (copied_place b p)) (sym named) ∙ sym (stored_open (device.pages f0) p gate)

    pub leaves : (loose : List ℕ) → Leaves (stored_page (device.pages f0)) loose c
    leaves loose = ⊎_elim
        (λ (opened : is_open c ≡ true). record {
          sound = λ _. subst IsValid (sym (descriptor_same c (device.pages f0) desc ∙ named)) valid;
          store = λ p lt. at_copy p (inl lt) opened;
          load = λ p le tight. at_copy p (inr le) opened;
        })
        (λ (closed : is_open c ≡ false). shut (stored_page (device.pages f0)) loose c closed (λ p lt. at_home p (inl lt)) (λ p le tight. at_home p (inr le)))
        (is_or_not (is_open c))

    pub settled : is_open c ≡ false → StandsForList (stored_page (device.pages f0)) c
    settled closed p page = stored_shut c p closed ∙ at_home p page

  -- Then the gate is closed.
  pub closing : (loose : List ℕ) (f1 f2 : F) → Touches device (IsInDescriptor bytes) f0 f1 → CopiesHome (get_or bytes 0 0) bytes (device.pages f0) (device.pages f1) → Only (device.pages f1) (device.may_leave f1) → Touches device IsGate f1 f2
      → LeavesOnly device f1 f2 (Leaves (stored_page (device.pages f0)) loose)
  closing loose f1 f2 wrote put synced run =
      only_torn device only told IsGate f1 f2 (Leaves (stored_page (device.pages f0)) loose) run (λ c torn. leaves f1 c wrote put (subst (λ d. SameOutside IsGate d c) (synced torn.0 torn.1) torn.2) loose)
