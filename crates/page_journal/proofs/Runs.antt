-- How runs of device calls follow one another.
use Rattle.std.proofs.Common.{◌≡◌, inl, inr, ⊎_elim, ℕ, List, refl, ◌∙◌, arith}
use Rattle.flash_core.specs.declared.flash.Flash.{Ghosts as Flash}
use Rattle.flash_core.specs.declared.page.Page.{Page}
use Rattle.flash_core.specs.Device.{SameBut, NoneNew, AnyBytesIn, Elapses}
use Rattle.page_journal.specs.Moments.{LeavesOnly}
use Rattle.page_journal.specs.Touches.{SameOutside, IsTorn, Touches}

module _ {F T : Type 0} (device : Flash F) (only : (f : F) (c : List Page) → T → device.left_since f (device.moment f) c → device.may_leave f c) (told : T) where
  -- before the first call
  pub start : (inside : ℕ → Type 0) (f : F) → Touches device inside f f
  start inside f = record {
    seen = λ p out. refl;
    now = λ c m. (c, m, λ p out. refl);
    moments = record { later = omega arith; each = λ c left. (c, only f c told left, λ p out. refl); before = λ t c le left. inl left };
  }

  -- one call, after which power lost leaves what was possible before but for what is inside
  by_call : (inside : ℕ → Type 0) (old new : F) → SameOutside inside (device.pages old) (device.pages new) → ((c : List Page) → device.may_leave new c → IsTorn inside (device.may_leave old) c)
      → Elapses (device.moment old) (device.moment new) (device.left_since old) (device.left_since new) (device.may_leave new) → Touches device inside old new
  by_call inside old new seen now time = record {
    seen = seen;
    now = now;
    moments = record {
      later = time.later;
      each = λ c left. ⊎_elim (λ past. (c, only old c told past, λ p out. refl)) (now c) (time.nothing_else (device.moment old) c (omega arith) left);
      before = λ t c le left. ⊎_elim (λ past. inl past) (λ m. inr (now c m)) (time.nothing_else t c le left);
    };
  }

  pub by_write : (page : ℕ) (old new : F) → SameBut page (device.pages old) (device.pages new) → AnyBytesIn page (device.may_leave old) (device.may_leave new)
      → Elapses (device.moment old) (device.moment new) (device.left_since old) (device.left_since new) (device.may_leave new) → Touches device (λ p. p ≡ page) old new
  by_write page old new torn loss time = by_call (λ p. p ≡ page) old new (λ p out. torn.others p out) (λ c m. let w = loss c m in (w.0, w.1, λ p out. w.2.others p out)) time

  -- a read or a sync
  pub quiet : (inside : ℕ → Type 0) (old new : F) → device.pages new ≡ device.pages old → NoneNew (device.may_leave old) (device.may_leave new)
      → Elapses (device.moment old) (device.moment new) (device.left_since old) (device.left_since new) (device.may_leave new) → Touches device inside old new
  quiet inside old new same loss time = by_call inside old new (λ p out. rw same refl) (λ c m. (c, loss c m, λ p out. refl)) time

  pub goes_on : (inside : ℕ → Type 0) (old mid new : F) → Touches device inside old mid → Touches device inside mid new → Touches device inside old new
  goes_on inside old mid new first next = record {
    seen = λ p out. next.seen p out ∙ first.seen p out;
    now = λ c m. both c (next.now c m);
    moments = record {
      later = omega (arith, first.moments.later, next.moments.later);
      each = λ c left. ⊎_elim (first.moments.each c) (both c) (next.moments.before (device.moment old) c first.moments.later left);
      before = λ t c le left. ⊎_elim (first.moments.before t c le) (λ torn. inr (both c torn)) (next.moments.before t c (omega (arith, le, first.moments.later)) left);
    };
  }
    where
      both : (c : List Page) → IsTorn inside (device.may_leave mid) c → IsTorn inside (device.may_leave old) c
      both c torn = let d = first.now torn.0 torn.1 in (d.0, d.1, λ p out. torn.2 p out ∙ d.2 p out)

  pub wider : (inside more : ℕ → Type 0) (old new : F) → ((p : ℕ) → inside p → more p) → Touches device inside old new → Touches device more old new
  wider inside more old new in_more run = record {
    seen = λ p out. run.seen p (λ i. out (in_more p i));
    now = λ c m. torn c (run.now c m);
    moments = record {
      later = run.moments.later;
      each = λ c left. torn c (run.moments.each c left);
      before = λ t c le left. ⊎_elim (λ past. inl past) (λ t. inr (torn c t)) (run.moments.before t c le left);
    };
  }
    where
      torn : (c : List Page) → IsTorn inside (device.may_leave old) c → IsTorn more (device.may_leave old) c
      torn c t = (t.0, t.1, λ p out. t.2 p (λ i. out (in_more p i)))

  -- whatever a run leaves has P, and then whatever the next one leaves
  pub then_only : (old mid new : F) (P : List Page → Type 0) → LeavesOnly device old mid P → LeavesOnly device mid new P → LeavesOnly device old new P
  then_only old mid new P first next = record {
    later = omega (arith, first.later, next.later);
    each = λ c left. ⊎_elim (first.each c) (λ p. p) (next.before (device.moment old) c first.later left);
    before = λ t c le left. ⊎_elim (first.before t c le) (λ p. inr p) (next.before t c (omega (arith, le, first.later)) left);
  }

  -- what is torn has P
  pub only_torn : (inside : ℕ → Type 0) (old new : F) (P : List Page → Type 0) → Touches device inside old new → ((c : List Page) → IsTorn inside (device.may_leave old) c → P c) → LeavesOnly device old new P
  only_torn inside old new P run here = record {
    later = run.moments.later;
    each = λ c left. here c (run.moments.each c left);
    before = λ t c le left. ⊎_elim (λ past. inl past) (λ torn. inr (here c torn)) (run.moments.before t c le left);
  }
