-- How a device in memory goes on by one call.
use Rattle.std.proofs.Common.{◌≡◌, ◌≢◌, ◌⊎◌, inl, inr, Bool, true, false, ℕ, zero, suc, ◌+◌, ◌<◌, ◌≤◌, List, [], ◌∷◌, ◌++◌, length, Some, None, slice_get, set, get_or, replicate, Result, Ok, Err, OnOk, OnErr, refl, sym, ap, subst, ◌∙◌, arith, length-append}
use Rattle.std.proofs.lemmas.Bool.{cases_eq, cases_lt}
use Rattle.std.proofs.lemmas.List.{take-append-le}
use Rattle.std.proofs.lemmas.Option.{slice_get-get_or, slice_get_cases, slice_get_past}
use Rattle.faults.specs.Faults.{next_count}
use Rattle.flash_core.specs.declared.page.Page.{Page}
use Rattle.flash_core.specs.declared.memory.Call.{Call}
use Rattle.flash_core.specs.declared.memory.Call.TheVariants.{Write, Sync}
use Rattle.flash_core.specs.Device.{SameBut, NoneNew, AnyBytesIn, Only, Elapses}
use Rattle.flash_core.specs.Replay.{Medium, settled_medium, after_call, after_calls, MayLeave}
use Rattle.flash_core.specs.Memory.{MemoryFlash, medium, medium_at, LeftSince, CutBy}
use Rattle.flash_core.specs.MemoryLaws.{at_the_end}
use Rattle.flash_core.proofs.PageLists.{get_set_same, get_set_other, length_set, same_lists}

pub after_push : (m : Medium) (calls : List Call) (call : Call) → after_calls m (calls ++ call ∷ []) ≡ after_call (after_calls m calls) call
after_push m [] call = refl
after_push m (c ∷ calls) call = after_push (after_call m c) calls call

-- the device with one call more
abbrev pub with_call : MemoryFlash → Call → MemoryFlash
with_call m call = record m { calls = m.calls ++ call ∷ [] }

-- the device with one fault more
abbrev pub with_fault : MemoryFlash → MemoryFlash
with_fault m = record m { faults = next_count m.faults }

pub medium_with : (m : MemoryFlash) (call : Call) → medium (with_call m call) ≡ after_call (medium m) call
medium_with m call = after_push (settled_medium m.first) m.calls call

none_true : (n page : ℕ) → slice_get (replicate n false) page ≢ Some true
none_true zero page is = absurd (cc is)
none_true (suc n) zero is = absurd (cc is)
none_true (suc n) (suc page) is = none_true n page is

pub synced : (m : Medium) (kept : List Page) (written : List Bool) → kept ≡ m.seen → written ≡ replicate (length m.written) false → after_call m Sync ≡ record { seen = m.seen; kept = kept; written = written }
synced m kept written k w = λ i. record { seen = m.seen; kept = sym k i; written = sym w i }

-- nothing is pending
pub at_first : (first seen kept : List Page) (written : List Bool) (calls : List Call) (pages : List Page) → first ≡ pages → seen ≡ pages → kept ≡ pages → written ≡ replicate (length pages) false → calls ≡ []
    → after_calls (settled_medium first) calls ≡ record { seen = seen; kept = kept; written = written }
at_first first seen kept written calls pages f s k w none =
    ap (after_calls (settled_medium first)) none ∙ ap settled_medium f ∙ (λ i. record { seen = sym s i; kept = sym k i; written = sym w i })

-- after a sync
pub synced_only : (m : Medium) → Only m.seen (MayLeave (after_call m Sync))
synced_only m outcome left = same_lists outcome m.seen (λ page. left.others page (none_true (length m.written) page))

pub synced_loss : (m : Medium) → NoneNew (MayLeave m) (MayLeave (after_call m Sync))
synced_loss m outcome left = subst (λ (pages : List Page). MayLeave m pages) (sym (synced_only m outcome left)) (record { count = refl; others = λ page w. refl })

-- after a write
pub written_torn : (m : Medium) (page : ℕ) (content : Page) → SameBut page m.seen (after_call m (Write page content)).seen
written_torn m page content = record { count = length_set m.seen page content; others = λ other ne. get_set_other m.seen page other content ne }

pub written_loss : (m : Medium) (page : ℕ) (content : Page) → page < length m.seen → AnyBytesIn page (MayLeave m) (MayLeave (after_call m (Write page content)))
written_loss m page content within outcome left = (before, was, record { count = sym (length_set outcome page had); others = λ other ne. sym (get_set_other outcome page other had ne) })
  where
    had : Page
    had = get_or m.seen page content

    before : List Page
    before = set outcome page had

    long : length outcome ≡ length m.seen
    long = left.count ∙ length_set m.seen page content

    at : (other : ℕ) → (other ≡ page) ⊎ (other ≢ page) → slice_get m.written other ≢ Some true → slice_get before other ≡ slice_get m.seen other
    at other (inl same) whole = subst (λ (o : ℕ). slice_get before o ≡ slice_get m.seen o) (sym same) (get_set_same outcome page had (omega (arith, long)) ∙ sym (slice_get-get_or m.seen page content within))
    at other (inr ne) whole =
        get_set_other outcome page other had ne ∙ left.others other (λ is. whole (sym (get_set_other m.written page other true ne) ∙ is)) ∙ get_set_other m.seen page other content ne

    was : MayLeave m before
    was = record { count = length_set outcome page had ∙ long; others = λ other whole. at other (cases_eq other page) whole }

-- time goes on by one call
pub elapses : (m : MemoryFlash) (call : Call) → Elapses (length m.calls) (length (with_call m call).calls) (LeftSince m) (LeftSince (with_call m call)) (MayLeave (medium (with_call m call)))
elapses m call = record {
  later = omega (arith, more);
  nothing_else = λ t outcome le since. went t outcome since (cases_lt (length m.calls) since.moment);
  keeps = λ t outcome le past. record {
    moment = past.moment;
    later = past.later;
    past = omega (arith, more, past.past);
    left = subst (λ (n : Medium). MayLeave n outcome) (sym (earlier past.moment past.past)) past.left;
  };
}
  where
    n : MemoryFlash
    n = with_call m call

    more : length n.calls ≡ length m.calls + 1
    more = length-append m.calls (call ∷ [])

    earlier : (moment : ℕ) → moment ≤ length m.calls → medium_at n moment ≡ medium_at m moment
    earlier moment le = ap (after_calls (settled_medium m.first)) (take-append-le moment m.calls (call ∷ []) le)

    went : (t : ℕ) (outcome : List Page) → (since : LeftSince n t outcome) → (length m.calls < since.moment) ⊎ (since.moment ≤ length m.calls) → LeftSince m t outcome ⊎ MayLeave (medium n) outcome
    went t outcome since (inr le) = inl (record { moment = since.moment; later = since.later; past = le; left = subst (λ (x : Medium). MayLeave x outcome) (earlier since.moment le) since.left })
    went t outcome since (inl lt) = inr (subst (λ (x : Medium). MayLeave x outcome) (at_the_end n since.moment (omega (arith, more))) since.left)

-- a call that was refused left everything
pub stands : (m : MemoryFlash) → Elapses (length m.calls) (length m.calls) (LeftSince m) (LeftSince (with_fault m)) (MayLeave (medium m))
stands m = record {
  later = omega arith;
  nothing_else = λ t outcome le since. inl (record { moment = since.moment; later = since.later; past = since.past; left = since.left });
  keeps = λ t outcome le past. record { moment = past.moment; later = past.later; past = past.past; left = past.left };
}

-- what a power cut leaves is one of the outcomes
pub cut_outcome : (seed : ℕ) (m : Medium) (pages : List Page) → length m.kept ≡ length m.seen → length m.written ≡ length m.seen → CutBy seed m pages → MayLeave m pages
cut_outcome seed m pages kept written cut = record { count = cut.count; others = λ page whole. at page whole (slice_get_cases m.seen page).1 (slice_get_cases m.kept page).1 (slice_get_cases m.written page).1 }
  where
    Found : {X : Type 0} → List X → ℕ → Type 0
    Found {X} xs page = ((x : X) × (page < length xs) × (slice_get xs page ≡ Some x) × (get_or xs page x ≡ x)) ⊎ ((length xs ≤ page) × (slice_get xs page ≡ None))

    stays : (page : ℕ) (seen kept : Page) (b : Bool) → b ≢ true → slice_get m.seen page ≡ Some seen → slice_get m.kept page ≡ Some kept → slice_get m.written page ≡ Some b → slice_get pages page ≡ slice_get m.seen page
    stays page seen kept true ne s k w = absurd (ne refl)
    stays page seen kept false ne s k w = cut.each page seen kept false s k w ∙ sym s

    at : (page : ℕ) → slice_get m.written page ≢ Some true → Found m.seen page → Found m.kept page → Found m.written page → slice_get pages page ≡ slice_get m.seen page
    at page whole (inl s) (inl k) (inl w) = stays page s.0 k.0 w.0 (λ is. whole (w.2 ∙ ap Some is)) s.2 k.2 w.2
    at page whole (inl s) (inr k) w = absurd (omega (arith, kept, s.1, k.0))
    at page whole (inl s) (inl k) (inr w) = absurd (omega (arith, written, s.1, w.0))
    at page whole (inr s) k w = slice_get_past pages page (omega (arith, cut.count, s.0)) ∙ sym s.1

-- what holds of a device that took the call and of one that refused it
pub either : {T E : Type 0} (result : Result T E) (call : Call) (m new : MemoryFlash) (P : MemoryFlash → Type 0)
    → OnOk result (new ≡ with_call m call) → OnErr result (new ≡ with_fault m) → P (with_call m call) → P (with_fault m) → P new
either (Ok x) call m new P ok err taken refused = subst P (sym ok) taken
either (Err e) call m new P ok err taken refused = subst P (sym err) refused

-- what holds of a device that took the call
pub on_taken : {T E : Type 0} (result : Result T E) (call : Call) (m new : MemoryFlash) (P : MemoryFlash → Type 0) → OnOk result (new ≡ with_call m call) → P (with_call m call) → OnOk result (P new)
on_taken (Ok x) call m new P ok taken = subst P (sym ok) taken
on_taken (Err e) call m new P ok taken = tt
