use Rattle.std.proofs.Common.{◌≡◌, ◌⊎◌, ◌+◌, ◌<◌, ◌≤◌, ◌++◌, inl, inr, Bool, true, false, ℕ, List, [], ◌∷◌, length, Option, None, Some, IsSome, unwrap_or, slice_get, get_or, set, take, refl, ap, ◌∙◌, sym, subst, arith, get_or-set_same, get_or-set_other}
use Rattle.std.proofs.lemmas.Bool.{cases_eq}
use Rattle.std.proofs.lemmas.List.{length-take}
use Rattle.flash_core.specs.declared.page.Page.{Page}
use Rattle.flash_core.specs.Memory.{uniform_page}
use Rattle.frame_pool.specs.declared.pool.Frame.{Frame}
use Rattle.frame_pool.specs.Staged.{staged_at, with_bytes_at, AreDistinct}
use Rattle.frame_pool.specs.Entries.{entries, AreLinked}
use Rattle.frame_pool.proofs.Places.{NoneBefore, NoneHas, none_staged, none_with, last_get, last_with, found_staged, found_with, distinct_push, entries_push, length_entries, take_push, linked_put}
use Rattle.frame_pool.proofs.pool.FramePool.place.Goals as goal
use Rattle.frame_pool.specs.declared.pool.TheConstants.{FRAMES}

at_end : (l m : List (ℕ × Page)) (n k : ℕ) (w : Page) → l ≡ m → n ≡ k → with_bytes_at l n w ≡ with_bytes_at m k w
at_end l m n k w same place = ap (λ (x : List (ℕ × Page)). with_bytes_at x n w) same ∙ ap (λ (x : ℕ). with_bytes_at m x w) place

some_left : (o : Option Page) (n : ℕ) → IsSome o ⊎ (n < FRAMES) → o ≡ None → n < FRAMES
some_left None n (inl some) none = absurd (cc some)
some_left (Some x) n (inl some) none = absurd (cc none)
some_left o n (inr lt) none = lt

-- every place still has its frame
filled_put : (bits : List Bool) (n at : ℕ) → at < length bits → ((k : ℕ) → 0 ≤ k → k < n → get_or bits k false ≡ true) → (k : ℕ) → 0 ≤ k → k < n → get_or (set bits at true) k false ≡ true
filled_put bits n at within all k le lt = elim (cases_eq k at) [
  | inl same ↦ ap (λ j. get_or (set bits at true) j false) same ∙ get_or-set_same bits at true false within
  | inr other ↦ get_or-set_other bits at k true false other ∙ all k le lt
]

-- what the first frames hold after one more
pushed : (items new : List Frame) (len : ℕ) (f : Frame) → len < length items → new ≡ set items len f → entries (take (len + 1) new) ≡ entries (take len items) ++ (f.number, f.page) ∷ []
pushed items new len f within is = ap (λ l. entries (take (len + 1) l)) is ∙ ap entries (take_push len items f within) ∙ entries_push (take len items) f

abbrev blank : ℕ → ℕ → Frame
blank number len = record { number = number; next = len + 1; page = uniform_page 0 }

pub put-requires : goal.put-requires
put-requires c =
    let items = c.self.inside.frames.items in
    let len = c.self.inside.len in
    let none = none_staged c.args.self.now c.args.page (subst (λ l. NoneHas l c.args.page) c.self.view_is c.in-None.ensures.none) in
    omega (arith, some_left (staged_at c.args.self.now c.args.page) (length c.args.self.now) c.requires none, ap length c.self.view_is, length_entries (take len items), length-take len items, c.self.inside.frames.ok.0, c.self.invariant.0, c.self.invariant.2)

pub invariant_of-self : goal.invariant_of-self
invariant_of-self c =
    let slots = c.self.inside.frames in
    let len = c.self.inside.len in
    let i = c.self.invariant in
    let none = none_staged c.args.self.now c.args.page (subst (λ l. NoneHas l c.args.page) c.self.view_is c.in-None.ensures.none) in
    let room : len < FRAMES = omega (arith, some_left (staged_at c.args.self.now c.args.page) (length c.args.self.now) c.requires none, ap length c.self.view_is, length_entries (take len slots.items), length-take len slots.items, slots.ok.0, i.0, i.2) in
    let within : len < length slots.items = omega (arith, room, slots.ok.0, i.0) in
    let f = blank c.args.page len in
    let put = c.put.ensures in
    let places = put.places in (
      places.count ∙ i.0,
      λ k le lt. subst (λ (bits : List Bool). get_or bits k false ≡ true) (sym put.filled) (filled_put slots.filled slots.len len (omega (arith, slots.ok.1, room, i.0)) i.1 k le (omega (arith, lt, places.count))),
      omega (arith, room),
      subst AreLinked (sym put.items) (linked_put slots.items len f refl i.3),
      subst AreDistinct (sym (pushed slots.items c.put.new.self.items len f within put.items)) (distinct_push (entries (take len slots.items)) c.args.page (uniform_page 0) c.in-None.ensures.none i.4),
      i.5 ∙ sym places.start,
      i.6 ∙ sym places.count,
      i.7,
    )

pub returns-in-Some-clause-found : goal.returns-in-Some-clause-found
returns-in-Some-clause-found c =
    let x = c.in-Some.ensures.some.0 in
    let is = subst (λ (l : List (ℕ × Page)). slice_get l c.in-Some.at ≡ Some (c.args.page, x)) c.self.view_is c.in-Some.ensures.some.1 in
    let none = subst (λ l. NoneBefore l c.in-Some.at c.args.page) c.self.view_is c.in-Some.ensures.first in
    is ∙ ap (λ (o : Option Page). Some (c.args.page, unwrap_or o (uniform_page 0))) (sym (found_staged c.args.self.now c.in-Some.at c.args.page x is none))

pub returns-in-Some-clause-bytes : goal.returns-in-Some-clause-bytes
returns-in-Some-clause-bytes c w =
    let x = c.in-Some.ensures.some.0 in
    let is = subst (λ (l : List (ℕ × Page)). slice_get l c.in-Some.at ≡ Some (c.args.page, x)) c.self.view_is c.in-Some.ensures.some.1 in
    let none = subst (λ l. NoneBefore l c.in-Some.at c.args.page) c.self.view_is c.in-Some.ensures.first in
    found_with c.args.self.now c.in-Some.at c.args.page x w is none

pub returns-in-None-clause-found : goal.returns-in-None-clause-found
returns-in-None-clause-found c =
    let slots = c.self.inside.frames in
    let len = c.self.inside.len in
    let i = c.self.invariant in
    let none = none_staged c.args.self.now c.args.page (subst (λ l. NoneHas l c.args.page) c.self.view_is c.in-None.ensures.none) in
    let room : len < FRAMES = omega (arith, some_left (staged_at c.args.self.now c.args.page) (length c.args.self.now) c.requires none, ap length c.self.view_is, length_entries (take len slots.items), length-take len slots.items, slots.ok.0, i.0, i.2) in
    let within : len < length slots.items = omega (arith, room, slots.ok.0, i.0) in
    let place : len ≡ length (entries (take len slots.items)) = omega (arith, length_entries (take len slots.items), length-take len slots.items, within) in
    ap (λ l. slice_get l len) (pushed slots.items c.put.new.self.items len (blank c.args.page len) within c.put.ensures.items) ∙ ap (slice_get (entries (take len slots.items) ++ (c.args.page, uniform_page 0) ∷ [])) place ∙ last_get (entries (take len slots.items)) (c.args.page, uniform_page 0)
    ∙ ap (λ (o : Option Page). Some (c.args.page, unwrap_or o (uniform_page 0))) (sym none)

pub returns-in-None-clause-bytes : goal.returns-in-None-clause-bytes
returns-in-None-clause-bytes c w =
    let slots = c.self.inside.frames in
    let len = c.self.inside.len in
    let i = c.self.invariant in
    let has = subst (λ l. NoneHas l c.args.page) c.self.view_is c.in-None.ensures.none in
    let none = none_staged c.args.self.now c.args.page has in
    let room : len < FRAMES = omega (arith, some_left (staged_at c.args.self.now c.args.page) (length c.args.self.now) c.requires none, ap length c.self.view_is, length_entries (take len slots.items), length-take len slots.items, slots.ok.0, i.0, i.2) in
    let within : len < length slots.items = omega (arith, room, slots.ok.0, i.0) in
    let place : len ≡ length (entries (take len slots.items)) = omega (arith, length_entries (take len slots.items), length-take len slots.items, within) in
    at_end _ (entries (take len slots.items) ++ (c.args.page, uniform_page 0) ∷ []) _ (length (entries (take len slots.items))) w (pushed slots.items c.put.new.self.items len (blank c.args.page len) within c.put.ensures.items) place
    ∙ last_with (entries (take len slots.items)) c.args.page (uniform_page 0) w ∙ ap (λ (l : List (ℕ × Page)). l ++ (c.args.page, w) ∷ []) c.self.view_is ∙ sym (none_with c.args.self.now c.args.page w has)
