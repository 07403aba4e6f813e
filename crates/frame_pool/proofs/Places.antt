-- Staged pages by their places.
use Rattle.std.proofs.Common.{◌≡◌, ◌≢◌, ◌⊎◌, inl, inr, ℕ, zero, suc, ◌+◌, ◌<◌, ◌≤◌, List, [], ◌∷◌, ◌++◌, length, take, get_or, set, Some, None, slice_get, option_map, refl, sym, ap, ◌∙◌, arith}
use Rattle.std.proofs.lemmas.Bool.{cases_eq}
use Rattle.std.proofs.lemmas.Bool.Decides.{nat_tests}
use Rattle.std.proofs.lemmas.Option.{slice_get-get_or, slice_get-map, slice_get_within}
use Rattle.flash_core.specs.declared.page.Page.{Page}
use Rattle.flash_core.proofs.PageLists.{get_set_same, get_set_other, length_set}
use Rattle.frame_pool.specs.declared.pool.Frame.{Frame}
use Rattle.frame_pool.specs.Entries.{entries, AreLinked}
use Rattle.frame_pool.specs.Staged.{staged_at, with_page, with_bytes_at, AreDistinct}

abbrev Pages : Type 0
Pages = List (ℕ × Page)

entry : Frame → ℕ × Page
entry f = (f.number, f.page)

-- what a frame holds
pub at_place : (frames : List Frame) (at : ℕ) (d : Frame) → at < length frames → slice_get (entries frames) at ≡ Some ((get_or frames at d).number, (get_or frames at d).page)
at_place frames at d lt = slice_get-map (λ f. (f.number, f.page)) frames at ∙ ap (option_map (λ f. (f.number, f.page))) (slice_get-get_or frames at d lt)

pub length_entries : (frames : List Frame) → length (entries frames) ≡ length frames
length_entries [] = refl
length_entries (f ∷ frames) = ap suc (length_entries frames)

-- no page before this place has the number
abbrev pub NoneBefore : Pages → ℕ → ℕ → Type 0
NoneBefore pages at number = (k : ℕ) (s : ℕ × Page) → k < at → slice_get pages k ≡ Some s → s.0 ≢ number

abbrev pub NoneHas : Pages → ℕ → Type 0
NoneHas pages number = (k : ℕ) (s : ℕ × Page) → slice_get pages k ≡ Some s → s.0 ≢ number

-- one place more has another number
pub more : (frames : List Frame) (at number : ℕ) (d : Frame) → at < length frames → NoneBefore (entries frames) at number → (get_or frames at d).number ≢ number → NoneBefore (entries frames) (at + 1) number
more frames at number d lt before ne k s le is = by_place k s is (cases_eq k at) le
  where
    by_place : (k : ℕ) (s : ℕ × Page) → slice_get (entries frames) k ≡ Some s → (k ≡ at) ⊎ (k ≢ at) → k < at + 1 → s.0 ≢ number
    by_place k s is (inl same) le = let here : Some s ≡ Some ((get_or frames at d).number, (get_or frames at d).page) = sym is ∙ ap (λ n. slice_get (entries frames) n) same ∙ at_place frames at d lt in λ e. ne (sym (cc here) ∙ e)
    by_place k s is (inr other) le = before k s (omega (arith, other, le)) is

first : (pages : Pages) (e : ℕ × Page) (number : ℕ) → NoneHas (e ∷ pages) number → e.0 ≢ number
first pages e number none = none zero e refl

rest : (pages : Pages) (e : ℕ × Page) (number : ℕ) → NoneHas (e ∷ pages) number → NoneHas pages number
rest pages e number none = λ k s is. none (suc k) s is

pub none_staged : (pages : Pages) (number : ℕ) → NoneHas pages number → staged_at pages number ≡ None
none_staged [] number none = refl
none_staged (e ∷ pages) number none = let ne = first pages e number none in let tail = none_staged pages number (rest pages e number none) in grind (arith, nat_tests)

pub none_with : (pages : Pages) (number : ℕ) (page : Page) → NoneHas pages number → with_page pages number page ≡ pages ++ (number, page) ∷ []
none_with [] number page none = refl
none_with (e ∷ pages) number page none = let ne = first pages e number none in let tail = none_with pages number page (rest pages e number none) in grind (arith, nat_tests)

pub last_with : (pages : Pages) (number : ℕ) (z page : Page) → with_bytes_at (pages ++ (number, z) ∷ []) (length pages) page ≡ pages ++ (number, page) ∷ []
last_with [] number z page = refl
last_with (e ∷ pages) number z page = ap (λ l. e ∷ l) (last_with pages number z page)

pub last_get : (pages : Pages) (e : ℕ × Page) → slice_get (pages ++ e ∷ []) (length pages) ≡ Some e
last_get [] e = refl
last_get (f ∷ pages) e = last_get pages e

pub found_staged : (pages : Pages) (at number : ℕ) (page : Page) → slice_get pages at ≡ Some (number, page) → NoneBefore pages at number → staged_at pages number ≡ Some page
found_staged [] at number page is none = absurd (cc is)
found_staged (e ∷ pages) zero number page is none = let here : e ≡ (number, page) = cc is in rw here (grind (arith, nat_tests))
found_staged (e ∷ pages) (suc at) number page is none = let ne : e.0 ≢ number = none zero e (omega arith) refl in
    let tail = found_staged pages at number page is (λ k s lt there. none (suc k) s (omega arith) there) in grind (arith, nat_tests)

pub found_with : (pages : Pages) (at number : ℕ) (page w : Page) → slice_get pages at ≡ Some (number, page) → NoneBefore pages at number → with_bytes_at pages at w ≡ with_page pages number w
found_with [] at number page w is none = absurd (cc is)
found_with (e ∷ pages) zero number page w is none = let here : e ≡ (number, page) = cc is in rw here (grind (arith, nat_tests))
found_with (e ∷ pages) (suc at) number page w is none = let ne : e.0 ≢ number = none zero e (omega arith) refl in
    let tail = found_with pages at number page w is (λ k s lt there. none (suc k) s (omega arith) there) in grind (arith, nat_tests)

-- writing the bytes of a frame
pub set_bytes : (frames : List Frame) (at : ℕ) (f : Frame) (w : Page) → slice_get frames at ≡ Some f → entries (set frames at (record { number = f.number; next = f.next; page = w })) ≡ with_bytes_at (entries frames) at w
set_bytes [] at f w is = absurd (cc is)
set_bytes (g ∷ frames) zero f w is = let same : g ≡ f = cc is in ap (λ (x : Frame). (x.number, w) ∷ entries frames) (sym same)
set_bytes (g ∷ frames) (suc at) f w is = ap (λ l. (g.number, g.page) ∷ l) (set_bytes frames at f w is)

-- the first frames
pub get_take : {X : Type 0} (n k : ℕ) (xs : List X) → k < n → slice_get (take n xs) k ≡ slice_get xs k
get_take zero k xs lt = absurd (omega arith)
get_take (suc n) k [] lt = refl
get_take (suc n) zero (x ∷ xs) lt = refl
get_take (suc n) (suc k) (x ∷ xs) lt = get_take n k xs (omega (arith, lt))

pub take_set : {X : Type 0} (n k : ℕ) (xs : List X) (x : X) → k < n → take n (set xs k x) ≡ set (take n xs) k x
take_set zero k xs x lt = absurd (omega arith)
take_set (suc n) k [] x lt = refl
take_set (suc n) zero (y ∷ xs) x lt = refl
take_set (suc n) (suc k) (y ∷ xs) x lt = ap (λ l. y ∷ l) (take_set n k xs x (omega (arith, lt)))

take_next : {X : Type 0} (n : ℕ) (xs : List X) (x : X) → n < length xs → take (suc n) (set xs n x) ≡ take n xs ++ x ∷ []
take_next n [] x lt = absurd (omega arith)
take_next zero (y ∷ xs) x lt = refl
take_next (suc n) (y ∷ xs) x lt = ap (λ l. y ∷ l) (take_next n xs x (omega (arith, lt)))

pub take_push : {X : Type 0} (n : ℕ) (xs : List X) (x : X) → n < length xs → take (n + 1) (set xs n x) ≡ take n xs ++ x ∷ []
take_push n xs x lt = let next : n + 1 ≡ suc n = omega arith in ap (λ m. take m (set xs n x)) next ∙ take_next n xs x lt

pub get_set : {X : Type 0} (xs : List X) (i j : ℕ) (x y : X) → slice_get (set xs i x) j ≡ Some y → ((j ≡ i) × (y ≡ x)) ⊎ ((j ≢ i) × (slice_get xs j ≡ Some y))
get_set xs i j x y is = elim (cases_eq j i) [
  | inl same ↦ inl (same, at_same xs i j x y same is)
  | inr other ↦ inr (other, sym (get_set_other xs i j x other) ∙ is)
]
  where
    at_same : {X : Type 0} (xs : List X) (i j : ℕ) (x y : X) → j ≡ i → slice_get (set xs i x) j ≡ Some y → y ≡ x
    at_same xs i j x y same is =
        let within : i < length xs = omega (arith, slice_get_within (set xs i x) j y is, length_set xs i x, same) in
        let got : Some x ≡ Some y = sym (get_set_same xs i x within) ∙ ap (slice_get (set xs i x)) (sym same) ∙ is in
        let e : x ≡ y = cc got in sym e

-- a frame and what it holds
pub entry_of : (frames : List Frame) (at : ℕ) (f : Frame) → slice_get frames at ≡ Some f → slice_get (entries frames) at ≡ Some (f.number, f.page)
entry_of frames at f is = slice_get-map (λ f. (f.number, f.page)) frames at ∙ ap (option_map (λ f. (f.number, f.page))) is

pub more_of : (pages : Pages) (at number : ℕ) (e : ℕ × Page) → slice_get pages at ≡ Some e → NoneBefore pages at number → e.0 ≢ number → NoneBefore pages (at + 1) number
more_of pages at number e is before ne k s lt there = by_place (cases_eq k at)
  where
    by_place : (k ≡ at) ⊎ (k ≢ at) → s.0 ≢ number
    by_place (inl same) = let got : Some e ≡ Some s = sym is ∙ (ap (slice_get pages) (sym same) ∙ there) in let eq : e ≡ s = cc got in λ has. ne (ap (λ (o : ℕ × Page). o.0) eq ∙ has)
    by_place (inr other) = before k s (omega (arith, lt, other)) there

number_kept : (pages : Pages) (at : ℕ) (w : Page) (i : ℕ) (a : ℕ × Page) → slice_get (with_bytes_at pages at w) i ≡ Some a → (b : ℕ × Page) × (slice_get pages i ≡ Some b) × (a.0 ≡ b.0)
number_kept [] at w i a is = absurd (cc is)
number_kept (e ∷ pages) zero w zero a is = let same : a ≡ (e.0, w) = sym (cc is) in (e, refl, ap (λ (o : ℕ × Page). o.0) same)
number_kept (e ∷ pages) zero w (suc i) a is = (a, is, refl)
number_kept (e ∷ pages) (suc at) w zero a is = (a, is, refl)
number_kept (e ∷ pages) (suc at) w (suc i) a is = number_kept pages at w i a is

pub distinct_with : (pages : Pages) (at : ℕ) (w : Page) → AreDistinct pages → AreDistinct (with_bytes_at pages at w)
distinct_with pages at w distinct i j a b ai bj same =
    let x = number_kept pages at w i a ai in
    let y = number_kept pages at w j b bj in
    distinct i j x.0 y.0 x.1 y.1 (sym x.2 ∙ same ∙ y.2)

pushed : (pages : Pages) (e : ℕ × Page) (i : ℕ) (a : ℕ × Page) → slice_get (pages ++ e ∷ []) i ≡ Some a → (slice_get pages i ≡ Some a) ⊎ ((i ≡ length pages) × (a ≡ e))
pushed [] e zero a is = inr (refl, cc is)
pushed [] e (suc i) a is = absurd (cc is)
pushed (f ∷ pages) e zero a is = inl is
pushed (f ∷ pages) e (suc i) a is = elim (pushed pages e i a is) [ inl old ↦ inl old | inr new ↦ inr (ap suc new.0, new.1) ]

pub distinct_push : (pages : Pages) (number : ℕ) (page : Page) → NoneHas pages number → AreDistinct pages → AreDistinct (pages ++ (number, page) ∷ [])
distinct_push pages number page none distinct i j a b ai bj same = by_place (pushed pages (number, page) i a ai) (pushed pages (number, page) j b bj)
  where
    by_place : (slice_get pages i ≡ Some a) ⊎ ((i ≡ length pages) × (a ≡ (number, page))) → (slice_get pages j ≡ Some b) ⊎ ((j ≡ length pages) × (b ≡ (number, page))) → i ≡ j
    by_place (inl x) (inl y) = distinct i j a b x y same
    by_place (inl x) (inr y) = absurd (none i a x (same ∙ ap (λ (o : ℕ × Page). o.0) y.1))
    by_place (inr x) (inl y) = absurd (none j b y (sym same ∙ ap (λ (o : ℕ × Page). o.0) x.1))
    by_place (inr x) (inr y) = x.0 ∙ sym y.0

pub here : (frames : List Frame) (at number : ℕ) (d : Frame) → at < length frames → (get_or frames at d).number ≡ number → (x : Page) × (slice_get (entries frames) at ≡ Some (number, x))
here frames at number d lt is = ((get_or frames at d).page, at_place frames at d lt ∙ ap (λ n. Some (n, (get_or frames at d).page)) is)

pub entries_push : (frames : List Frame) (f : Frame) → entries (frames ++ f ∷ []) ≡ entries frames ++ (f.number, f.page) ∷ []
entries_push [] f = refl
entries_push (g ∷ frames) f = ap (λ l. (g.number, g.page) ∷ l) (entries_push frames f)

-- one page more is staged at most
pub length_with : (pages : Pages) (number : ℕ) (page : Page) → length (with_page pages number page) ≤ length pages + 1
length_with [] number page = omega arith
length_with (e ∷ pages) number page = let tail = length_with pages number page in elim (cases_eq e.0 number) [ inl is ↦ grind (arith, nat_tests) | inr ne ↦ grind (arith, nat_tests) ]

pub linked_set : (frames : List Frame) (at : ℕ) (f : Frame) (w : Page) → slice_get frames at ≡ Some f → AreLinked frames → AreLinked (set frames at (record { number = f.number; next = f.next; page = w }))
linked_set frames at f w here linked i frame is = elim (get_set frames at i _ frame is) [
  | inl same ↦ ap (λ (x : Frame). x.next) same.1 ∙ linked at f here ∙ ap (λ n. n + 1) (sym same.0)
  | inr other ↦ linked i frame other.1
]

pub linked_put : (frames : List Frame) (at : ℕ) (f : Frame) → f.next ≡ at + 1 → AreLinked frames → AreLinked (set frames at f)
linked_put frames at f next linked i frame is = elim (get_set frames at i f frame is) [
  | inl same ↦ ap (λ (x : Frame). x.next) same.1 ∙ next ∙ ap (λ n. n + 1) (sym same.0)
  | inr other ↦ linked i frame other.1
]
