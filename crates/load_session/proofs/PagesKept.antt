-- The load pages of an Executable Load File that comes, and what they hold.
use Rattle.std.proofs.Common.{◌≡◌, ◌≢◌, ℕ, ◌+◌, ◌-◌, ◌*◌, ◌≤◌, Bool, false, true, List, [], ◌∷◌, ◌++◌, length, replicate, take, arith, refl, ap, sym, subst, ◌∙◌}
use Rattle.std.specs.Prelude.{Contains, map, nat_eq}
use Rattle.std.specs.List.{concat, list_any}
use Rattle.std.proofs.lemmas.Bool.Decides.{Decides-eqb}
use Rattle.std.proofs.lemmas.Cmp.{nat_eq_equiv}
use Rattle.std.proofs.Math.Seq.{take-append-add}
use Rattle.std.proofs.lemmas.List.{append-nil, map-append, take_all, take_at}
use Rattle.std.proofs.lemmas.List.Elements.{All-nil, All-push}
use Rattle.std.proofs.lemmas.List.Folds.{concat-append}
use Rattle.std.proofs.lemmas.Map.Keys.{IsDistinct-push}
use Rattle.std.proofs.lemmas.Map.Views.{Contains-from_any}
use Rattle.card_check.proofs.Counting.{length_of_pages}
use Rattle.card_check.proofs.LoadPagesNamed.{are_none}
use Rattle.load_session.specs.Prelude.{AreOwn, HasPages, IsFree, IsLoadPage, bytes_in, padded_page, size_of}
use Rattle.card_types.proofs.Members.{contains_first, contains_later}
use Rattle.card_types.specs.declared.tables.Tables.{Tables}
use Rattle.load_session.specs.declared.paged.PagedBytes.{PagedBytes}

is_false : (b : Bool) → (b ≡ true → ⊥) → b ≡ false
is_false true never = absurd (never refl)
is_false false never = refl

not_among : (pages : List ℕ) (page : ℕ) → (Contains pages page → ⊥) → list_any (nat_eq page) pages ≡ false
not_among pages page apart = is_false (list_any (nat_eq page) pages) (λ there. apart (Contains-from_any (λ x y same. (Decides-eqb x y).0 same) page pages there))

-- the pages with one more, that is free
pub own_next : (tables : Tables) (pages more : List ℕ) (page : ℕ) → more ≡ pages ++ page ∷ [] → AreOwn tables pages → IsLoadPage page → IsFree tables page → (Contains pages page → ⊥) → AreOwn tables more
own_next tables pages more page is own range free apart = subst (AreOwn tables) (sym is) (record {
  range = All-push IsLoadPage pages page own.range range;
  apart = IsDistinct-push nat_eq_equiv pages page own.apart (not_among pages page apart);
  free = All-push (IsFree tables) pages page own.free free;
})

-- pages hold the same where each of them does
pub same_pages : (before after : ℕ → List ℕ) (pages : List ℕ) → ((page : ℕ) → Contains pages page → after page ≡ before page) → map after pages ≡ map before pages
same_pages before after [] same = refl
same_pages before after (first ∷ rest) same =
    ap (λ (bytes : List ℕ). bytes ∷ map after rest) (same first (contains_first first rest))
    ∙ ap (λ (others : List (List ℕ)). before first ∷ others) (same_pages before after rest (λ page there. same page (contains_later first rest page there)))

-- what they hold once one more page is written
pub bytes_next : (before after : ℕ → List ℕ) (pages more : List ℕ) (page : ℕ) → more ≡ pages ++ page ∷ [] → (Contains pages page → ⊥) → ((other : ℕ) → other ≢ page → after other ≡ before other)
    → (bytes : List ℕ) → after page ≡ bytes → concat (map after more) ≡ concat (map before pages) ++ bytes
bytes_next before after pages more page is apart others bytes at =
    ap (λ (list : List ℕ). concat (map after list)) is
    ∙ ap concat (map-append after pages (page ∷ []))
    ∙ concat-append (map after pages) (after page ∷ [])
    ∙ ap (λ (list : List ℕ). concat (map after pages) ++ list) (append-nil (after page) ∙ at)
    ∙ ap (λ (list : List (List ℕ)). concat list ++ bytes) (same_pages before after pages (λ other there. others other (λ same. apart (subst (Contains pages) same there))))

-- the bytes of pages that are all written
module _ (page : ℕ → List ℕ) (whole : HasPages page) (paged : PagedBytes) where
  abbrev written : List ℕ
  written = concat (map page paged.pages.items)

  as_long : length written ≡ 256 * length paged.pages.items
  as_long = length_of_pages page whole paged.pages.items

  pub none_waits : paged.rest.items ≡ [] → take (size_of paged) written ≡ bytes_in page paged
  none_waits none =
      let few : length written ≤ size_of paged = omega (arith, as_long) in
      take_all (size_of paged) written few ∙ sym (append-nil written) ∙ ap (λ (list : List ℕ). written ++ list) (sym none)

  -- what waited is after them, and zeros after that
  pub all_written : (now : List ℕ) → now ≡ written ++ padded_page paged.rest.items → take (size_of paged) now ≡ bytes_in page paged
  all_written now is =
      let size : size_of paged ≡ length written + length paged.rest.items = omega (arith, as_long) in
      ap (take (size_of paged)) is
      ∙ ap (λ n. take n (written ++ padded_page paged.rest.items)) size
      ∙ take-append-add written (padded_page paged.rest.items) (length paged.rest.items)
      ∙ ap (λ (list : List ℕ). written ++ list) (take_at paged.rest.items (replicate (256 - length paged.rest.items) 0) (length paged.rest.items) refl)

-- no pages, and no bytes
pub none_own : (tables : Tables) (paged : PagedBytes) → paged.pages.items ≡ [] → AreOwn tables paged.pages.items
none_own tables paged none = subst (AreOwn tables) (sym none) (record { range = All-nil IsLoadPage; apart = are_none.apart; free = All-nil (IsFree tables) })

pub none_in : (page : ℕ → List ℕ) (paged : PagedBytes) → paged.pages.items ≡ [] → paged.rest.items ≡ [] → bytes_in page paged ≡ []
none_in page paged none rest = ap (λ (pages : List ℕ). concat (map page pages) ++ paged.rest.items) none ∙ rest
