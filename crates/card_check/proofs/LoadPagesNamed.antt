-- Load pages that are named one after the other, and the marks at them.
use Rattle.std.proofs.Common.{◌≡◌, inl, inr, ℕ, zero, suc, ◌+◌, ◌<◌, Bool, true, false, List, [], ◌∷◌, ◌++◌, length, take, drop, get_or, replicate, refl, ap, sym, subst, ◌∙◌, append_assoc, add-one, drop-cons, get_or-set_other, get_or-set_same, arith}
use Rattle.std.proofs.lemmas.List.{append-nil, take-append-drop, take_more}
use Rattle.std.proofs.Math.ListN.{length-set, set}
use Rattle.std.specs.Prelude.{All, Contains, nat_eq, slice_set}
use Rattle.std.specs.List.{AllByRecursion, IsDistinct}
use Rattle.std.proofs.lemmas.Bool.{cases_eq, eq-eqb, ne_eqb}
use Rattle.std.proofs.lemmas.List.Elements.{All-contains, All-contains_itself, All-from_recursion, All-push, All-weaker, Contains-append_left, Contains-append_right, Contains-push, Contains-push_cases, recursion_from_All}
use Rattle.card_types.proofs.Members.{contains_cases, contains_first, contains_later}
use Rattle.card_types.specs.declared.limits.TheConstants.{LOAD_PAGES}
use Rattle.card_check.specs.LoadPages.{AreLoadPages, HasMarks, IsNewPage}
use Rattle.page_journal.specs.Pages.{IsLoadPage}
use Rattle.page_journal.proofs.PageKinds.{load_page_at}

module _ {X : Type 0} where
  -- what is so of the members is so of all
  pub all_of_members : (P : X → Type 0) (xs : List X) → ((x : X) → Contains xs x → P x) → All P xs
  all_of_members P xs each = All-weaker (Contains xs) P each xs (All-contains_itself xs)

  front_by_recursion : (P : X → Type 0) (xs ys : List X) → AllByRecursion P (xs ++ ys) → AllByRecursion P xs
  front_by_recursion P [] ys all = tt
  front_by_recursion P (x ∷ xs) ys all = (all.0, front_by_recursion P xs ys all.1)

distinct_front : (xs ys : List ℕ) → IsDistinct nat_eq (xs ++ ys) → IsDistinct nat_eq xs
unfolding IsDistinct
distinct_front [] ys apart = tt
distinct_front (x ∷ xs) ys apart = (front_by_recursion (λ y. nat_eq x y ≡ false) xs ys apart.0, distinct_front xs ys apart.1)

distinct_push : (xs : List ℕ) (p : ℕ) → IsDistinct nat_eq xs → (Contains xs p → ⊥) → IsDistinct nat_eq (xs ++ p ∷ [])
unfolding IsDistinct
distinct_push [] p apart other = (tt, tt)
distinct_push (x ∷ xs) p apart other = (
  recursion_from_All (λ y. nat_eq x y ≡ false) (xs ++ p ∷ [])
      (All-push (λ y. nat_eq x y ≡ false) xs p (All-from_recursion (λ y. nat_eq x y ≡ false) xs apart.0)
      (ne_eqb x p (λ same. other (subst (Contains (x ∷ xs)) same (contains_first x xs))))),
  distinct_push xs p apart.1 (λ there. other (contains_later x xs p there)),
)

distinct_last : (xs : List ℕ) (p : ℕ) (ys : List ℕ) → IsDistinct nat_eq (xs ++ p ∷ ys) → Contains xs p → ⊥
unfolding IsDistinct
distinct_last [] p ys apart there = omega (arith, there.1)
distinct_last (x ∷ xs) p ys apart there = elim (contains_cases x xs p there) [
  | inl same ↦
      (let differs : nat_eq x p ≡ false =
      All-contains (λ y. nat_eq x y ≡ false) (xs ++ p ∷ ys) p (All-from_recursion (λ y. nat_eq x y ≡ false) (xs ++ p ∷ ys) apart.0)
      (Contains-append_right xs (p ∷ ys) p (contains_first p ys)) in
      let alike : nat_eq x p ≡ true = eq-eqb x p same in cc)
  | inr later ↦ distinct_last xs p ys apart.1 later
]

pub are_none : AreLoadPages []
unfolding IsDistinct
are_none = record { each = all_of_members IsLoadPage [] (λ x there. absurd (omega (arith, there.1))); apart = tt }

pub are_front : (xs ys : List ℕ) → AreLoadPages (xs ++ ys) → AreLoadPages xs
are_front xs ys are = record {
  each = all_of_members IsLoadPage xs (λ x there. All-contains IsLoadPage (xs ++ ys) x are.each (Contains-append_left xs ys x there));
  apart = distinct_front xs ys are.apart;
}

are_push : (xs : List ℕ) (p : ℕ) → AreLoadPages xs → IsNewPage xs p → AreLoadPages (xs ++ p ∷ [])
are_push xs p are new = record { each = All-push IsLoadPage xs p are.each new.is; apart = distinct_push xs p are.apart new.other }

new_of : (xs : List ℕ) (p : ℕ) (ys : List ℕ) → AreLoadPages (xs ++ p ∷ ys) → IsNewPage xs p
new_of xs p ys are = record {
  is = All-contains IsLoadPage (xs ++ p ∷ ys) p are.each (Contains-append_right xs (p ∷ ys) p (contains_first p ys));
  other = distinct_last xs p ys are.apart;
}

no_mark : (count place : ℕ) → get_or (replicate count false) place false ≡ true → ⊥
no_mark zero place marked = cc
no_mark (suc count) zero marked = cc
no_mark (suc count) (suc place) marked = no_mark count place marked

pub no_marks : HasMarks (replicate LOAD_PAGES false) []
no_marks = record {
  whole = refl;
  at = λ place within. (λ marked. absurd (no_mark LOAD_PAGES place marked), λ there. absurd (omega (arith, there.1)));
}

pub marks_push : (marks : List Bool) (before : List ℕ) (place page : ℕ) → HasMarks marks before → place < LOAD_PAGES → page ≡ load_page_at place
    → HasMarks (slice_set marks place true) (before ++ page ∷ [])
marks_push marks before place page has within is = record {
  whole = length-set marks place true ∙ has.whole;
  at = λ other inside. elim (cases_eq other place) [
    | inl same ↦ (
      λ marked. subst (Contains (before ++ page ∷ [])) (is ∙ ap load_page_at (sym same)) (Contains-push before page),
      λ there. subst (λ (n : ℕ). get_or (set marks place true) n false ≡ true) (sym same) (get_or-set_same marks place true false (omega (arith, has.whole))),
    )
    | inr differs ↦
        (let kept : get_or (set marks place true) other false ≡ get_or marks other false = get_or-set_other marks place other true false differs in (
          λ marked. Contains-append_left before (page ∷ []) (load_page_at other) ((has.at other inside).0 (sym kept ∙ marked)),
          λ there. kept ∙ (has.at other inside).1 (elim (Contains-push_cases before page (load_page_at other) there) [
            | inl earlier ↦ earlier
            | inr last ↦ absurd (differs (omega (arith, last, is)))
          ]),
        ))
  ];
}

-- the pages before one, that page and the rest
parted : (pages : List ℕ) (i : ℕ) → i < length pages → pages ≡ take i pages ++ get_or pages i 0 ∷ drop (i + 1) pages
parted pages i within = sym (take-append-drop i pages) ∙ rw (add-one) (ap (λ (rest : List ℕ). take i pages ++ rest) (drop-cons pages i 0 within))

taken_more : (before pages : List ℕ) (i : ℕ) → i < length pages → (before ++ take i pages) ++ get_or pages i 0 ∷ [] ≡ before ++ take (i + 1) pages
taken_more before pages i within =
    append_assoc before (take i pages) (get_or pages i 0 ∷ []) ∙ ap (λ (pages : List ℕ). before ++ pages) (sym (take_more pages i 0 within))

-- the pages passed so far are named and marked
pub record AreMarked (marks : List Bool) (pages : List ℕ) : Type 0 where
  pub marked : HasMarks marks pages
  pub are : AreLoadPages pages

module _ (before pages : List ℕ) where
  pub marking_begins : (marks : List Bool) → HasMarks marks before → AreLoadPages before → AreMarked marks (before ++ take 0 pages)
  marking_begins marks has are = subst (AreMarked marks) (sym (append-nil before)) (record { marked = has; are = are })

  pub marking_goes_on : (marks : List Bool) (i page : ℕ) → i < length pages → page ≡ get_or pages i 0 → AreLoadPages (before ++ take i pages) → IsNewPage (before ++ take i pages) page
      → HasMarks marks ((before ++ take i pages) ++ page ∷ []) → AreMarked marks (before ++ take (i + 1) pages)
  marking_goes_on marks i page within is are new has =
      let on : (before ++ take i pages) ++ page ∷ [] ≡ before ++ take (i + 1) pages =
      ap (λ (p : ℕ). (before ++ take i pages) ++ p ∷ []) is ∙ taken_more before pages i within in
      subst (AreMarked marks) on (record { marked = has; are = are_push (before ++ take i pages) page are new })

  -- each page is new where the pages are load pages
  pub new_page : (i page : ℕ) → i < length pages → page ≡ get_or pages i 0 → AreLoadPages (before ++ pages) → IsNewPage (before ++ take i pages) page
  new_page i page within is are =
      let whole : before ++ pages ≡ (before ++ take i pages) ++ get_or pages i 0 ∷ drop (i + 1) pages =
      ap (λ (ps : List ℕ). before ++ ps) (parted pages i within) ∙ sym (append_assoc before (take i pages) (get_or pages i 0 ∷ drop (i + 1) pages)) in
      subst (IsNewPage (before ++ take i pages)) (sym is)
      (new_of (before ++ take i pages) (get_or pages i 0) (drop (i + 1) pages) (subst AreLoadPages whole are))
