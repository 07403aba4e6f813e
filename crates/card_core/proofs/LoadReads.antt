-- Runs of reads of load pages, and the bytes of an Executable Load File that they give.
use Rattle.std.proofs.Common.{◌≡◌, ℕ, ◌+◌, ◌-◌, ◌*◌, ◌<◌, ◌++◌, List, [], ◌∷◌, suc, length, min, refl, ap, sym, ◌∙◌, inl, inr, arith}
use Rattle.std.specs.Prelude.{map, take, slice_index}
use Rattle.std.specs.List.{concat}
use Rattle.std.proofs.Math.Seq.{take-append-add, take-suc}
use Rattle.std.proofs.lemmas.Bool.{cases_lt}
use Rattle.std.proofs.lemmas.List.{append-nil, length-append, length-take-le, map-append, take_all}
use Rattle.std.proofs.lemmas.List.Folds.{concat-append}
use Rattle.card_core.specs.Prelude.{Contents, HasPages, IsLoadRead, Reopens}
use Rattle.flash_core.specs.declared.flash.Flash.{Ghosts as Flash}
use Rattle.flash_core.specs.declared.page.Page.{Page}
use Rattle.rec_store.proofs.Leaving.{joined, unmoved}

module _ {F : Type 0} (device : Flash F) where
  abbrev Reads : Contents F → Contents F → Type 0
  Reads old new = IsLoadRead device old new

  pub none_read : ((f : F) (outcome : List Page) → device.tells → device.left_since f (device.moment f) outcome → device.may_leave f outcome) → (records : Contents F) → Reads records records
  none_read only records = record {
    tables = refl;
    staged = refl;
    live = refl;
    seen = λ told. refl;
    moments = λ told registry keeps. unmoved device (device.may_leave records.flash) records.flash (λ outcome. Reopens outcome registry) (λ c. only records.flash c told) keeps.reopens;
    keeps = λ told registry keeps. keeps;
    later = omega arith;
  }

  pub reads_on : (old mid new : Contents F) → Reads old mid → Reads mid new → Reads old new
  reads_on old mid new first second = record {
    tables = second.tables ∙ first.tables;
    staged = second.staged ∙ first.staged;
    live = second.live ∙ first.live;
    seen = λ told. second.seen told ∙ first.seen told;
    moments = λ told registry keeps.
        joined device old.flash mid.flash new.flash (λ outcome. Reopens outcome registry) (λ outcome. Reopens outcome registry)
        (first.moments told registry keeps) (second.moments told registry (first.keeps told registry keeps)) (λ outcome reopens. reopens);
    keeps = λ told registry keeps. second.keeps told registry (first.keeps told registry keeps);
    later = omega (arith, first.later, second.later);
  }

module _ (page : ℕ → List ℕ) (whole : HasPages page) where
  -- the bytes of so many pages
  length_pages : (pages : List ℕ) → length (concat (map page pages)) ≡ 256 * length pages
  length_pages [] = refl
  length_pages (first ∷ rest) = (let here = whole first in let there = length_pages rest in let both = length-append (page first) (concat (map page rest)) in omega (arith, here, there, both))

  -- with one page more
  one_more : (pages : List ℕ) (index : ℕ) → index < length pages
      → concat (map page (take (index + 1) pages)) ≡ concat (map page (take index pages)) ++ page (slice_index pages index)
  one_more pages index within =
      let next : index + 1 ≡ suc index = omega arith in
      ap (λ n. concat (map page (take n pages))) next
      ∙ ap (λ list. concat (map page list)) (take-suc pages index 0 within)
      ∙ ap concat (map-append page (take index pages) (slice_index pages index ∷ []))
      ∙ concat-append (map page (take index pages)) (page (slice_index pages index) ∷ [])
      ∙ ap (λ list. concat (map page (take index pages)) ++ list) (append-nil (page (slice_index pages index)))

  -- no more of a page than its 256 bytes
  take_most : (bytes : List ℕ) (count : ℕ) → length bytes ≡ 256 → take (min count 256) bytes ≡ take count bytes
  take_most bytes count long = elim (cases_lt 256 count) [
    | inl more ↦ (let least : min count 256 ≡ 256 = omega (arith, more) in ap (λ n. take n bytes) least ∙ take_all 256 bytes (omega (arith, long)) ∙ sym (take_all count bytes (omega (arith, long, more))))
    | inr few ↦ (let least : min count 256 ≡ count = omega (arith, few) in ap (λ n. take n bytes) least)
  ]

  -- the bytes of a file of this length, with those of one page more
  pub fed : (pages : List ℕ) (len index count : ℕ) → index < length pages → 256 * index < len → count ≡ min (len - 256 * index) 256
      → take len (concat (map page (take index pages))) ++ take count (page (slice_index pages index)) ≡ take len (concat (map page (take (index + 1) pages)))
  fed pages len index count within before is =
      let done : List ℕ = concat (map page (take index pages)) in
      let next : List ℕ = page (slice_index pages index) in
      let long : length done ≡ 256 * index = (let all = length_pages (take index pages) in let few = length-take-le index pages (omega (arith, within)) in omega (arith, all, few)) in
      let split : len ≡ length done + (len - 256 * index) = omega (arith, long, before) in
      let whole_done : take len done ≡ done = take_all len done (omega (arith, long, before)) in
      let last : take count next ≡ take (len - 256 * index) next = ap (λ n. take n next) is ∙ take_most next (len - 256 * index) (whole (slice_index pages index)) in
      ap (λ list. list ++ take count next) whole_done
      ∙ ap (λ list. done ++ list) last
      ∙ sym (take-append-add done next (len - 256 * index))
      ∙ ap (λ n. take n (done ++ next)) (sym split)
      ∙ ap (take len) (sym (one_more pages index within))
