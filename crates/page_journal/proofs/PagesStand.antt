-- Where a page stands.
use Rattle.std.proofs.Common.{◌≡◌, inl, inr, ℕ, List, refl, sym, ap, ◌∙◌, arith}
use Rattle.std.specs.Prelude.{slice_index}
use Rattle.std.proofs.lemmas.Bool.{cases_order}
use Rattle.flash_core.specs.declared.page.Page.{Page}
use Rattle.page_journal.specs.Journal.{IsValid, copied_place, descriptor}
use Rattle.page_journal.specs.Laws.{IsCopyOf, PagesStand}
use Rattle.page_journal.proofs.Descriptors.{where_is}
use Rattle.page_journal.proofs.PageKinds.{copy_page}

module _ (pages : List Page) (page : ℕ) where
  abbrev bytes : List ℕ
  bytes = descriptor pages

  in_copy : IsValid bytes → (copy : ℕ) → IsCopyOf pages copy page → copied_place bytes page ≡ copy_page copy
  in_copy valid copy is = elim (where_is bytes 0 (slice_index bytes 0) page) [
    | inl found ↦ elim (cases_order found.0 copy) [
      | inl same ↦ found.4 ∙ ap copy_page same
      | inr apart ↦ elim apart [
        | inl before ↦ absurd (valid.distinct found.0 copy before is.0 (found.3 ∙ sym is.1))
        | inr behind ↦ absurd (valid.distinct copy found.0 behind (omega (arith, found.2)) (is.1 ∙ sym found.3))
      ]
    ]
    | inr none ↦ absurd (none.0 copy (omega arith) (omega (arith, is.0)) is.1)
  ]

  at_home : ((copy : ℕ) → IsCopyOf pages copy page → ⊥) → copied_place bytes page ≡ page
  at_home none = elim (where_is bytes 0 (slice_index bytes 0) page) [
    | inl found ↦ absurd (none found.0 (omega (arith, found.2), found.3))
    | inr nowhere ↦ nowhere.1
  ]

pub pages_stand : PagesStand
pages_stand pages page sound = record {
  closed = λ shut. rw shut refl;
  copied = λ opened copy is. rw opened (in_copy pages page (sound opened) copy is);
  home = λ opened none. rw opened (at_home pages page none);
}
