-- Store pages that are written where the gate is closed.
use Rattle.std.proofs.Common.{◌≡◌, ℕ, false, if◌then◌else◌, ◌==◌, List, [], Some, slice_get, get_or, ap, sym, subst, ◌∙◌}
use Rattle.std.proofs.lemmas.Bool.{false≢true}
use Rattle.card_check.specs.IsCard.{IsCardOf}
use Rattle.card_types.specs.Registry.{Registry}
use Rattle.card_types.specs.declared.tables.Tables.{Tables}
use Rattle.flash_core.specs.Device.{Only}
use Rattle.flash_core.specs.declared.page.Page.{Page}
use Rattle.page_journal.specs.Journal.{HasValidJournal, bytes_of, copied_place, descriptor, is_open, stored_page}
use Rattle.rec_store.specs.Reopens.{KeepsPages, load_page, store_in, store_page}
use Rattle.rec_store.specs.StoredTables.{HoldsTables}
use Rattle.rec_store.specs.declared.store_layout.Layout.TheVariants.{Third}
use Rattle.rec_store.proofs.Reopening.{keeps, none_loose, only_leaves, tables_same}
use Rattle.page_journal.proofs.PageKinds.{gate_page}

module _ (pages : List Page) (closed : is_open pages ≡ false) where
  -- each page is at its own place
  at_home : (n : ℕ) → stored_page pages n ≡ slice_get pages n
  at_home n = ap (λ b. slice_get pages (if b then copied_place (descriptor pages) n else n)) closed

  sound : HasValidJournal pages
  sound opened = absurd (false≢true (sym closed ∙ opened))

  keeps_shut : (may_leave : List Page → Type 0) (t : Tables) (registry : Registry) → HoldsTables Third (store_in (slice_get pages)) t → Only pages may_leave → IsCardOf (load_page pages) t registry → KeepsPages pages may_leave registry
  keeps_shut may_leave t registry held only card =
      keeps pages may_leave registry t sound (tables_same (store_in (slice_get pages)) (store_page pages) (λ n lt. ap bytes_of (at_home n)) t held) card [] (only_leaves pages may_leave sound only) (none_loose t)

-- all pages are synced, the gate closed among them
pub laid_out : (written pages : List Page) (gate : Page) (may_leave : List Page → Type 0) (t : Tables) (registry : Registry) → HoldsTables Third (store_in (slice_get written)) t
    → slice_get written gate_page ≡ Some gate → get_or gate.bytes 0 0 ≡ 0 → pages ≡ written → Only written may_leave → IsCardOf (load_page pages) t registry → KeepsPages pages may_leave registry
laid_out written pages gate may_leave t registry held there zero same only card =
    keeps_shut pages (subst (λ list. is_open list ≡ false) (sym same) closed) may_leave t registry (subst (λ list. HoldsTables Third (store_in (slice_get list)) t) (sym same) held) (subst (λ list. Only list may_leave) (sym same) only) card
  where
    closed : is_open written ≡ false
    closed = ap (λ one. get_or (bytes_of one) 0 0 == 165) there ∙ ap (λ byte. byte == 165) zero
