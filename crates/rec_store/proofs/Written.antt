-- Store pages that are written one after the other.
use Rattle.std.proofs.Common.{◌≡◌, ℕ, ◌+◌, ◌*◌, ◌/◌, List, Option, Some, slice_get, ap, sym, subst, ◌∙◌, arith}
use Rattle.card_types.specs.Represents.{thing_in}
use Rattle.flash_core.specs.Device.{SameBut}
use Rattle.flash_core.specs.declared.page.Page.{Page}
use Rattle.page_journal.specs.Journal.{bytes_of}
use Rattle.rec_store.specs.Places.{slot_at, slot_from}
use Rattle.rec_store.specs.Reopens.{store_in}
use Rattle.rec_store.specs.StoredTables.{AreHeld, HoldsPage}
use Rattle.rec_store.proofs.Places.{earlier_page, page_more, slot_in_page}
use Rattle.rec_store.proofs.Staging.{held_apart}

-- the slots of the pages so far are held, and those of the page that was written last
pub held_more : {T : Type 0} (holds : List ℕ → Option T → Type 0) (first size number at : ℕ) (old new : List Page) (page : Page) (things : List (Option T))
    → at ≡ first + number → SameBut at old new → slice_get new at ≡ Some page → HoldsPage holds size page.bytes number things
    → AreHeld holds (slot_from (store_in (slice_get old)) first size) (number * (256 / size)) things
    → AreHeld holds (slot_from (store_in (slice_get new)) first size) ((number + 1) * (256 / size)) things
held_more holds first size number at old new page things is torn written in_page so_far =
    page_more (256 / size) number (λ slot. holds (slot_from store first size slot) (thing_in things slot))
    (held_apart holds (store_in (slice_get old)) store at (λ n apart. ap bytes_of (torn.others n apart)) first size (number * (256 / size)) things
    (λ slot lt e. omega (arith, e, is, earlier_page slot number (256 / size) lt)) so_far)
    (λ place lt. subst (λ bytes. holds bytes (thing_in things (number * (256 / size) + place))) (sym (slot_in_page store first size number place lt ∙ ap (λ bytes. slot_at bytes size place) here)) (in_page place lt))
  where
    store : ℕ → List ℕ
    store = store_in (slice_get new)

    here : store (first + number) ≡ page.bytes
    here = ap store (sym is) ∙ ap bytes_of written
