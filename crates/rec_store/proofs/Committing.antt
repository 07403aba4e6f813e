-- Changes that are committed, where power lost keeps a registry.
use Rattle.std.proofs.Common.{◌≡◌, ◌⊎◌, inl, inr, ⊎_elim, ℕ, ◌<◌, List, [], ◌∷◌, length, refl, sym, subst, arith}
use Rattle.flash_core.specs.Device.{Only}
use Rattle.flash_core.specs.declared.page.Page.{Page}
use Rattle.card_check.specs.IsCard.{IsCardOf}
use Rattle.card_types.specs.Registry.{Registry}
use Rattle.card_types.specs.declared.tables.Tables.{Tables}
use Rattle.page_journal.specs.Journal.{stored_page}
use Rattle.page_journal.specs.Moments.{Leaves, current}
use Rattle.page_journal.specs.Store.{StandsForList}
use Rattle.rec_store.specs.Reopens.{HoldsRegistry, KeepsPages, NoLoadPage, Reopens, current_page, load_in, load_page, store_page}
use Rattle.rec_store.specs.StoredTables.{HoldsTables}
use Rattle.rec_store.specs.declared.store_layout.Layout.TheVariants.{Third}
use Rattle.rec_store.proofs.OneRegistry.{one_registry}
use Rattle.rec_store.proofs.Reopening.{keeps_left, left, load_current, load_same, none_loose}

-- the load pages are those of the device
pub load_now : (pool : List (ℕ × Page)) (pages : List Page) → NoLoadPage pool → load_in (current pool pages) ≡ load_page pages
load_now pool pages none = λ i n. load_same (current pool pages) (stored_page pages) n (λ high. load_current pool pages n none (omega (arith, high))) i

-- nothing is staged, or some pages are
pub some_or_none : (pool : List (ℕ × Page)) → (pool ≡ []) ⊎ (0 < length pool)
some_or_none [] = inl refl
some_or_none (first ∷ rest) = inr (omega arith)

module _ (pool : List (ℕ × Page)) (pages : List Page) (may_leave : List Page → Type 0) (t : Tables) (before after : Registry) (none : NoLoadPage pool) (held : HoldsTables Third (current_page pool pages) t)
    (card : IsCardOf (load_page pages) t after) (was : KeepsPages pages may_leave before) where
  list_card : IsCardOf (load_in (current pool pages)) t after
  list_card = subst (λ load. IsCardOf load t after) (sym (load_now pool pages none)) card

  -- a commit's pages
  abbrev pub Either : List Page → Type 0
  Either outcome = Leaves (stored_page pages) was.loose outcome ⊎ Leaves (current pool pages) [] outcome

  pub either : (outcome : List Page) → Either outcome → Reopens outcome before ⊎ Reopens outcome after
  either outcome (inl leaves) = inl (left (stored_page pages) was.loose outcome was.now.holds.tables leaves was.free before was.now.holds.card was.now.holds.held)
  either outcome (inr leaves) = inr (left (current pool pages) [] outcome t leaves (none_loose t) after list_card held)

  -- with nothing staged the two are one
  pub idle : pool ≡ [] → KeepsPages pages may_leave after
  idle empty = subst (KeepsPages pages may_leave) (one_registry (store_page pages) (load_page pages) before after was.now.holds now) was
    where
      now : HoldsRegistry (store_page pages) (load_page pages) after
      now = record { layout = Third; tables = t; held = subst (λ staged. HoldsTables Third (current_page staged pages) t) empty held; card = card }

  -- once the pages are committed
  pub done : (new : List Page) (later : List Page → Type 0) → Either new → StandsForList (current pool pages) new → Only new later → KeepsPages new later after
  done new later either_new listed only =
      keeps_left (current pool pages) [] t after (none_loose t) held list_card new later leaves (λ outcome possible. subst (Leaves (current pool pages) []) (sym (only outcome possible)) leaves)
    where
      leaves : Leaves (current pool pages) [] new
      leaves = record {
        sound = ⊎_elim (λ (l : Leaves (stored_page pages) was.loose new). l.sound) (λ (l : Leaves (current pool pages) [] new). l.sound) either_new;
        store = λ n lt. listed n (inl lt);
        load = λ n high tight. listed n (inr high);
      }
