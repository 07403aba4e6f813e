-- A commit that was cut off is ended, and the superblock is committed: the registry is the same at every moment.
use Rattle.std.proofs.Common.{◌≡◌, ◌⊎◌, inl, inr, ⊎_elim, ℕ, ◌≤◌, List, [], refl, ap, subst, ◌∙◌, arith}
use Rattle.card_types.specs.Registry.{Registry}
use Rattle.card_types.specs.declared.card_life.CardLife.{CardLife}
use Rattle.card_types.specs.declared.tables.Tables.{Tables}
use Rattle.flash_core.specs.Device.{Only}
use Rattle.flash_core.specs.declared.flash.Flash.{Ghosts as Flash}
use Rattle.flash_core.specs.declared.page.Page.{Page}
use Rattle.frame_pool.specs.Staged.{with_page}
use Rattle.page_journal.specs.Journal.{HasValidJournal, bytes_of, stored_page}
use Rattle.page_journal.specs.Moments.{Always, Leaves, LeavesOnly, current}
use Rattle.page_journal.specs.Store.{StandsForList, Store}
use Rattle.rec_store.specs.Reading.{IsRead}
use Rattle.rec_store.specs.Reopens.{KeepsPages, NoLoadPage, Reopens, current_page, load_in, load_page, store_page}
use Rattle.rec_store.specs.StoredTables.{HoldsTables}
use Rattle.rec_store.specs.Superblock.{IsSuperblock}
use Rattle.rec_store.specs.declared.store_layout.Layout.{Layout}
use Rattle.rec_store.specs.declared.store_layout.Layout.TheVariants.{Third}
use Rattle.rec_store.proofs.ChangedTables.{life_set}
use Rattle.rec_store.proofs.Committing.{done, either, load_now}
use Rattle.rec_store.proofs.Leaving.{joined, weaker}
use Rattle.rec_store.proofs.OneThing.{one_card_life}
use Rattle.rec_store.proofs.Readings.{now_left}
use Rattle.rec_store.proofs.Reopening.{keeps, left, load_same, none_loose, only_leaves, tables_same}
use Rattle.rec_store.proofs.Staging.{none_loaded}

-- pages that are all that power lost may leave keep their registry
pub still_keeps : (pages : List Page) (may_leave : List Page → Type 0) (registry : Registry) → Only pages may_leave → Reopens pages registry → KeepsPages pages may_leave registry
still_keeps pages may_leave registry only was =
    keeps pages may_leave registry was.holds.tables was.sound was.holds.held was.holds.card [] (only_leaves pages may_leave was.sound only) (none_loose was.holds.tables)

-- pages that power lost leaves of others hold the same
module _ (old new : List Page) (now : Leaves (stored_page old) [] new) where
  pub left_tables : {layout : Layout} (t : Tables) → HoldsTables layout (store_page old) t → HoldsTables layout (store_page new) t
  left_tables t held = tables_same (store_page old) (store_page new) (λ n lt. ap bytes_of (now.store n lt)) t held

  pub left_load : load_page new ≡ load_page old
  left_load = λ i n. load_same (stored_page new) (stored_page old) n (λ high. now.load n high (λ loose. absurd (omega (arith, loose.1)))) i

  pub left_registry : (registry : Registry) → Reopens old registry → Reopens new registry
  left_registry registry was = left (stored_page old) [] new was.holds.tables now (none_loose was.holds.tables) registry was.holds.card was.holds.held

-- a commit that was cut off is ended after reads
module _ {F : Type 0} (device : Flash F) (old mid : Store F) (new : F) (told : device.tells) (sound : HasValidJournal (device.pages old.flash)) (only : Only (device.pages old.flash) (device.may_leave old.flash)) (read : IsRead device old mid)
    (settles : (loose : List ℕ) → Always (device.may_leave mid.flash) (Leaves (stored_page (device.pages mid.flash)) loose) → LeavesOnly device mid.flash new (Leaves (stored_page (device.pages mid.flash)) loose)) where
  abbrev Stays : List Page → Type 0
  Stays = Leaves (stored_page (device.pages old.flash)) []

  leaves : Always (device.may_leave old.flash) Stays
  leaves = only_leaves (device.pages old.flash) (device.may_leave old.flash) sound only

  settled : LeavesOnly device old.flash new Stays
  settled =
      joined device old.flash mid.flash new Stays Stays (weaker device old.flash mid.flash (device.may_leave old.flash) Stays (read.moments told) leaves)
      (subst (λ pages. Always (device.may_leave mid.flash) (Leaves (stored_page pages) []) → LeavesOnly device mid.flash new (Leaves (stored_page pages) [])) (read.seen told) (settles []) (λ outcome possible. leaves outcome (read.loss told outcome possible)))
      (λ outcome stays. stays)

  pub settled_registry : (registry : Registry) → Reopens (device.pages old.flash) registry → LeavesOnly device old.flash new (λ outcome. Reopens outcome registry)
  settled_registry registry was = weaker device old.flash new Stays (λ outcome. Reopens outcome registry) settled (λ outcome stays. left_registry (device.pages old.flash) outcome stays registry was)

  module _ (counts : (f : F) (t : ℕ) (outcome : List Page) → device.tells → t ≤ device.moment f → device.may_leave f outcome → device.left_since f t outcome) (as_read : (f : F) → device.tells → device.may_leave f (device.pages f)) where
    pub settled_now : Leaves (stored_page (device.pages old.flash)) [] (device.pages new)
    settled_now = now_left device old.flash new Stays settled told counts (device.pages new) (as_read new told)

    -- a commit that was cut off is ended, and whatever comes then leaves the registry
    pub settled_first : (last : F) (registry : Registry) → Reopens (device.pages old.flash) registry → (Reopens (device.pages new) registry → LeavesOnly device new last (λ outcome. Reopens outcome registry))
        → LeavesOnly device old.flash last (λ outcome. Reopens outcome registry)
    settled_first last registry was next =
        joined device old.flash new last (λ outcome. Reopens outcome registry) (λ outcome. Reopens outcome registry) (settled_registry registry was)
        (next (left_registry (device.pages old.flash) (device.pages new) settled_now registry was)) (λ outcome reopens. reopens)

-- the superblock alone is staged
module _ (pages : List Page) (x : Page) where
  abbrev pub pool : List (ℕ × Page)
  pool = with_page [] 0 x

  no_load : NoLoadPage pool
  no_load = none_loaded [] 0 x (omega arith) (λ n le. refl)

  pub raised_load : (new : List Page) → StandsForList (current pool pages) new → load_page new ≡ load_page pages
  raised_load new listed = loads ∙ load_now pool pages no_load
    where
      loads : load_page new ≡ load_in (current pool pages)
      loads = λ i n. load_same (stored_page new) (current pool pages) n (λ high. listed n (inr high)) i

  module _ (layout : Layout) (life : CardLife) (is : IsSuperblock (store_page pages 0) layout life) (anew : IsSuperblock x.bytes Third life) where
    pub raised_tables : {of : Layout} (t : Tables) → HoldsTables of (store_page pages) t → HoldsTables Third (current_page pool pages) t
    raised_tables t held = life_set [] pages 0 x t t held life (λ i. record t { life = same i }) refl anew
      where
        same : t.life ≡ life
        same = one_card_life (store_page pages 0) t.life life held.superblock is

    pub raised_held : {of : Layout} (t : Tables) (new : List Page) → StandsForList (current pool pages) new → HoldsTables of (store_page pages) t → HoldsTables Third (store_page new) t
    raised_held t new listed held = tables_same (current_page pool pages) (store_page new) (λ n lt. ap bytes_of (listed n (inl lt))) t (raised_tables t held)

    module _ (may_leave : List Page → Type 0) (registry : Registry) (was : KeepsPages pages may_leave registry) where
      held : HoldsTables Third (current_page pool pages) was.now.holds.tables
      held = raised_tables was.now.holds.tables was.now.holds.held

      abbrev pub OldOrRaised : List Page → Type 0
      OldOrRaised outcome = Leaves (stored_page pages) was.loose outcome ⊎ Leaves (current pool pages) [] outcome

      pub one_registry : (outcome : List Page) → OldOrRaised outcome → Reopens outcome registry
      one_registry outcome may = ⊎_elim (λ before. before) (λ after. after) (either pool pages may_leave was.now.holds.tables registry registry no_load held was.now.holds.card was outcome may)

      pub raised_keeps : (new : List Page) (later : List Page → Type 0) → OldOrRaised new → StandsForList (current pool pages) new → Only new later → KeepsPages new later registry
      raised_keeps new later now listed only = done pool pages may_leave was.now.holds.tables registry registry no_load held was.now.holds.card was new later now listed only
