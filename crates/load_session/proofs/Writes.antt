-- Runs of writes of load pages.
use Rattle.std.proofs.Common.{◌≡◌, ◌≢◌, inl, inr, ℕ, ◌+◌, true, List, [], ◌∷◌, ◌++◌, take, refl, ap, sym, ◌∙◌, arith}
use Rattle.std.specs.Prelude.{All, Contains}
use Rattle.std.proofs.lemmas.Bool.{cases_eq}
use Rattle.std.proofs.lemmas.List.Elements.{All-contains}
use Rattle.card_types.proofs.Members.{contains_map}
use Rattle.load_session.specs.Prelude.{Contents, IsSpare, KeepsRegistry, LeavesOnly, Registry, Reopens, load_page, numbers, page_written, pages_after}
use Rattle.flash_core.specs.declared.flash.Flash.{Ghosts as Flash}
use Rattle.flash_core.specs.declared.page.Page.{Page}
use Rattle.rec_store.proofs.Leaving.{joined, unmoved}
use Rattle.load_session.proofs.Loading.{loaded_more, written_apart, written_here}
use Rattle.load_session.specs.declared.load_write.LoadWrite.{LoadWrite}

-- power lost between the two moments leaves the registry
abbrev pub LeavesAlone : {F : Type 0} → Flash F → F → F → Registry → Type 0
LeavesAlone device old new registry = LeavesOnly device old new (λ outcome. Reopens outcome registry)

-- where these pages are spare, it is so of each registry that power lost keeps
abbrev pub IfSpare : {F : Type 0} → Flash F → F → List ℕ → (Registry → Type 0) → Type 0
IfSpare device flash pages holds = All (IsSpare device flash) pages → (registry : Registry) → KeepsRegistry device flash registry → holds registry

-- `count` of the pages are written
pub record AreWritten {F : Type 0} (device : Flash F) (before : Contents F) (writes : List LoadWrite) (count : ℕ) (records : Contents F) : Type 0 where
  pub tables : records.tables ≡ before.tables
  pub staged : records.staged ≡ before.staged
  pub live : records.live ≡ true
  pub none : count ≡ 0 → records ≡ before
  pub bytes : device.tells → load_page (device.pages records.flash) ≡ pages_after (load_page (device.pages before.flash)) (take count writes)
  pub moments : device.tells → IfSpare device before.flash (numbers writes) (LeavesAlone device before.flash records.flash)
  pub keeps : device.tells → IfSpare device before.flash (numbers writes) (KeepsRegistry device records.flash)
  pub spare : device.tells → (page : ℕ) → IsSpare device before.flash page → IsSpare device records.flash page
  pub faults : device.faults records.flash ≡ device.faults before.flash

-- what a write of one page leaves, whatever it answers
pub record IsTried {F : Type 0} (device : Flash F) (page : ℕ) (old new : Contents F) : Type 0 where
  pub tables : new.tables ≡ old.tables
  pub staged : new.staged ≡ old.staged
  pub live : new.live ≡ true
  pub others : device.tells → (other : ℕ) → other ≢ page → load_page (device.pages new.flash) other ≡ load_page (device.pages old.flash) other
  pub moments : device.tells → IsSpare device old.flash page → (registry : Registry) → KeepsRegistry device old.flash registry → LeavesAlone device old.flash new.flash registry
  pub keeps : device.tells → IsSpare device old.flash page → (registry : Registry) → KeepsRegistry device old.flash registry → KeepsRegistry device new.flash registry
  pub spare : device.tells → (other : ℕ) → IsSpare device old.flash other → IsSpare device new.flash other

-- what is so of each page is so of that of each write
pub its_page : (writes : List LoadWrite) (write : LoadWrite) → Contains writes write → (P : ℕ → Type 0) → All P (numbers writes) → P write.number
its_page writes write there P all = All-contains P (numbers writes) write.number all (contains_map (λ (w : LoadWrite). w.number) writes write there)

module _ {F : Type 0} (device : Flash F) (before : Contents F) (writes : List LoadWrite) where
  pub none_written : ((f : F) (outcome : List Page) → device.tells → device.left_since f (device.moment f) outcome → device.may_leave f outcome) → before.live ≡ true → AreWritten device before writes 0 before
  none_written only live = record {
    tables = refl;
    staged = refl;
    live = live;
    none = λ zero. refl;
    bytes = λ told. refl;
    moments = λ told spare registry keeps. unmoved device (device.may_leave before.flash) before.flash (λ outcome. Reopens outcome registry) (λ c. only before.flash c told) keeps.reopens;
    keeps = λ told spare registry keeps. keeps;
    spare = λ told page spare. spare;
    faults = refl;
  }

  -- one page more
  module _ (count : ℕ) (records : Contents F) (was : AreWritten device before writes count records) (write : LoadWrite) (there : Contains writes write) (new : Contents F) (tried : IsTried device write.number records new) where
    pub next_moments : device.tells → IfSpare device before.flash (numbers writes) (LeavesAlone device before.flash new.flash)
    next_moments told spare registry keeps =
        let now = was.spare told write.number (its_page writes write there (IsSpare device before.flash) spare) in
        joined device before.flash records.flash new.flash (λ outcome. Reopens outcome registry) (λ outcome. Reopens outcome registry)
        (was.moments told spare registry keeps) (tried.moments told now registry (was.keeps told spare registry keeps)) (λ outcome reopens. reopens)

    pub next_keeps : device.tells → IfSpare device before.flash (numbers writes) (KeepsRegistry device new.flash)
    next_keeps told spare registry keeps = tried.keeps told (was.spare told write.number (its_page writes write there (IsSpare device before.flash) spare)) registry (was.keeps told spare registry keeps)

    module _ (next : take (count + 1) writes ≡ take count writes ++ write ∷ []) (at : device.tells → load_page (device.pages new.flash) write.number ≡ write.page.bytes)
        (same : device.faults new.flash ≡ device.faults records.flash) where
      now_here : device.tells → (n : ℕ) → load_page (device.pages new.flash) n ≡ page_written (load_page (device.pages records.flash)) write n
      now_here told n = elim (cases_eq n write.number) [
        | inl is ↦ ap (load_page (device.pages new.flash)) is ∙ at told ∙ sym (ap (page_written (load_page (device.pages records.flash)) write) is ∙ written_here (load_page (device.pages records.flash)) write)
        | inr apart ↦ tried.others told n apart ∙ sym (written_apart (load_page (device.pages records.flash)) write n apart)
      ]

      now_loaded : device.tells → load_page (device.pages new.flash) ≡ pages_after (load_page (device.pages before.flash)) (take (count + 1) writes)
      now_loaded told =
          let here : load_page (device.pages new.flash) ≡ page_written (load_page (device.pages records.flash)) write = λ i n. now_here told n i in
          here
          ∙ ap (λ (page : ℕ → List ℕ). page_written page write) (was.bytes told)
          ∙ sym (ap (pages_after (load_page (device.pages before.flash))) next ∙ loaded_more (load_page (device.pages before.flash)) (take count writes) write)

      pub one_more : AreWritten device before writes (count + 1) new
      one_more = record {
        tables = tried.tables ∙ was.tables;
        staged = tried.staged ∙ was.staged;
        live = tried.live;
        none = λ zero. absurd (omega (arith, zero));
        bytes = now_loaded;
        moments = next_moments;
        keeps = next_keeps;
        spare = λ told page spare. tried.spare told page (was.spare told page spare);
        faults = same ∙ was.faults;
      }
