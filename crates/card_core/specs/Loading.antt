-- What a card keeps of the load session, and the load session that it stands for (GlobalPlatform Card Specification 2.3.1, 9.3.5
-- and 11.6).
use Rattle.std.specs.Prelude.{◌≡◌, ℕ, List, [], All, true, Option, None, Some}
use Rattle.page_journal.specs.Pages.{IsLoadPage}
use Rattle.card_types.specs.declared.tables.Tables.{Tables}
use Rattle.flash_core.specs.declared.flash.Flash.{Ghosts as Flash}
use Rattle.load_session.specs.Loaded.{IsWholePage, numbers, pages_after}
use Rattle.load_session.specs.Session.{RepresentsLoad}
use Rattle.load_session.specs.declared.load_write.LoadWrite.{LoadWrite}
use Rattle.load_session.specs.declared.session.LoadSession.{LoadSession}
use Rattle.policy_machine.specs.State as volatile
use Rattle.rec_store.specs.Contents.{Contents}
use Rattle.rec_store.specs.Reopens.{AreSpare, IsFree}
use Rattle.card_core.specs.declared.loading.Loading.{Loading}

-- What is kept stands for the load session, over these load pages. Where there is none, it may be of one that has ended.
abbrev pub RepresentsLoading : (ℕ → List ℕ) → Tables → Option LoadSession → Option volatile.LoadSession → Type 0
RepresentsLoading page tables kept None = Unit {0}
RepresentsLoading page tables None (Some load) = ⊥
RepresentsLoading page tables (Some kept) (Some load) = RepresentsLoad page tables kept load

-- load pages with those that are to be written
abbrev pub with_due : (ℕ → List ℕ) → Loading → ℕ → List ℕ
with_due page loading = pages_after page loading.writes.items

-- load pages that no Executable Load File of the tables has, and their bytes
pub record AreFree (tables : Tables) (writes : List LoadWrite) : Type 0 where
  pub range : All IsLoadPage (numbers writes)
  pub free : All (IsFree tables) (numbers writes)
  pub whole : All IsWholePage writes

-- between two commands nothing is staged and no load page is to be written, and each that is free by the tables is spare on the device
pub record IsIdle {F : Type 0} (device : Flash F) (records : Contents F) (due : List LoadWrite) : Type 0 where
  pub live : records.live ≡ true
  pub staged : records.staged ≡ []
  pub writes : due ≡ []
  pub spare : device.tells → AreSpare device records.flash records.tables
