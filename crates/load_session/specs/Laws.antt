-- Laws of load sessions beside other commands, and of load pages that are written.
use Rattle.std.specs.Prelude.{◌≡◌, ℕ, List, All, Contains}
use Rattle.card_check.specs.IsCard.{HasPages}
use Rattle.card_types.specs.Registry.{Registry}
use Rattle.card_types.specs.Represents.{Represents, domain_aid}
use Rattle.card_types.specs.declared.tables.Tables.{Tables}
use Rattle.load_session.specs.Loaded.{IsWholePage, numbers, pages_after}
use Rattle.load_session.specs.Session.{IsReadyForBlock, RepresentsLoad, pages_taken, load_slot}
use Rattle.load_session.specs.declared.load_write.LoadWrite.{LoadWrite}
use Rattle.load_session.specs.declared.session.LoadSession.{LoadSession}
use Rattle.policy_machine.specs.State as volatile
use Rattle.rec_store.specs.Reopens.{IsFree}

-- no Executable Load File took a page of the session
abbrev pub StayFree : Tables → Tables → LoadSession → Type 0
StayFree before after kept = (page : ℕ) → Contains (pages_taken kept) page → IsFree before page → IsFree after page

abbrev pub ReadyStays : Type 0
ReadyStays = (before after : Tables) (kept : LoadSession) → StayFree before after kept → IsReadyForBlock before kept → IsReadyForBlock after kept

abbrev pub SessionStays : Type 0
SessionStays = (page then : ℕ → List ℕ) (before after : Tables) (kept : LoadSession) (load : volatile.LoadSession) → StayFree before after kept
    → ((number : ℕ) → Contains (pages_taken kept) number → then number ≡ page number)
    → domain_aid after.entries.items (load_slot kept) ≡ domain_aid before.entries.items (load_slot kept)
    → RepresentsLoad page before kept load → RepresentsLoad then after kept load

-- pages are written that no Executable Load File of the tables has
abbrev pub TablesSayTheSame : Type 0
TablesSayTheSame = (page : ℕ → List ℕ) (tables : Tables) (writes : List LoadWrite) (registry : Registry) → All (IsFree tables) (numbers writes)
    → Represents page tables registry → Represents (pages_after page writes) tables registry

abbrev pub PagesStayWhole : Type 0
PagesStayWhole = (page : ℕ → List ℕ) (writes : List LoadWrite) → All IsWholePage writes → HasPages page → HasPages (pages_after page writes)
