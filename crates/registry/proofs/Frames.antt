-- Frames for the pages of the registry.
use Rattle.std.proofs.Common.{◌≡◌, ℕ, ◌/◌, ◌<◌, List, [], ◌∷◌, ◌++◌, sym, subst, arith}
use Rattle.std.specs.Prelude.{Contains}
use Rattle.std.proofs.lemmas.List.Elements.{Contains-append_left, Contains-append_right}
use Rattle.card_types.specs.declared.limits.TheConstants.{ENTRIES, KEYS, OBJECTS}
use Rattle.card_types.proofs.Members.{contains_first}
use Rattle.rec_store.specs.Places.{entry_page, entry_pages, key_page, key_pages, object_page, object_pages}
use Rattle.rec_store.specs.Room.{HasFrame, HasFramesFor, with_staged}
use Rattle.rec_store.proofs.Rooms.{room_stays}
use Rattle.rec_store.proofs.SlotPages.{among_entry_pages, among_key_pages, among_object_pages}
use Rattle.registry.specs.Pages.{KeepsRoom, owner_pages}

pub entry_of_owner : (slot : ℕ) → slot < ENTRIES → Contains owner_pages (entry_page slot)
entry_of_owner slot low = Contains-append_left (entry_pages ++ key_pages) object_pages (entry_page slot) (Contains-append_left entry_pages key_pages (entry_page slot) (among_entry_pages slot low))

pub key_of_owner : (slot : ℕ) → slot < KEYS → Contains owner_pages (key_page slot)
key_of_owner slot low = Contains-append_left (entry_pages ++ key_pages) object_pages (key_page slot) (Contains-append_right entry_pages key_pages (key_page slot) (among_key_pages slot low))

pub object_of_owner : (slot : ℕ) → slot < OBJECTS → Contains owner_pages (object_page slot)
object_of_owner slot low = Contains-append_right (entry_pages ++ key_pages) object_pages (object_page slot) (among_object_pages slot low)

module _ (pages staged : List ℕ) (page : ℕ) (among : Contains pages page) where
  -- there is a frame for a page that there is room for, among others
  pub frame_of : HasFramesFor pages staged → HasFrame staged page
  frame_of room = (room_stays pages staged page room among).0

  -- room is kept where one of the pages is staged
  pub keeps_staged : (after : List ℕ) → after ≡ with_staged staged page → KeepsRoom pages staged after
  keeps_staged after is all holds room = subst (HasFramesFor all) (sym is) (room_stays all staged page room (holds page among)).1

-- there is a frame for a page that there is room for alone
pub frame_alone : (staged : List ℕ) (page : ℕ) → HasFramesFor (page ∷ []) staged → HasFrame staged page
frame_alone staged page = frame_of (page ∷ []) staged page (contains_first page [])

pub keeps_alone : (staged : List ℕ) (page : ℕ) (after : List ℕ) → after ≡ with_staged staged page → KeepsRoom (page ∷ []) staged after
keeps_alone staged page = keeps_staged (page ∷ []) staged page (contains_first page [])

-- room is kept where nothing is staged, and over two calls
pub keeps_same : (pages staged after : List ℕ) → after ≡ staged → KeepsRoom pages staged after
keeps_same pages staged after is all holds room = subst (HasFramesFor all) (sym is) room

pub keeps_on : (pages a b c : List ℕ) → KeepsRoom pages a b → KeepsRoom pages b c → KeepsRoom pages a c
keeps_on pages a b c first then all holds room = then all holds (first all holds room)

pub still_room : (pages a b : List ℕ) → KeepsRoom pages a b → HasFramesFor pages a → HasFramesFor pages b
still_room pages a b keeps = keeps pages (λ page there. there)
