-- The store pages that one command may change, and the frames for them.
use Rattle.std.specs.Prelude.{◌≡◌, ◌≢◌, ◌⊎◌, ℕ, List, [], ◌∷◌, ◌++◌, Option, Contains}
use Rattle.card_types.specs.Represents.{thing_in}
use Rattle.card_types.specs.declared.found.Found.{Found}
use Rattle.card_types.specs.declared.found.Found.TheVariants.{Entry, File}
use Rattle.rec_store.specs.Places.{entry_page, entry_pages, file_page, key_pages, object_pages}
use Rattle.rec_store.specs.Room.{HasFramesFor}

-- the pages that change where an entry goes with its keys and data objects
abbrev pub owner_pages : List ℕ
owner_pages = entry_pages ++ key_pages ++ object_pages

-- the page with the thing in this slot
abbrev pub thing_page : Found → ℕ
thing_page (Entry slot) = entry_page slot
thing_page (File slot) = file_page slot

-- the pages that may change where the thing in this slot is moved
abbrev pub thing_pages : Found → List ℕ
thing_pages (Entry slot) = entry_pages
thing_pages (File slot) = file_page slot ∷ []

-- the pages that one command may change, with that of one Executable Load File: the superblock is in page 0
abbrev pub registry_pages : ℕ → List ℕ
registry_pages file = 0 ∷ file_page file ∷ owner_pages

-- a slot on the page holds another thing than before
abbrev pub IsChangedOn : {T : Type 0} → (ℕ → ℕ) → List (Option T) → List (Option T) → ℕ → Type 0
IsChangedOn page_of before after page = (slot : ℕ) × (page_of slot ≡ page) × (thing_in after slot ≢ thing_in before slot)

-- each page that is staged then was staged, or a slot on it holds another thing than before
abbrev pub StagesChanged : {T : Type 0} → (ℕ → ℕ) → List (Option T) → List (Option T) → List ℕ → List ℕ → Type 0
StagesChanged page_of before after old new = (page : ℕ) → Contains new page → Contains old page ⊎ IsChangedOn page_of before after page

-- room for any pages, these among them, is kept
abbrev pub KeepsRoom : List ℕ → List ℕ → List ℕ → Type 0
KeepsRoom pages old new = (all : List ℕ) → ((page : ℕ) → Contains pages page → Contains all page) → HasFramesFor all old → HasFramesFor all new

-- with nothing staged there is room for what one command may change
abbrev pub RoomForCommand : Type 0
RoomForCommand = (file : ℕ) → HasFramesFor (registry_pages file) []

-- room for all of it is room for each part
abbrev pub RoomForParts : Type 0
RoomForParts = (file : ℕ) (staged : List ℕ) → HasFramesFor (registry_pages file) staged
    → HasFramesFor (0 ∷ []) staged × HasFramesFor (file_page file ∷ []) staged × HasFramesFor entry_pages staged × HasFramesFor key_pages staged
    × HasFramesFor object_pages staged × HasFramesFor owner_pages staged
