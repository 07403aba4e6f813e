-- Laws of pages and the registries that they hold.
use Rattle.std.specs.Prelude.{◌≡◌, ℕ, List, Contains}
use Rattle.card_types.specs.Registry.{Registry}
use Rattle.rec_store.specs.Reopens.{HoldsRegistry}
use Rattle.rec_store.specs.Room.{HasFrame, HasFramesFor, with_staged}

-- pages hold at most one registry
abbrev pub OneRegistry : Type 0
OneRegistry = (store load : ℕ → List ℕ) (registry another : Registry) → HoldsRegistry store load registry → HoldsRegistry store load another → registry ≡ another

-- room for some pages is room for each of them, and stays when one of them is staged
abbrev pub RoomStays : Type 0
RoomStays = (pages staged : List ℕ) (page : ℕ) → HasFramesFor pages staged → Contains pages page
    → HasFrame staged page × HasFramesFor pages (with_staged staged page)
