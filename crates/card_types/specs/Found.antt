-- Things by their AIDs, which are in byte order, a prefix first.
use Rattle.std.specs.Prelude.{◌≡◌, ◌≢◌, ℕ, ◌<◌, List, Option, None, Some}
use Rattle.std.specs.Option.{option_map}
use Rattle.std.specs.Ordering.{nat_cmp}
use Rattle.std.specs.Cmp.Lexicographic.{slice_cmp}
use Rattle.std.specs.declared.cmp.Ordering.TheVariants.{Less, Greater}
use Rattle.card_types.specs.Represents.{thing_in}
use Rattle.card_types.specs.declared.found.Found.{Found}
use Rattle.card_types.specs.declared.found.Found.TheVariants.{Entry, File}
use Rattle.card_types.specs.declared.found.Kind.{Kind}
use Rattle.card_types.specs.declared.found.Kind.TheVariants.{Issuer, Entries, Files}
use Rattle.card_types.specs.declared.tables.Tables.{Tables}

-- the AID of the thing in a slot, where there is one
abbrev pub aid_of : Tables → Found → Option (List ℕ)
aid_of tables (Entry slot) = option_map (λ entry. entry.aid) (thing_in tables.entries.items slot)
aid_of tables (File slot) = option_map (λ file. file.aid) (thing_in tables.files.items slot)

-- the kinds of GET STATUS (GlobalPlatform Card Specification 2.3.1, 11.4.2.1): the Issuer Security Domain is the entry in slot
-- 0, and the other entries are in all other slots
abbrev pub IsOf : Kind → Found → Type 0
IsOf Issuer (Entry slot) = slot ≡ 0
IsOf Issuer (File slot) = ⊥
IsOf Entries (Entry slot) = 0 < slot
IsOf Entries (File slot) = ⊥
IsOf Files (Entry slot) = ⊥
IsOf Files (File slot) = Unit {0}

-- the AID is above the given one, if one is given
abbrev pub IsAbove : Option (List ℕ) → List ℕ → Type 0
IsAbove None aid = Unit {0}
IsAbove (Some after) aid = slice_cmp nat_cmp after aid ≡ Less

-- a thing of the kind, with an AID above the given one
pub record Follows (tables : Tables) (kind : Kind) (after : Option (List ℕ)) (found : Found) (aid : List ℕ) : Type 0 where
  pub of : IsOf kind found
  pub named : aid_of tables found ≡ Some aid
  pub above : IsAbove after aid

-- of those that follow, the one with the least AID
pub record IsNext (tables : Tables) (kind : Kind) (after : Option (List ℕ)) (found : Found) : Type 0 where
  pub aid : List ℕ
  pub follows : Follows tables kind after found aid
  pub least : (other : Found) (another : List ℕ) → Follows tables kind after other another → slice_cmp nat_cmp aid another ≢ Greater

abbrev pub NoneFollows : Tables → Kind → Option (List ℕ) → Type 0
NoneFollows tables kind after = (found : Found) (aid : List ℕ) → Follows tables kind after found aid → ⊥
