-- For the code inside. How far a walk through the rights of a card still goes.
use Rattle.std.specs.Prelude.{ℕ, suc, List, [], ◌∷◌, ◌++◌, length, Option, None, Some, filter, map}
use Rattle.std.specs.List.{flat_map}
use Rattle.std.specs.Ordering.{is_lt}
use Rattle.card_types.specs.Represents.{things_in}
use Rattle.card_types.specs.declared.tables.Entry.{Entry}
use Rattle.card_types.specs.declared.tables.LoadFile.{LoadFile}
use Rattle.card_types.specs.declared.tables.Tables.{Tables}
use Rattle.access_matrix.specs.Next.{place_order}
use Rattle.access_matrix.specs.Rights.{right_key}
use Rattle.access_matrix.specs.declared.deed.Right.{Right}

-- the AIDs of the entries and Executable Load Files of a card, and none
unfoldable pub aids_of : Tables → List (List ℕ)
aids_of tables = [] ∷ (map (λ (entry : Entry). entry.aid) (things_in tables.entries.items) ++ map (λ (file : LoadFile). file.aid) (things_in tables.files.items))

unfoldable pub kinds : List ℕ
kinds = 0 ∷ 1 ∷ 2 ∷ 3 ∷ 4 ∷ 5 ∷ []

-- the places of all domains, kinds, things and new domains
unfoldable pub places_from : List (List ℕ) → List (List (List ℕ))
places_from aids = flat_map (λ domain. flat_map (λ kind. flat_map (λ thing. map (λ goal. domain ∷ (kind ∷ []) ∷ thing ∷ goal ∷ []) aids) aids) kinds) aids

-- how many of the places that rights can have come after the last right, or one more than all where no right was given yet
unfoldable pub rights_left : Tables → Option Right → ℕ
rights_left tables None = suc (length (places_from (aids_of tables)))
rights_left tables (Some last) = length (filter (λ place. is_lt (place_order (right_key last) place)) (places_from (aids_of tables)))
