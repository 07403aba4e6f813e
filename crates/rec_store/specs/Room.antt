-- The frames for store pages that are to be committed.
use Rattle.std.specs.Prelude.{ℕ, ◌+◌, ◌<◌, ◌≤◌, ◌⊎◌, ◌==◌, List, [], ◌∷◌, Contains, count_by, length, not, if◌then◌else◌}
use Rattle.std.specs.List.{list_any}
use Rattle.frame_pool.specs.declared.pool.TheConstants.{FRAMES}

-- the page is staged, or there is a frame for it
abbrev pub HasFrame : List ℕ → ℕ → Type 0
HasFrame staged page = Contains staged page ⊎ (length staged < FRAMES)

-- the staged pages with this one
abbrev pub with_staged : List ℕ → ℕ → List ℕ
with_staged [] page = page ∷ []
with_staged (first ∷ rest) page = if first == page then first ∷ rest else first ∷ with_staged rest page

-- how many of these pages are not staged yet
abbrev pub unstaged_count : List ℕ → List ℕ → ℕ
unstaged_count pages staged = count_by (λ page. not (list_any (λ other. other == page) staged)) pages

-- there is a frame for each of them that is not staged yet
abbrev pub HasFramesFor : List ℕ → List ℕ → Type 0
HasFramesFor pages staged = length staged + unstaged_count pages staged ≤ FRAMES
