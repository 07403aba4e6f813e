-- For the code inside. Things in slots, of which a line each is written in ascending order.
use Rattle.std.specs.Prelude.{◌≡◌, ℕ, List, ◌++◌, Bool, true, ◌&&◌, Option, None, Some, Result, MatchResult, filter, map, take}
use Rattle.std.specs.List.{flat_map}
use Rattle.std.specs.List.Sorted.{IsPermutation, IsStrictlySortedBy}
use Rattle.std.specs.Option.{option_map}
use Rattle.std.specs.Ordering.{is_lt}
use Rattle.std.specs.declared.cmp.Ordering.{Ordering}
use Rattle.card_types.specs.Aid.{aid_order}
use Rattle.card_types.specs.Registry.{Registry}
use Rattle.card_types.specs.Represents.{Represents, things_in}
use Rattle.card_types.specs.declared.tables.LoadFile.{LoadFile}
use Rattle.card_types.specs.declared.tables.Tables.{Tables}

-- past the last one, if there is one
abbrev pub is_past_last : {X : Type 0} → (X → X → Ordering) → Option X → X → Bool
is_past_last order None x = true
is_past_last order (Some last) x = is_lt (order last x)

-- a thing that is listed comes past the last one, by what the registry has of both
abbrev pub comes_past : {T X : Type 0} → (T → X) → (T → Bool) → (X → X → Ordering) → Option T → T → Bool
comes_past named listed order last thing = listed thing && is_past_last order (option_map named last) (named thing)

-- an Executable Load File comes past the last one, by their AIDs
abbrev pub is_next_file : Option LoadFile → LoadFile → Bool
is_next_file last file = comes_past (λ (f : LoadFile). f.aid) (λ _. true) aid_order last file

-- the text was written, or a prefix of it where a write was refused
abbrev pub Writes : {T E : Type 0} → Type 0 → List ℕ → List ℕ → List ℕ → Result T E → Type 0
Writes tells old new text result =
    MatchResult result (λ _. tells → new ≡ old ++ text) (λ _. tells → (n : ℕ) × (new ≡ old ++ take n text))

-- what the registry of some tables has was written so
abbrev pub WritesOf : {T E : Type 0} → (Registry → List ℕ) → Type 0 → Tables → List ℕ → List ℕ → Result T E → Type 0
WritesOf text tells tables old new result = (page : ℕ → List ℕ) (said : Registry) → Represents page tables said → Writes tells old new (text said) result

-- `So` holds of the text of the things in slots that are listed: in ascending order, the line of each by what the
-- registry has of it.
abbrev pub ForText : {T X : Type 0} → (T → X) → (T → List ℕ) → (T → Bool) → (X → X → Ordering) → List (Option T) → (List ℕ → Type 0) → Type 0
ForText {T} {X} named text listed order slots So =
    (xs : List X) (line_of : X → List ℕ) → ((thing : T) → text thing ≡ line_of (named thing))
    → IsPermutation (map named (filter listed (things_in slots))) xs → IsStrictlySortedBy order xs → So (flat_map line_of xs)
