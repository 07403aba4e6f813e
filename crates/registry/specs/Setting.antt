-- For the code inside. Slots whose thing is changed in its place.
use Rattle.std.specs.Prelude.{ℕ}
use Rattle.std.specs.Option.{option_map}
use Rattle.card_types.specs.SlotChange.{SetsEntry, SetsFile}
use Rattle.card_types.specs.Represents.{thing_in}
use Rattle.card_types.specs.declared.found.Found.{Found}
use Rattle.card_types.specs.declared.found.Found.TheVariants as found
use Rattle.card_types.specs.declared.tables.Entry.{Entry}
use Rattle.card_types.specs.declared.tables.LoadFile.{LoadFile}
use Rattle.card_types.specs.declared.tables.Tables.{Tables}

-- the entry in the slot is changed so
abbrev pub ChangesEntry : Tables → Tables → ℕ → (Entry → Entry) → Type 0
ChangesEntry before after slot change = SetsEntry before after slot (option_map change (thing_in before.entries.items slot))

-- the thing names another domain
abbrev pub Moves : Tables → Tables → Found → ℕ → Type 0
Moves before after (found.Entry slot) domain = ChangesEntry before after slot (λ entry. record entry { domain = domain })
Moves before after (found.File slot) domain =
    SetsFile before after slot (option_map (λ (file : LoadFile). record file { domain = domain }) (thing_in before.files.items slot))
