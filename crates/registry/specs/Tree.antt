-- For the code inside. A security domain with all that is below it, and the lock marks there (GlobalPlatform Card Specification
-- 2.3.1, 11.10).
use Rattle.std.specs.Prelude.{◌≡◌, ◌⊎◌, ℕ, List, Bool, Option, length}
use Rattle.std.specs.Option.{option_map}
use Rattle.card_types.specs.Represents.{domain_slot, thing_in}
use Rattle.card_types.specs.declared.tables.Entry.{Entry}
use Rattle.card_types.specs.declared.tables.Tables.{Tables}
use Rattle.domain_tree.specs.Above.{Above}
use Rattle.rec_store.specs.Contents.{Contents}

-- the slot is that of the domain, or of an entry below it
abbrev pub IsSlotInTree : List (Option Entry) → ℕ → ℕ → Type 0
IsSlotInTree entries domain slot = (slot ≡ domain) ⊎ Above (domain_slot entries) domain slot

-- the entry with this lock mark, in the life cycle state that it has
abbrev pub with_lock : Bool → Entry → Entry
with_lock locked entry = record entry { life = record { life = entry.life.life; locked = locked } }

-- the entries of the tree have this lock mark
pub record LocksTree (before after : Tables) (domain : ℕ) (locked : Bool) : Type 0 where
  pub life : after.life ≡ before.life
  pub slots : length after.entries.items ≡ length before.entries.items
  pub inside : (slot : ℕ) → IsSlotInTree before.entries.items domain slot → thing_in after.entries.items slot ≡ option_map (with_lock locked) (thing_in before.entries.items slot)
  pub outside : (slot : ℕ) → (IsSlotInTree before.entries.items domain slot → ⊥) → thing_in after.entries.items slot ≡ thing_in before.entries.items slot
  pub files : after.files.items ≡ before.files.items
  pub keys : after.keys.items ≡ before.keys.items
  pub objects : after.objects.items ≡ before.objects.items

-- nothing but the entries, and the pages that are staged, is another
pub record SameButEntries {F : Type 0} (old new : Contents F) : Type 0 where
  pub flash : new.flash ≡ old.flash
  pub live : new.live ≡ old.live
  pub life : new.tables.life ≡ old.tables.life
  pub files : new.tables.files.items ≡ old.tables.files.items
  pub keys : new.tables.keys.items ≡ old.tables.keys.items
  pub objects : new.tables.objects.items ≡ old.tables.objects.items
