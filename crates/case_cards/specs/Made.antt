-- For the code inside. Things of a registry, made of the words that say them.
use Rattle.std.specs.Prelude.{◌≡◌, ◌+◌, ◌*◌, ℕ, List, [], ◌∷◌, Some, slice_index}
use Rattle.card_types.specs.CardLife.{card_life_code}
use Rattle.card_types.specs.Found.{aid_of}
use Rattle.card_types.specs.LifeMark.{life_mark_code}
use Rattle.card_types.specs.Privileges.{ArePrivilegeBytes}
use Rattle.card_types.specs.declared.card_life.CardLife.{CardLife}
use Rattle.card_types.specs.declared.found.Found.TheVariants.{Entry as InEntry, File as InFile}
use Rattle.card_types.specs.declared.tables.Entry.{Entry}
use Rattle.card_types.specs.declared.tables.Tables.{Tables}
use Rattle.script_lines.specs.Words.{SpellsByte}
use Rattle.case_cards.specs.Things.{SaysEntry}
use Rattle.case_cards.specs.declared.things.EntryWords.{EntryWords}

-- one word spells the code of the state
abbrev pub SaysCardLife : List (List ℕ) → CardLife → Type 0
SaysCardLife (word ∷ []) life = SpellsByte word (card_life_code life)
SaysCardLife _ life = ⊥

-- the entry of these words: things that it names are in the slots that it has for them
pub record IsEntryOf (tables : Tables) (words : EntryWords) (entry : Entry) : Type 0 where
  pub aid : entry.aid ≡ words.aid.items
  pub domain : aid_of tables (InEntry entry.domain) ≡ Some words.domain.items
  pub file : aid_of tables (InFile entry.file) ≡ Some words.file.items
  pub module_aid : entry.«module» ≡ words.«module».items
  pub life : words.state.life ≡ life_mark_code entry.life ∷ []
  pub privileges : ArePrivilegeBytes entry.privileges words.state.privileges
  pub receipts : entry.receipts ≡ 256 * slice_index words.state.receipts 0 + slice_index words.state.receipts 1

-- the entry that these words say
abbrev pub SaysMade : Tables → List (List ℕ) → Entry → Type 0
SaysMade tables words entry = (said : EntryWords) × SaysEntry words said × IsEntryOf tables said entry
