-- For the code inside. What words lay out in the pages of a device.
use Rattle.std.specs.Prelude.{◌≡◌, ℕ, ◌+◌, ◌/◌, ◌%◌, List, [], ◌∷◌, ◌++◌, codes, length}
use Rattle.script_lines.specs.Words.{SpellsByte, words_of}
use Rattle.case_cards.specs.Image.{with_bytes}
use Rattle.case_cards.specs.Slots.{slot_start, name_field, with_zeros}
use Rattle.case_cards.specs.Things.{SaysCardKey, SaysEntry, SaysObject}
use Rattle.case_cards.specs.declared.layout.slot.Slots.{Slots}
use Rattle.case_cards.specs.declared.layout.slot.TheConstants.{LOAD_PAGES, ENTRIES, KEYS, OBJECTS}
use Rattle.case_cards.specs.declared.things.EntryWords.{EntryWords}
use Rattle.case_cards.specs.declared.things.FileWords.{FileWords}
use Rattle.case_cards.specs.declared.things.KeyWords.{KeyWords}
use Rattle.case_cards.specs.declared.things.ObjectWords.{ObjectWords}

-- the pages, the names of the entries and the files by their slots, how many keys and objects there are, and the next load page
pub record Laid : Type 0 where
  pub image : List ℕ
  pub entries : List (List ℕ)
  pub files : List (List ℕ)
  pub keys : ℕ
  pub objects : ℕ
  pub load_page : ℕ

-- pages in which nothing was laid out
abbrev pub nothing_in : List ℕ → Laid
nothing_in image = record { image = image; entries = []; files = []; keys = 0; objects = 0; load_page = LOAD_PAGES }

-- the slot with this number begins with these bytes
abbrev pub with_slot : Slots → ℕ → List ℕ → List ℕ → List ℕ
with_slot slots number bytes image = with_bytes image (slot_start slots number) bytes

-- the front of the superblock: the mark of a card, and its layout
abbrev pub superblock : List ℕ
superblock = 0x47 ∷ 0x50 ∷ 0x43 ∷ 0x44 ∷ 0x03 ∷ []

-- `LIFE`: the superblock has this byte after its front
abbrev pub LaysCard : List (List ℕ) → Laid → Laid → Type 0
LaysCard (word ∷ []) old new =
    (life : ℕ) × SpellsByte word life × (new ≡ record old { image = with_bytes (with_bytes old.image 0 superblock) 5 (life ∷ []) })
LaysCard _ old new = ⊥

-- the slot of an entry, with the slots of its domain and its file
abbrev pub entry_bytes : ℕ → ℕ → EntryWords → List ℕ
entry_bytes domain file e =
    0x01 ∷ name_field e.aid.items ++ domain ∷ file ∷ [] ++ name_field e.«module».items ++ e.state.life ++ e.state.privileges ++ e.state.receipts

-- the next entry, with some slots for its domain and its file
pub record LaysEntry (words : List (List ℕ)) (old new : Laid) : Type 0 where
  pub said : EntryWords
  pub domain : ℕ
  pub file : ℕ
  pub says : SaysEntry words said
  pub entries : new.entries ≡ old.entries ++ said.aid.items ∷ []
  pub image : new.image ≡ with_slot ENTRIES (length old.entries) (entry_bytes domain file said) old.image
  pub others : new ≡ record old { image = new.image; entries = new.entries }

-- the slot of a key, with the slot of its owner
abbrev pub key_bytes : ℕ → KeyWords → List ℕ
key_bytes owner k = 0x01 ∷ owner ∷ [] ++ k.version ++ k.identifier ++ length k.key.items ∷ [] ++ with_zeros 32 k.key.items ++ k.counter

-- the next key, with some slot for its owner
pub record LaysKey (words : List (List ℕ)) (old new : Laid) : Type 0 where
  pub said : KeyWords
  pub owner : ℕ
  pub says : SaysCardKey words said
  pub image : new.image ≡ with_slot KEYS old.keys (key_bytes owner said) old.image
  pub keys : new.keys ≡ old.keys + 1
  pub others : new ≡ record old { image = new.image; keys = new.keys }

-- the slot of a data object, with the slot of its owner
abbrev pub object_bytes : ℕ → ObjectWords → List ℕ
object_bytes owner o = 0x01 ∷ owner ∷ [] ++ o.tag ++ length o.value.items ∷ [] ++ o.value.items

-- the next data object, with some slot for its owner
pub record LaysObject (words : List (List ℕ)) (old new : Laid) : Type 0 where
  pub said : ObjectWords
  pub owner : ℕ
  pub says : SaysObject words said
  pub image : new.image ≡ with_slot OBJECTS old.objects (object_bytes owner said) old.image
  pub objects : new.objects ≡ old.objects + 1
  pub others : new ≡ record old { image = new.image; objects = new.objects }

-- the slot of a file, with the slot of its domain, before it names its load pages
abbrev pub file_bytes : ℕ → FileWords → List ℕ
file_bytes domain f = 0x01 ∷ name_field f.aid.items ++ domain ∷ [] ++ f.len / 256 ∷ f.len % 256 ∷ [] ++ with_zeros 235 []

-- the next file: nothing is added but its name, its slot and its load pages
pub record LaysFile (old new : Laid) : Type 0 where
  pub files : length new.files ≡ length old.files + 1
  pub others : new ≡ record old { image = new.image; files = new.files; load_page = new.load_page }

-- what each kind of line lays out
pub record Lays (kind line : List ℕ) (old new : Laid) : Type 0 where
  pub card : kind ≡ codes "card" → LaysCard (words_of line) old new
  pub file : kind ≡ codes "file" → LaysFile old new
  pub key : kind ≡ codes "key" → LaysKey (words_of line) old new
  pub object : kind ≡ codes "object" → LaysObject (words_of line) old new
  pub domain : kind ≡ codes "domain" → LaysEntry (words_of line) old new
  pub app : kind ≡ codes "app" → LaysEntry (words_of line) old new
