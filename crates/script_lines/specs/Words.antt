-- The words of a line, and what a word spells.
use Rattle.std.specs.List.{slice_split}
use Rattle.std.specs.Option.{option_map_or}
use Rattle.std.specs.Prelude.{◌≡◌, ℕ, List, [], ◌==◌, false, All, ◌≤◌, ◌∷◌, length, Ok, Option, MatchOption}
use Rattle.apdu_core.specs.Reply.{status_bytes}
use Rattle.arrayvec.specs.ArrayVec.{ArrayVec}
use Rattle.apdu_core.specs.declared.reply.Status.{Status}
use Rattle.card_types.specs.Aid.{IsAid}
use Rattle.card_types.specs.Level.{code_of}
use Rattle.card_types.specs.declared.level.Level.{Level}
use Rattle.hex.specs.Hex.{decode_of}
use Rattle.script_lines.specs.declared.words.Words.{Words}

-- what stands between the spaces, so that two spaces side by side have an empty word between them
unfoldable pub words_of : List ℕ → List (List ℕ)
words_of text = slice_split (λ byte. byte == 32) text

-- the words that are left
abbrev pub remaining_words : Words → List (List ℕ)
remaining_words words = option_map_or (λ text. words_of text.now) words.rest []

abbrev pub HasNoSpace : List ℕ → Type 0
HasNoSpace text = All (λ byte. (byte == 32) ≡ false) text

-- Hexadecimal digits may be of either case.

-- the word spells `count` bytes
unfoldable pub SpellsSome : ℕ → List ℕ → List ℕ → Type 0
SpellsSome count word bytes = (decode_of word ≡ Ok bytes) × (length bytes ≡ count)

-- one byte at least, and no more than `most`
unfoldable pub SpellsUpTo : ℕ → List ℕ → List ℕ → Type 0
SpellsUpTo most word bytes = (decode_of word ≡ Ok bytes) × (1 ≤ length bytes) × (length bytes ≤ most)

-- one word of 1 to 258 bytes, more than which no line holds
abbrev pub SaysBytes : List (List ℕ) → ArrayVec ℕ → Type 0
SaysBytes (word ∷ []) bytes = SpellsUpTo 258 word bytes.items
SaysBytes _ bytes = ⊥

-- two digits
unfoldable pub SpellsByte : List ℕ → ℕ → Type 0
SpellsByte word byte = decode_of word ≡ Ok (byte ∷ [])

-- 10 to 32 digits
unfoldable pub SpellsAid : List ℕ → List ℕ → Type 0
SpellsAid word aid = (decode_of word ≡ Ok aid) × IsAid aid

-- the code of a security level
abbrev pub SpellsLevel : List ℕ → Level → Type 0
SpellsLevel word level = SpellsByte word (code_of level)

-- SW1 and SW2
unfoldable pub SpellsStatus : List ℕ → Status → Type 0
SpellsStatus word status = decode_of word ≡ Ok (status_bytes status.0)

-- For the code inside. What a reading answers: a value that is said, or none where no value is
abbrev pub Reads : {X : Type 0} → (X → Type 0) → Option X → Type 0
Reads {X} Says answer = MatchOption answer ((value : X) → Says value → ⊥) Says
