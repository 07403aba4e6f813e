-- What the lines of a desk say.
use Rattle.std.specs.Prelude.{◌≡◌, ◌⊎◌, ◌<◌, ◌^◌, ℕ, List, [], ◌∷◌, Ok, codes}
use Rattle.std.specs.Int.{to_be_bytes, w16}
use Rattle.hex.specs.Hex.{decode_of}
use Rattle.script_tool.specs.Keys.{SpellsKey}
use Rattle.script_tool.specs.Line.{IsBlank, IsComment}
use Rattle.script_tool.specs.Words.{SpellsAid, SpellsByte, SpellsUpTo, words_of}
use Rattle.script_lines.specs.declared.keys.OfSize.{OfSize}
use Rattle.receipt_desk.specs.declared.aids.Aids.{Aids}
use Rattle.receipt_desk.specs.declared.aids.Aids.TheVariants.{One, Two, Three}
use Rattle.receipt_desk.specs.declared.line.DeskLine.{DeskLine}
use Rattle.receipt_desk.specs.declared.line.DeskLine.TheVariants.{Nothing, Key, Unique, From, Sign, Receipt}
use Rattle.receipt_desk.specs.declared.receipted.Receipted.{Receipted}
use Rattle.receipt_desk.specs.declared.signing.Signing.{Signing}

-- four digits
unfoldable pub SpellsNumber : List ℕ → ℕ → Type 0
SpellsNumber word number = (decode_of word ≡ Ok (to_be_bytes w16 number)) × (number < 2 ^ 16)

-- `-` for none, or one byte at least and no more than `most`
unfoldable pub SpellsSomeOrNone : ℕ → List ℕ → List ℕ → Type 0
SpellsSomeOrNone most word bytes = ((word ≡ codes "-") × (bytes ≡ [])) ⊎ SpellsUpTo most word bytes

-- the verb of each line that says something
abbrev pub line_verb : DeskLine → List ℕ
line_verb Nothing = []
line_verb (Key key) = codes "key"
line_verb (Unique bytes) = codes "unique"
line_verb (From number) = codes "from"
line_verb (Sign s) = codes "sign"
line_verb (Receipt r) = codes "receipt"

-- `key HEX`: the key of later tokens and receipts, of AES-128, AES-192 or AES-256
abbrev pub SaysKey : List (List ℕ) → OfSize (List ℕ) (List ℕ) (List ℕ) → Type 0
SaysKey (word ∷ []) key = SpellsKey word key
SaysKey _ key = ⊥

-- `unique HEX` or `unique -`: the unique data of the card
abbrev pub SaysUnique : List (List ℕ) → List ℕ → Type 0
SaysUnique (word ∷ []) bytes = SpellsSomeOrNone 20 word bytes
SaysUnique _ bytes = ⊥

-- `from NNNN`: the number of the last receipt
abbrev pub SaysFrom : List (List ℕ) → ℕ → Type 0
SaysFrom (word ∷ []) number = SpellsNumber word number
SaysFrom _ number = ⊥

-- `sign P1 P2 HEX` or `sign P1 P2 -`: a command to approve
abbrev pub SaysSign : List (List ℕ) → Signing → Type 0
SaysSign (p1 ∷ p2 ∷ word ∷ []) s = SpellsByte p1 s.p1 × SpellsByte p2 s.p2 × SpellsSomeOrNone 255 word s.before.items
SaysSign _ s = ⊥

-- one AID, two or three
abbrev pub SpellAids : List (List ℕ) → Aids → Type 0
SpellAids (first ∷ []) (One a) = SpellsAid first a
SpellAids (first ∷ second ∷ []) (Two a b) = SpellsAid first a × SpellsAid second b
SpellAids (first ∷ second ∷ third ∷ []) (Three a b c) = SpellsAid first a × SpellsAid second b × SpellsAid third c
SpellAids _ aids = ⊥

-- `receipt HEX AID [AID [AID]]`: the data field of a reply, and what its command was about
abbrev pub SaysReceipt : List (List ℕ) → Receipted → Type 0
SaysReceipt (word ∷ aids) r = SpellsUpTo 48 word r.reply.items × SpellAids aids r.aids
SaysReceipt _ r = ⊥

-- what the words after the verb say
abbrev pub SayToDesk : List (List ℕ) → DeskLine → Type 0
SayToDesk words Nothing = ⊥
SayToDesk words (Key key) = SaysKey words key
SayToDesk words (Unique bytes) = SaysUnique words bytes.items
SayToDesk words (From number) = SaysFrom words number
SayToDesk words (Sign s) = SaysSign words s
SayToDesk words (Receipt r) = SaysReceipt words r

-- what the words of a line say that says something
abbrev pub SaysWords : List (List ℕ) → DeskLine → Type 0
SaysWords words Nothing = ⊥
SaysWords (verb ∷ words) line = (verb ≡ line_verb line) × SayToDesk words line
SaysWords [] line = ⊥

-- a text is blank or a comment, or its words say something
abbrev pub SaysDesk : List ℕ → DeskLine → Type 0
SaysDesk text Nothing = IsBlank text ⊎ IsComment text
SaysDesk text line = SaysWords (words_of text) line

-- a text says at most one line
abbrev pub OneDeskLine : Type 0
OneDeskLine = (text : List ℕ) (a b : DeskLine) → SaysDesk text a → SaysDesk text b → a ≡ b
