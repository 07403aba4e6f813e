-- For the code inside. The things of a registry, as words say them.
use Rattle.std.specs.Prelude.{◌≡◌, List, [], ◌∷◌, codes, decimal, ℕ}
use Rattle.script_lines.specs.Words.{SpellsSome, SpellsUpTo}
use Rattle.case_cards.specs.declared.things.EntryWords.{EntryWords}
use Rattle.case_cards.specs.declared.things.FileWords.{FileWords}
use Rattle.case_cards.specs.declared.things.KeyWords.{KeyWords}
use Rattle.case_cards.specs.declared.things.ObjectWords.{ObjectWords}
use Rattle.case_cards.specs.declared.things.StateWords.{StateWords}

-- `life LL priv PPPPPP receipts NNNN`
abbrev pub SaysState : List (List ℕ) → StateWords → Type 0
SaysState (state ∷ life ∷ holds ∷ privileges ∷ counts ∷ receipts ∷ []) s =
    (state ≡ codes "life") × (holds ≡ codes "priv") × (counts ≡ codes "receipts")
    × SpellsSome 1 life s.life × SpellsSome 3 privileges s.privileges × SpellsSome 2 receipts s.receipts
SaysState _ s = ⊥

-- `AID in DOMAIN from FILE module MODULE`, and then the state
abbrev pub SaysEntry : List (List ℕ) → EntryWords → Type 0
SaysEntry (aid ∷ in' ∷ domain ∷ from ∷ file ∷ of ∷ module' ∷ state) e =
    (in' ≡ codes "in") × (from ≡ codes "from") × (of ≡ codes "module")
    × SpellsUpTo 16 aid e.aid.items × SpellsUpTo 16 domain e.domain.items × SpellsUpTo 16 file e.file.items
    × SpellsUpTo 16 module' e.«module».items × SaysState state e.state
SaysEntry _ e = ⊥

-- `AID in DOMAIN bytes N`, and then the rest
abbrev pub SaysFile : List (List ℕ) → FileWords → List (List ℕ) → Type 0
SaysFile (aid ∷ in' ∷ domain ∷ size ∷ digits ∷ more) f rest =
    (in' ≡ codes "in") × (size ≡ codes "bytes") × (digits ≡ decimal f.len) × (more ≡ rest)
    × SpellsUpTo 16 aid f.aid.items × SpellsUpTo 16 domain f.domain.items
SaysFile _ f rest = ⊥

-- `OWNER VV II KEY CCCCCC`
abbrev pub SaysCardKey : List (List ℕ) → KeyWords → Type 0
SaysCardKey (owner ∷ version ∷ identifier ∷ key ∷ counter ∷ []) k =
    SpellsUpTo 16 owner k.owner.items × SpellsSome 1 version k.version × SpellsSome 1 identifier k.identifier
    × SpellsUpTo 32 key k.key.items × SpellsSome 3 counter k.counter
SaysCardKey _ k = ⊥

-- `OWNER TTTT VALUE`
abbrev pub SaysObject : List (List ℕ) → ObjectWords → Type 0
SaysObject (owner ∷ tag ∷ value ∷ []) o =
    SpellsUpTo 16 owner o.owner.items × SpellsSome 2 tag o.tag × SpellsUpTo 120 value o.value.items
SaysObject _ o = ⊥
