-- Command APDUs with short length fields (ISO/IEC 7816-3:2006, 12.1; ISO/IEC 7816-4:2013, chapter 5).
use Rattle.std.specs.Prelude.{◌≡◌, ℕ, ◌<◌, List, [], ◌∷◌, ◌++◌, length, Option, Some, None, All}
use Rattle.apdu_core.specs.declared.command.Command.{Command}

-- a command APDU, wherever its body lies in memory
pub record Apdu : Type 0 where
  pub class : ℕ
  pub ins : ℕ
  pub p1 : ℕ
  pub p2 : ℕ
  pub body : List ℕ
  pub le : Option ℕ

-- the command that a `Command` holds
abbrev pub apdu_of : Command → Apdu
apdu_of c = record { class = c.class; ins = c.ins; p1 = c.p1; p2 = c.p2; body = c.body.now; le = c.le }

-- the header, which each command has
abbrev pub header : Apdu → List ℕ
header c = c.class ∷ c.ins ∷ c.p1 ∷ c.p2 ∷ []

-- what follows the header, by the four cases: nothing, Le, Lc and the body, or Lc, the body and Le
abbrev pub after_header : (body : List ℕ) (le : Option ℕ) → List ℕ
after_header [] None = []
after_header [] (Some le) = le ∷ []
after_header (b ∷ bs) None = length (b ∷ bs) ∷ b ∷ bs
after_header (b ∷ bs) (Some le) = length (b ∷ bs) ∷ b ∷ bs ++ le ∷ []

-- the bytes are the short spelling of the command
pub record Short (c : Apdu) (bytes : List ℕ) : Type 0 where
  pub spelling : bytes ≡ header c ++ after_header c.body c.le
  pub octets : All (λ b. b < 256) bytes

-- no bytes spell two commands
abbrev pub OneCommand : Type 0
OneCommand = (c d : Apdu) (bytes : List ℕ) → Short c bytes → Short d bytes → c ≡ d

-- no command has two spellings
abbrev pub OneSpelling : Type 0
OneSpelling = (c : Apdu) (bytes others : List ℕ) → Short c bytes → Short c others → bytes ≡ others
