-- `life P1 P2 [AID]` is SET STATUS (GlobalPlatform Card Specification 2.3.1, 11.10).
use Rattle.std.specs.Prelude.{ℕ, List, [], ◌∷◌, Option, Some, None}
use Rattle.script_lines.specs.Words.{SpellsAid, SpellsByte}
use Rattle.script_lines.specs.declared.life.LifeChange.{LifeChange}
use Rattle.apdu_core.specs.Apdu.{Apdu}
use Rattle.script_lines.specs.Command.{plain_command}

-- the AID, or none where the words end
abbrev pub MayName : List (List ℕ) → Option (List ℕ) → Type 0
MayName [] None = Unit {0}
MayName (word ∷ []) (Some aid) = SpellsAid word aid
MayName _ _ = ⊥

-- P1, P2 and the object
abbrev pub SaysLife : List (List ℕ) → LifeChange → Type 0
SaysLife (p1 ∷ p2 ∷ aid) l = SpellsByte p1 l.p1 × SpellsByte p2 l.p2 × MayName aid l.aid
SaysLife _ l = ⊥

abbrev pub aid_or_none : Option (List ℕ) → List ℕ
aid_or_none None = []
aid_or_none (Some aid) = aid

-- SET STATUS (GlobalPlatform Card Specification 2.3.1, 11.10.2)
abbrev pub changing_life : LifeChange → Apdu
changing_life l = plain_command 0xF0 l.p1 l.p2 (aid_or_none l.aid)
