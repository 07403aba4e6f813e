-- Tokens that a desk signs (GlobalPlatform Card Specification 2.3.1, 9.2).
use Rattle.std.specs.Prelude.{◌≡◌, ℕ, List, IfSome}
use Rattle.tokens_receipts.specs.Token.{token}
use Rattle.receipt_desk.specs.Judgement.{DeskState}

-- the token of a command with this P1 and P2 and these bytes before it, under the desk's key
abbrev pub Signs : DeskState → (p1 p2 : ℕ) → List ℕ → List ℕ → Type 0
Signs desk p1 p2 before signed = IfSome desk.key (λ key. signed ≡ token key p1 p2 before)
