-- The laws of a desk.
use Rattle.std.specs.Prelude.{◌≡◌, ◌≢◌, ℕ, ◌+◌, ◌<◌, ◌^◌, List, [], ◌∷◌, All, Some}
use Rattle.card_types.specs.Registry.{Key}
use Rattle.cmac_kdf.specs.Cmac.{cmac}
use Rattle.policy_machine.specs.Admission.{Admitted}
use Rattle.policy_machine.specs.Delegation.{Approval, IsVerifier, TokenFails}
use Rattle.policy_machine.specs.Management.{acting}
use Rattle.policy_machine.specs.declared.delegation.RuleTK.{RuleTK}
use Rattle.tokens_receipts.specs.Receipt.{receipt, signed_by_receipt}
use Rattle.receipt_desk.specs.InTurn.{IsFits, JudgedInTurn, Slip, fits_from}
use Rattle.receipt_desk.specs.Judgement.{DeskState, Judged}
use Rattle.receipt_desk.specs.Signing.{Signs}
use Rattle.receipt_desk.specs.declared.verdict.Verdict.{Verdict}
use Rattle.receipt_desk.specs.declared.verdict.Verdict.TheVariants.{Fits}

-- a data field has at most one verdict
abbrev pub OneVerdict : Type 0
OneVerdict =
    (key unique : List ℕ) (last : ℕ) (reply : List ℕ) (aids : List (List ℕ)) (a b : Verdict)
    → Judged key unique last reply aids a → Judged key unique last reply aids b → a ≡ b

-- where all fit, their numbers follow one another from the last one on
abbrev pub FittingFollow : Type 0
FittingFollow =
    (key unique : List ℕ) (last end : ℕ) (slips : List Slip) (verdicts : List Verdict)
    → JudgedInTurn key unique last slips verdicts end → All IsFits verdicts → verdicts ≡ fits_from last slips

-- Whatever the keys and the AIDs are, a receipt fits only where its number is the next one and its unique data is that of the desk.
abbrev pub OnePlace : Type 0
OnePlace =
    (key unique other another : List ℕ) (last number next : ℕ) (aids others : List (List ℕ)) → number < 2 ^ 16
    → Judged key unique last (receipt other number another others) aids (Fits next) → (next ≡ number) × (number ≡ last + 1) × (another ≡ unique)

-- the slips are receipts with these numbers, whichever keys, unique data and AIDs they are of
abbrev pub AreReceipts : List Slip → List ℕ → Type 0
AreReceipts [] numbers = numbers ≡ []
AreReceipts (slip ∷ slips) [] = ⊥
AreReceipts (slip ∷ slips) (number ∷ numbers) =
    (number < 2 ^ 16) × ((key : List ℕ) × (unique : List ℕ) × (aids : List (List ℕ)) × (slip.reply ≡ receipt key number unique aids))
    × AreReceipts slips numbers

-- the numbers after a last one, as many as there are slips
abbrev pub numbers_from : ℕ → List Slip → List ℕ
numbers_from last [] = []
numbers_from last (slip ∷ slips) = (last + 1) ∷ numbers_from (last + 1) slips

-- Where all receipts of a list fit, none is missing before another, comes twice, or is out of order.
abbrev pub GapsAreNoticed : Type 0
GapsAreNoticed =
    (key unique : List ℕ) (last end : ℕ) (slips : List Slip) (verdicts : List Verdict) (numbers : List ℕ)
    → AreReceipts slips numbers → JudgedInTurn key unique last slips verdicts end → All IsFits verdicts → numbers ≡ numbers_from last slips

-- a receipt under another key or of other AIDs fits nowhere, where its CMAC is another one
abbrev pub OtherMacsAreNoticed : Type 0
OtherMacsAreNoticed =
    (key other unique : List ℕ) (last number next : ℕ) (aids others : List (List ℕ)) → number < 2 ^ 16
    → cmac key (signed_by_receipt number unique aids) ≢ cmac other (signed_by_receipt number unique others)
    → Judged key unique last (receipt other number unique others) aids (Fits next) → ⊥

-- None of the rules on the token of a command refuses one that a desk signed with the key of the command's verifier.
abbrev pub TokensPass : Type 0
TokensPass =
    (desk : DeskState) (admitted : Admitted) (approval : Approval) (verifier : List ℕ) (key : Key)
    → IsVerifier admitted.at.registry (acting admitted) verifier key → desk.key ≡ Some key.bytes
    → Signs desk admitted.command.p1 admitted.command.p2 approval.before approval.token
    → (rule : RuleTK) → TokenFails admitted approval rule → ⊥
