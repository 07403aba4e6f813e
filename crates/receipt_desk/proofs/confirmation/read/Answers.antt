use Rattle.std.proofs.Common.{◌≡◌, ℕ, List, ◌++◌, length, refl, sym, ap, arith, rules}
use Rattle.tokens_receipts.specs.Receipt.{with_length}
use Rattle.receipt_desk.specs.Judgement.{Confirmation}
use Rattle.receipt_desk.proofs.Fields.{code_is, last_is, number_is, rest_is, spelled}
use Rattle.receipt_desk.proofs.confirmation.read.Goals as goal

pub returns-in_err-confirmation : goal.returns-in_err-confirmation
returns-in_err-confirmation c =
    rw c.from_residual.ensures (λ is spells.
    c.in_err-confirmation.ensures (with_length is.code ++ with_length is.number ++ with_length is.unique) spells.is)

pub returns-in_err-number : goal.returns-in_err-number
returns-in_err-number c =
    rw c.from_residual-in_err-number.ensures (λ is spells.
    c.in_err-number.ensures is.number (with_length is.unique) (rest_is _ is spells _ c.in_ok-confirmation.ensures _ _ c.in_ok-code.ensures))

pub returns-in_err-unique : goal.returns-in_err-unique
returns-in_err-unique c =
    rw c.from_residual-in_err-unique.ensures (λ is spells.
    c.in_err-unique.ensures is.unique
    (last_is _ is spells _ c.in_ok-confirmation.ensures _ _ c.in_ok-code.ensures _ _ c.in_ok-number.ensures))

pub returns-then-code-ne16 : goal.returns-then-code-ne16
returns-then-code-ne16 c = λ is spells.
    let code = code_is _ is spells _ c.in_ok-confirmation.ensures _ _ c.in_ok-code.ensures in
    let number = number_is _ is spells _ c.in_ok-confirmation.ensures _ _ c.in_ok-code.ensures _ _ c.in_ok-number.ensures in
    let sixteen = spells.code in
    let two = spells.number in
    let same : length c.in_ok-code.code.now ≡ length is.code = ap (λ (l : List ℕ). length l) code in
    let alike : length c.in_ok-number.number.now ≡ length is.number = ap (λ (l : List ℕ). length l) number in
    let either = c.then-code-ne16.either in
    grind (arith, sixteen, two, same, alike, either)

pub returns : goal.returns
returns c =
    let is : Confirmation = record { code = c.in_ok-code.code.now; number = c.in_ok-number.number.now; unique = c.in_ok-unique.unique.now } in
    let spells = spelled _ _ _ _ _ _ _ c.in_ok-confirmation.ensures c.in_ok-code.ensures c.in_ok-number.ensures c.in_ok-unique.ensures (search rules) (search rules) in
    (is, spells, (refl, sym c.from_be_bytes.ensures))
