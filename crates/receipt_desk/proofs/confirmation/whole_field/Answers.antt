use Rattle.std.proofs.Common.{[], ◌∙◌, sym}
use Rattle.std.proofs.lemmas.List.{append-nil}
use Rattle.tokens_receipts.specs.Receipt.{with_length}
use Rattle.receipt_desk.proofs.confirmation.whole_field.Goals as goal

pub returns-in_err-field : goal.returns-in_err-field
returns-in_err-field c = rw c.from_residual.ensures (λ field is. c.in_err-field.ensures field [] (is ∙ sym (append-nil (with_length field))))
