use Rattle.std.proofs.Common.{◌∙◌, ◌++◌, ap, length, arith}
use Rattle.scp03_card.proofs.ListLemmas.{written_after}
use Rattle.scp03_host.proofs.external_authenticate.answer_body.Goals as goal

pub returns : goal.returns
returns c =
    written_after c.copy_from_slice.new.self _ c.copy_from_slice-2.new.self 8 8 (ap length c.copy_from_slice.ensures.after ∙ c.told-cryptogram) (omega arith)
    ∙ (λ i. c.copy_from_slice.ensures.after i ++ c.copy_from_slice-2.ensures.after i)
