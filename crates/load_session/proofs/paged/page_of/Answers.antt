use Rattle.std.proofs.Common.{◌≡◌, ◌-◌, ℕ, List, ◌++◌, drop, replicate, length, ap, ◌∙◌}
use Rattle.std.proofs.lemmas.List.{drop-replicate}
use Rattle.load_session.proofs.paged.page_of.Goals as goal

pub returns : goal.returns
returns c =
    let bytes = c.args.bytes.now in
    let n = length bytes in
    let rest : drop n (replicate {A = ℕ} 256 0) ≡ replicate (256 - n) 0 = drop-replicate n 256 0 in
    ap (λ (front : List ℕ). front ++ drop n (replicate {A = ℕ} 256 0)) c.copy_from_slice.ensures.after ∙ ap (λ (tail : List ℕ). bytes ++ tail) rest
