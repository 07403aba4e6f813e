use Rattle.std.proofs.Common.{◌∙◌, ◌∷◌, [], ap, ℕ}
use Rattle.scp03_card.proofs.OfferLemmas.{kept_first_chain}
use Rattle.scp03_card.proofs.session_keys.SessionKeys.first_chain.Goals as goal

pub returns : goal.returns
returns g c = λ offer has right.
    c.chain_after.ensures
    ∙ kept_first_chain c.args.self.now offer has c.args.level (c.code.result ∷ []) c.args.cryptogram.now right (ap (λ (k : ℕ). k ∷ []) c.code.ensures)
