-- A token that a desk signs is refused by none of the rules on tokens.
use Rattle.std.proofs.Common.{◌≡◌, ℕ, List, Option, Some, length, ap, subst, ◌∙◌}
use Rattle.std.specs.Prelude.{IfSome}
use Rattle.card_types.specs.Registry.{Key}
use Rattle.cmac_kdf.proofs.CmacLemmas.{cmac_is_block}
use Rattle.tokens_receipts.specs.Token.{signed_by_token, token}
use Rattle.policy_machine.proofs.Approved.{one_holder}
use Rattle.policy_machine.specs.Management.{acting}
use Rattle.policy_machine.specs.declared.delegation.RuleTK.TheVariants.{TK1, TK2, TK3}
use Rattle.receipt_desk.specs.Judgement.{DeskState}
use Rattle.receipt_desk.specs.Laws.{TokensPass}
use Rattle.receipt_desk.specs.Signing.{Signs}

-- it is the token under that key
signed_under : (desk : DeskState) (p1 p2 : ℕ) (before signed key : List ℕ) → desk.key ≡ Some key → Signs desk p1 p2 before signed
    → signed ≡ token key p1 p2 before
signed_under desk p1 p2 before signed key own signs = subst (λ (o : Option (List ℕ)). IfSome o (λ k. signed ≡ token k p1 p2 before)) own signs

pub tokens_pass : TokensPass
tokens_pass desk admitted approval verifier key is own signs TK1 other =
    let signed = signed_under desk _ _ approval.before approval.token key.bytes own signs in
    let block = cmac_is_block key.bytes (signed_by_token admitted.command.p1 admitted.command.p2 approval.before) in
    other (ap (λ (l : List ℕ). length l) signed ∙ block.sixteen)
tokens_pass desk admitted approval verifier key is own signs TK2 none = none verifier is.above.above is.above.fitting
tokens_pass desk admitted approval verifier key is own signs TK3 fails =
    let signed = signed_under desk _ _ approval.before approval.token key.bytes own signs in
    let same = (one_holder admitted.at.registry _ _ (acting admitted) verifier fails.0 key fails.1 is fails.2).1 in
    fails.3 (signed ∙ ap (λ (k : Key). token k.bytes admitted.command.p1 admitted.command.p2 approval.before) same)
