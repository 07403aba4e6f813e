use Rattle.std.proofs.Common.{◌≡◌, ◌∙◌, List, ℕ, ap, subst, sym, arith}
use Rattle.std.specs.Result.{result_ok}
use Rattle.scp03_card.specs.Protected.{session_reply}
use Rattle.scp03_host.specs.Agreement.{told_field}
use Rattle.scp03_host.specs.Unwrapped.{Unwraps}
use Rattle.scp03_host.proofs.AgreementLemmas.{told_unwraps}
use Rattle.vectors.proofs.host_sessions.agreement.answer.Goals as goal

pub returns-clause-told : goal.returns-clause-told
returns-clause-told g c = λ session host card.
    let field : List ℕ = c.args.field.now in
    let status : ℕ = c.args.status.0 in
    let sent : session_reply session field status ≡ c.deref.result.now =
    sym (c.deref.ensures.0 ∙ c.close_reply.ensures.protected session card ∙ ap (λ (f : List ℕ). session_reply session f status) c.plain_reply-reply.ensures) in
    let told = subst (λ (r : List ℕ). Unwraps session r (told_field session field status) status) sent
    (told_unwraps session field status (record { at = λ j. omega (arith, c.type_inv.field j) }) (omega arith)) in
    let found = c.unwrap.ensures.back session (told_field session field status) status host told in
    (c.ok.ensures.value ∙ ap result_ok found.0, found.1)
