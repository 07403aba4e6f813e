use Rattle.std.proofs.Common.{◌≡◌, ◌∙◌, ℕ, ap, subst, sym, take, arith}
use Rattle.apdu_core.specs.Apdu.{Apdu, Short, apdu_of}
use Rattle.apdu_core.proofs.OneSpelling.{one_command}
use Rattle.scp03_card.specs.Kept.{RepresentsSession}
use Rattle.scp03_card.specs.Opens.{Opens, accepting}
use Rattle.scp03_host.specs.Wrapped.{having_sent, wrapped_command}
use Rattle.scp03_host.proofs.AgreementLemmas.{accepting_is, opens_sent}
use Rattle.vectors.proofs.host_sessions.agreement.deliver.Goals as goal

pub returns-in_default-read : goal.returns-in_default-read
returns-in_default-read g c = λ session bytes host card.
    let spelled = subst (Short (wrapped_command session (apdu_of c.args.command.now) 0)) (sym c.deref.ensures.0) (c.in-Ok.ensures.sent session host) in
    c.in_default-read.ensures.refused (wrapped_command session (apdu_of c.args.command.now) 0) spelled

pub returns-in_default-open_command : goal.returns-in_default-open_command
returns-in_default-open_command g c = λ session bytes host card.
    let plain : Apdu = apdu_of c.args.command.now in
    let spelled = subst (Short (wrapped_command session plain 0)) (sym c.deref.ensures.0) (c.in-Ok.ensures.sent session host) in
    let same : wrapped_command session plain 0 ≡ apdu_of c.in-Ok-read.received = one_command (wrapped_command session plain 0) (apdu_of c.in-Ok-read.received) c.deref.result.now spelled c.in-Ok-read.ensures.ok in
    let opens = subst (λ (a : Apdu). Opens session a plain.body) same (opens_sent session plain 0 (omega arith) bytes) in
    let found = c.open_command.ensures.back session plain.body card opens in
    c.in_default-open_command.not-Ok found.0 found.1

pub returns : goal.returns
returns g c = λ session bytes host card.
    let plain : Apdu = apdu_of c.args.command.now in
    let spelled = subst (Short (wrapped_command session plain 0)) (sym c.deref.ensures.0) (c.in-Ok.ensures.sent session host) in
    let same : wrapped_command session plain 0 ≡ apdu_of c.in-Ok-read.received = one_command (wrapped_command session plain 0) (apdu_of c.in-Ok-read.received) c.deref.result.now spelled c.in-Ok-read.ensures.ok in
    let opens = subst (λ (a : Apdu). Opens session a plain.body) same (opens_sent session plain 0 (omega arith) bytes) in
    let found = c.in-Ok-open_command.ensures.back session plain.body card opens in
    let after : accepting session (apdu_of c.in-Ok-read.received) ≡ having_sent session plain = ap (accepting session) (sym same) ∙ accepting_is session plain 0 (omega arith) bytes in
    let count : c.in-Ok-open_command.len ≡ found.0 = (let same_count = found.1 in cc) in
    (ap (λ (n : ℕ). take n c.open_command.new.plain) count ∙ found.2, (c.in-Ok.ensures.accepted session host, subst (RepresentsSession c.open_command.new.self) after (c.in-Ok-open_command.ensures.accepted session card)))
