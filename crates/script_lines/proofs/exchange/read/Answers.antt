use Rattle.script_lines.specs.Exchange.{exchange_verb}
use Rattle.script_lines.proofs.exchange.read.Goals as goal

pub returns-in_err-verb : goal.returns-in_err-verb
returns-in_err-verb c =
    rw c.from_residual-in_err-verb.ensures (λ e says. let said = rw c.in_ok-take.ensures at says in c.in_err-verb.ensures (exchange_verb e) said.0)
