use Rattle.script_lines.proofs.Split.{some_word}
use Rattle.script_lines.proofs.words.Words.end.Goals as goal

pub returns-in-Some : goal.returns-in-Some
returns-in-Some c = (λ f. cc f, λ e. absurd (some_word c.in-Some.field-0.now (rw c.in-Some.is at e)))
