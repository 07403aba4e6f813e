use Rattle.std.proofs.Common.{ap}
use Rattle.script_lines.specs.Mill.{after, word}
use Rattle.script_lines.proofs.mill.draw.Goals as goal

pub returns-clause-word : goal.returns-clause-word
unfolding word
returns-clause-word c = ap (λ pair. pair.0) c.next_word.ensures

pub returns-clause-after : goal.returns-clause-after
unfolding after
returns-clause-after c = ap (λ pair. pair.1) c.next_word.ensures
