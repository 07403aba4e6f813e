use Rattle.script_lines.proofs.ShortCommand.{short_len, through}
use Rattle.script_lines.specs.Words.{SpellsUpTo}
use Rattle.script_lines.specs.Send.{SpellsPlain, apdu_with}
use Rattle.script_lines.proofs.plain.Plain.spelled.Goals as goal

pub returns-in_err-count : goal.returns-in_err-count
unfolding SpellsPlain SpellsUpTo
returns-in_err-count c =
    rw c.from_residual.ensures (λ value h.
    let len = short_len (apdu_with value h.2.0) h.0 h.2.1 in
    c.in_err-count.ensures.spelled h.0 (h.1, len.0, len.1))

pub returns : goal.returns
unfolding SpellsUpTo
returns c = through c.args.word.now _ c.fill.new.self c.fill.result c.in_ok-count.ensures.spelled.0 c.fill.ensures
