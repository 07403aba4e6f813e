use Rattle.std.proofs.Common.{arith}
use Rattle.std.proofs.lemmas.Grind.{common_steps}
use Rattle.script_lines.proofs.Digits.{half}
use Rattle.script_lines.specs.Words.{SpellsSome, SpellsUpTo}
use Rattle.script_lines.proofs.values.front.Goals as goal

pub returns-then-count-lt1-clause-spelled : goal.returns-then-count-lt1-clause-spelled
unfolding SpellsUpTo
returns-then-count-lt1-clause-spelled g c = λ value h.
    let len = half _ c.args.word.now value h in
    let least = h.1 in
    let most = h.2 in
    let either = c.then-count-lt1.either in
    grind (arith, len, least, most, either)

pub returns-in_err-decode-clause-spelled : goal.returns-in_err-decode-clause-spelled
unfolding SpellsUpTo SpellsSome
returns-in_err-decode-clause-spelled g c =
    rw c.from_residual.ensures (λ value h.
    let len = half _ c.args.word.now value h in
    let least = h.1 in
    let most = h.2 in
    c.in_err-decode.ensures value (h.0, grind (arith, common_steps, len, least, most)))
