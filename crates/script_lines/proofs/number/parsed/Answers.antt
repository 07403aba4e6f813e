use Rattle.std.proofs.Common.{arith, sym, ◌∙◌, subst}
use Rattle.std.proofs.lemmas.Fmt.{IsAscii-decimal, parse-decimal}
use Rattle.std.proofs.lemmas.Str.{IsUtf8-from_ascii}
use Rattle.std.specs.Str.{IsAscii}
use Rattle.script_lines.proofs.number.parsed.Goals as goal

pub returns-in-Ok-parse : goal.returns-in-Ok-parse
returns-in-Ok-parse c = λ n small digits.
    let read = parse-decimal 64 n c.in-Ok.text.now c.parse.result small (omega (arith, small)) (c.in-Ok.ensures.cases.0 ∙ digits) c.parse.ensures.value.0 in
    cc (read, c.in-Ok-parse.is)

pub returns-in-Err-parse : goal.returns-in-Err-parse
returns-in-Err-parse c = λ n small digits.
    let read = parse-decimal 64 n c.in-Ok.text.now c.parse.result small (omega (arith, small)) (c.in-Ok.ensures.cases.0 ∙ digits) c.parse.ensures.value.0 in
    cc (read, c.in-Err-parse.is)

pub returns-in-Err : goal.returns-in-Err
returns-in-Err c = λ n small digits.
    absurd (c.in-Err.ensures.cases.0 (IsUtf8-from_ascii c.args.word.now (subst IsAscii (sym digits) (IsAscii-decimal n (omega (arith, small))))))
