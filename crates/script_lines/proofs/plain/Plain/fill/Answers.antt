use Rattle.std.proofs.Common.{sym, ◌∙◌}
use Rattle.apdu_core.specs.Apdu.{apdu_of}
use Rattle.script_lines.proofs.ShortCommand.{class_first}
use Rattle.script_lines.specs.Send.{apdu_with}
use Rattle.script_lines.proofs.plain.Plain.fill.Goals as goal

pub returns-then-not-is_unprotected : goal.returns-then-not-is_unprotected
returns-then-not-is_unprotected c = λ value h.
    let other = class_first (apdu_of c.in-Ok.command) c.args.bytes.now c.in-Ok.ensures.ok in
    let own = class_first (apdu_with value h.0) c.args.bytes.now h.1 in
    cc (c.is_unprotected.ensures.1 (sym other ∙ own), c.if-not-is_unprotected.true)

pub returns-in-Err : goal.returns-in-Err
returns-in-Err c = λ value h. c.in-Err.ensures.refused (apdu_with value h.0) h.1
