use Rattle.std.proofs.Common.{Err, ap, ◌∙◌}
use Rattle.script_tool.proofs.Opened.{wrong_played}
use Rattle.script_tool.proofs.session_opening.answer_update.Goals as goal

pub returns-in-Err-CardCryptogram-clause-played : goal.returns-in-Err-CardCryptogram-clause-played
returns-in-Err-CardCryptogram-clause-played g c whole represents =
    let wrong = c.begin.ensures.cryptogram.0 (c.in-Err-CardCryptogram.is ∙ ap Err c.in-Err-CardCryptogram.field-0-is) in
    wrong_played g.L.CardLink c.args.link.now whole c.args.host.now c.args.opening.now c.args.field.now c.counter_in-in-Err-CardCryptogram.result
    represents wrong.0 wrong.1 c.counter_in-in-Err-CardCryptogram.ensures
