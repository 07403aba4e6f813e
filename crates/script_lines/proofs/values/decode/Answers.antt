use Rattle.script_lines.proofs.Digits.{answered, spelled}
use Rattle.script_lines.proofs.values.decode.Goals as goal

pub returns-in-Ok : goal.returns-in-Ok
returns-in-Ok c = spelled _ _ _ _ c.decode_to_slice.ensures.value c.in-Ok.is

pub returns-in-Err : goal.returns-in-Err
returns-in-Err c = λ bytes h. let ok = answered _ _ _ _ bytes c.decode_to_slice.ensures.value h in cc (ok, c.in-Err.is)
