use Rattle.std.proofs.Common.{refl}
use Rattle.cap_pack.proofs.joined.JoinedLineTaker.take_line.Goals as goal

pub returns-in-None-clause-comes : goal.returns-in-None-clause-comes
returns-in-None-clause-comes c = (λ form. c.in-None.ensures (record { items = form.2.0 }) form.2.1, refl)
