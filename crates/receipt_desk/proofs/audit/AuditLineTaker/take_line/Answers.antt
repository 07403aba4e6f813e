use Rattle.receipt_desk.proofs.Obeyed.{obeyed_comes}
use Rattle.receipt_desk.proofs.audit.AuditLineTaker.take_line.Goals as goal

pub returns-in-Some-clause-comes : goal.returns-in-Some-clause-comes
returns-in-Some-clause-comes c =
    obeyed_comes c.args.self.now c.obey.new.self c.args.line.now c.obey.new.text.items c.in-Some.line c.in-Some.ensures c.obey.result c.obey.ensures.obeyed
