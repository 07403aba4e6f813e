use Rattle.cap_pack.proofs.OneAnswer.{only_answer, only_stop}
use Rattle.cap_pack.proofs.cap.read.Goals as goal

pub returns-clause-only : goal.returns-clause-only
returns-clause-only c = only_answer c.args.bytes.now c.judged.result c.judged.ensures.same c.judged.ensures.cap c.judged.ensures.stop

pub returns-clause-stop : goal.returns-clause-stop
returns-clause-stop c = only_stop c.args.bytes.now c.judged.result c.judged.ensures.same c.judged.ensures.cap c.judged.ensures.stop
