use Rattle.load_session.proofs.Judged.{exact_stop}
use Rattle.load_session.proofs.session.LoadSession.judge_block.Goals as goal

pub returns-clause-stop : goal.returns-clause-stop
returns-clause-stop c =
    exact_stop c.args.tables.now c.args.self.now (record { last = c.args.last; field = c.args.block.now }) c.first_stop.result c.first_stop.ensures.stopped c.first_stop.ensures.passes
