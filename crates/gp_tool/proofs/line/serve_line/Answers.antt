use Rattle.gp_tool.proofs.line.serve_line.Goals as goal

pub returns-in-Run-clause-served : goal.returns-in-Run-clause-served
returns-in-Run-clause-served g c = rw c.in-Run.is (c.answer_line.ensures.served c.args.differs.now)

pub returns-in-Why-clause-served : goal.returns-in-Why-clause-served
returns-in-Why-clause-served g c = rw c.in-Why.is (c.answer_line-in-Why.ensures.served c.args.differs.now)

pub returns-in-Replay-clause-served : goal.returns-in-Replay-clause-served
returns-in-Replay-clause-served g c = rw c.in-Replay.is c.replay_line.ensures.served

pub returns-in-Play-clause-served : goal.returns-in-Play-clause-served
returns-in-Play-clause-served g c = rw c.in-Play.is c.play_line.ensures.served
