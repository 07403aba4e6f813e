use Rattle.std.proofs.Common.{refl, sym, ◌∙◌, inl, inr}
use Rattle.line_runs.specs.Outside.{outside}
use Rattle.line_runs.proofs.Passed.{line_leaves, line_takes, stop_takes}
use Rattle.line_runs.proofs.Turns.{bad_form, failure_ends, given_line, refusal_ends}
use Rattle.line_runs.proofs.run.take_turn.Goals as goal

pub returns-in-Ok-write_text-clause-goes_on : goal.returns-in-Ok-write_text-clause-goes_on
unfolding given_line
returns-in-Ok-write_text-clause-goes_on g c =
    let gives = rw c.in-Ok.is at c.next_line.follows.holds-at-none in
    record {
      stop = gives.stop;
      number = gives.number ∙ c.in-Ok.ensures.number;
      within = gives.within;
      further = gives.further;
      passed = gives.passed;
      text = _;
      line = given_line g.T.LineTaker.does.takes g.S.Source.tells _ _ _ _ _ _ _ c.in-Ok.line gives c.in-Ok.ensures.text (rw c.in-Taken.is at c.take_line.ensures.comes);
      written = c.in-Ok-write_text.ensures.ok;
    }

pub returns-in-NoForm-clause-ends : goal.returns-in-NoForm-clause-ends
returns-in-NoForm-clause-ends g c =
    let gives = rw c.in-Ok.is at c.next_line.follows.holds-at-none in
    let refused = rw c.in-NoForm.is at c.take_line.ensures.comes in
    refusal_ends g.T.LineTaker.does g.S.Source.tells g.K.Sink.tells c.args.taker.now c.take_line.new.self c.args.lines.now
    (outside (g.S.Source.state c.args.source.now) (g.K.Sink.state c.args.sink.now))
    (outside (g.S.Source.state c.next_line.new.source) (g.K.Sink.state c.refuse_line.new.sink))
    c.refuse_line.result refused.1
    (bad_form g.T.LineTaker.does g.S.Source.tells c.args.taker.now _ _ _ _ c.in-Ok.line gives refused.0)
    (rw (← c.in-Ok.ensures.number) c.refuse_line.ensures.refused)
    (line_takes g.S.Source.tells _ _ _ _ c.in-Ok.line gives)

pub returns-in-Failed-clause-ends : goal.returns-in-Failed-clause-ends
unfolding given_line
returns-in-Failed-clause-ends g c =
    let gives = rw c.in-Ok.is at c.next_line.follows.holds-at-none in
    failure_ends g.T.LineTaker.does g.S.Source.tells g.K.Sink.tells c.args.taker.now c.take_line.new.self c.args.lines.now
    (outside (g.S.Source.state c.args.source.now) (g.K.Sink.state c.args.sink.now))
    (outside (g.S.Source.state c.next_line.new.source) (g.K.Sink.state c.write_last.new.sink)) _ _
    c.write_last.result
    (given_line g.T.LineTaker.does.fails g.S.Source.tells _ _ _ _ _ _ _ c.in-Ok.line gives c.in-Ok.ensures.text (rw c.in-Failed.is at c.take_line.ensures.comes))
    c.write_last.ensures.written
    (line_takes g.S.Source.tells _ _ _ _ c.in-Ok.line gives)

pub returns-in-Err-clause-ends : goal.returns-in-Err-clause-ends
unfolding given_line
returns-in-Err-clause-ends g c =
    let gives = rw c.in-Ok.is at c.next_line.follows.holds-at-none in
    inl (record {
      after = _;
      text = _;
      line = given_line g.T.LineTaker.does.takes g.S.Source.tells _ _ _ _ _ _ _ c.in-Ok.line gives c.in-Ok.ensures.text (rw c.in-Taken.is at c.take_line.ensures.comes);
      cut = c.in-Err.ensures.err;
      few = line_leaves g.S.Source.tells _ _ _ _ c.in-Ok.line gives;
    })

pub returns-in-Err-TooLong-clause-ends : goal.returns-in-Err-TooLong-clause-ends
returns-in-Err-TooLong-clause-ends g c =
    refusal_ends g.T.LineTaker.does g.S.Source.tells g.K.Sink.tells c.args.taker.now c.args.taker.now c.args.lines.now
    (outside (g.S.Source.state c.args.source.now) (g.K.Sink.state c.args.sink.now))
    (outside (g.S.Source.state c.next_line.new.source) (g.K.Sink.state c.refuse_line-in-Err-TooLong.new.sink))
    c.refuse_line-in-Err-TooLong.result refl
    (λ told. (let stop = rw c.in-Err-TooLong.field-0-is at (c.in-Err-TooLong.ensures.stop told c.requires.stop) in (stop.1.0, inr (stop.1.1, stop.1.2))))
    (let number = rw c.in-Err-TooLong.field-0-is at (c.in-Err-TooLong.ensures.numbered c.requires.stop) in
    rw (← number) c.refuse_line-in-Err-TooLong.ensures.refused)
    (stop_takes g.S.Source.tells _ _ _ _ _ (rw c.in-Err-TooLong.is at c.next_line.follows.holds-at-none))

pub returns-in-Err-ReadFailed-clause-ends : goal.returns-in-Err-ReadFailed-clause-ends
returns-in-Err-ReadFailed-clause-ends g c =
    let gives = rw c.in-Err-ReadFailed.is at c.next_line.follows.holds-at-none in (
      refl,
      λ told. (_, sym (gives.kept told), gives.clear c.requires.stop c.in-Err-ReadFailed.field-0-is, gives.short c.requires.stop c.in-Err-ReadFailed.field-0-is),
      λ told. refl {a = (g.K.Sink.state c.args.sink.now).written},
      stop_takes g.S.Source.tells _ _ _ _ _ gives,
    )
