use Rattle.std.proofs.Common.{refl, sym, ◌∙◌, inl, inr}
use Rattle.line_runs.specs.Outside.{outside}
use Rattle.gp_tool.specs.Standing.{held_in}
use Rattle.gp_tool.proofs.Turns.{given_line, bad_form, failing_line, refusal_ends, refuses_from}
use Rattle.line_runs.proofs.Passed.{line_leaves, line_takes, stop_takes}
use Rattle.gp_tool.proofs.run.take_turn.Goals as goal

pub returns-in-Done-clause-goes_on : goal.returns-in-Done-clause-goes_on
unfolding given_line
returns-in-Done-clause-goes_on g c =
    let gives = rw c.in-Ok.is at c.next_line.follows.holds-at-none in
    record {
      stop = gives.stop;
      number = gives.number ∙ c.in-Ok.ensures.number;
      within = gives.within;
      further = gives.further;
      passed = gives.passed;
      line = λ place stands.
          (let served = (rw c.in-Ok.ensures.number at c.in-Done.ensures.served) place stands in
          (given_line c.args.verb g.F.Flash g.S.Source.tells _ _ _ place _ _ _ _ c.in-Ok.line gives c.in-Ok.ensures.text served.0, gives.spent, served.1));
    }

pub returns-in-NoForm-clause-ends : goal.returns-in-NoForm-clause-ends
returns-in-NoForm-clause-ends g c =
    let gives = rw c.in-Ok.is at c.next_line.follows.holds-at-none in
    let served = c.in-NoForm.ensures.served in
    refusal_ends c.args.verb g.F.Flash g.S.Source.tells g.K.Sink.tells _ _ c.args.lines.now
    (outside (g.S.Source.state c.args.source.now) (g.K.Sink.state c.args.sink.now))
    (outside (g.S.Source.state c.next_line.new.source) (g.K.Sink.state c.refuse_line.new.sink))
    c.refuse_line.result
    served.1
    (bad_form c.args.verb (held_in c.args.verb c.args.space.now) g.S.Source.tells _ _ _ _ c.in-Ok.line gives served.0)
    (refuses_from g.K.Sink.tells _ _ _ _ c.refuse_line.result served.2 (rw (← c.in-Ok.ensures.number) c.refuse_line.ensures.refused))
    (line_takes g.S.Source.tells _ _ _ _ c.in-Ok.line gives)

pub returns-in-WriteFault-clause-ends : goal.returns-in-WriteFault-clause-ends
unfolding given_line
returns-in-WriteFault-clause-ends g c =
    let gives = rw c.in-Ok.is at c.next_line.follows.holds-at-none in
    inl (λ place stands.
    (let served = (rw c.in-Ok.ensures.number at c.in-WriteFault.ensures.served) place stands in
    (_, given_line c.args.verb g.F.Flash g.S.Source.tells _ _ _ place _ _ _ _ c.in-Ok.line gives c.in-Ok.ensures.text served.0, served.1, served.2, served.3, line_leaves g.S.Source.tells _ _ _ _ c.in-Ok.line gives)))

pub returns-in-FlashFailed-clause-ends : goal.returns-in-FlashFailed-clause-ends
returns-in-FlashFailed-clause-ends g c =
    let gives = rw c.in-Ok.is at c.next_line.follows.holds-at-none in
    let served = c.in-FlashFailed.ensures.served in (
      served.0,
      line_takes g.S.Source.tells _ _ _ _ c.in-Ok.line gives,
      λ place stands. failing_line c.args.verb g.F.Flash g.S.Source.tells _ _ place _ _ _ _ c.in-Ok.line gives c.in-Ok.ensures.text (served.1 place stands),
    )

pub returns-in-Err-TooLong-clause-ends : goal.returns-in-Err-TooLong-clause-ends
returns-in-Err-TooLong-clause-ends g c =
    refusal_ends c.args.verb g.F.Flash g.S.Source.tells g.K.Sink.tells _ _ c.args.lines.now
    (outside (g.S.Source.state c.args.source.now) (g.K.Sink.state c.args.sink.now))
    (outside (g.S.Source.state c.next_line.new.source) (g.K.Sink.state c.refuse_line-in-Err-TooLong.new.sink))
    c.refuse_line-in-Err-TooLong.result
    refl
    (λ memory means told. (let stop = rw c.in-Err-TooLong.field-0-is at (c.in-Err-TooLong.ensures.stop told c.requires.stop) in (stop.1.0, inr (stop.1.1, stop.1.2))))
    (let number = rw c.in-Err-TooLong.field-0-is at (c.in-Err-TooLong.ensures.numbered c.requires.stop) in
    rw (← number) (rw c.in-Err-TooLong.field-0-is at c.refuse_line-in-Err-TooLong.ensures.refused))
    (stop_takes g.S.Source.tells _ _ _ _ _ (rw c.in-Err-TooLong.is at c.next_line.follows.holds-at-none))

pub returns-in-Err-ReadFailed-clause-ends : goal.returns-in-Err-ReadFailed-clause-ends
returns-in-Err-ReadFailed-clause-ends g c =
    let gives = rw c.in-Err-ReadFailed.is at c.next_line.follows.holds-at-none in (
      refl,
      λ told. (_, sym (gives.kept told), gives.clear c.requires.stop c.in-Err-ReadFailed.field-0-is, gives.short c.requires.stop c.in-Err-ReadFailed.field-0-is),
      λ told. refl,
      stop_takes g.S.Source.tells _ _ _ _ _ gives,
    )
