use Rattle.std.proofs.Common.{Err, sym, ap, ◌∙◌}
use Rattle.faults.specs.Faults.{next_count}
use Rattle.script_tool.proofs.AnswerKinds.{says_some}
use Rattle.host_tool.proofs.Played.{command_fails, fails_now, line_taken, reset_fails, taken_now}
use Rattle.host_tool.specs.Takes.{Hosting}
use Rattle.host_tool.proofs.script_host.ScriptHostLineTaker.take_line.Goals as goal

pub returns-in-None-clause-comes : goal.returns-in-None-clause-comes
returns-in-None-clause-comes g c =
    let at : Hosting g.row.S.Denot g.row.K.Denot = record { kept = c.self.inside.player; link = c.self.inside.link; differs = c.self.inside.differs; faults = c.self.inside.faults } in
    let next : Hosting g.row.S.Denot g.row.K.Denot
    = record { kept = c.step.new.self; link = c.step.new.link; differs = c.differs_by-self-inside.result; faults = c.self.inside.faults } in
    let says = says_some c.step.result 1 c.args.line.now c.step.ensures.form c.step.ensures.said (λ is. cc (c.in-Ok.is, is)) in
    taken_now g.S.Source g.K.Sink at c.args.self.now next c.args.line.now c.write_printed.new.text.items c.self.view_is
    (λ host stands.
    line_taken g.S.Source g.K.Sink _ host says.0 c.args.line.now says.1 at next stands (λ events conveys. conveys.told) _ c.in-Ok.played
    (c.in-Ok.ensures.played host says.0 stands.kept says.1) c.write_printed.new.text.items c.write_printed.ensures.some c.write_printed.ensures.none
    c.differs_by-self-inside.ensures c.in-Ok.ensures.up (sym c.why.ensures ∙ c.in-None.is))

pub returns-in-Some-clause-comes : goal.returns-in-Some-clause-comes
returns-in-Some-clause-comes g c =
    let at : Hosting g.row.S.Denot g.row.K.Denot = record { kept = c.self.inside.player; link = c.self.inside.link; differs = c.self.inside.differs; faults = c.self.inside.faults } in
    let left : Hosting g.row.S.Denot g.row.K.Denot
    = record { kept = c.step.new.self; link = c.step.new.link; differs = c.self.inside.differs; faults = next_count c.self.inside.faults } in
    let says = says_some c.step.result 1 c.args.line.now c.step.ensures.form c.step.ensures.said (λ is. cc (c.in-Ok.is, is)) in
    fails_now g.S.Source g.K.Sink at c.args.self.now left c.fail-in-Some.new.self c.args.line.now c.fail-in-Some.new.text.items c.fail-in-Some.result
    c.self.view_is c.fail-in-Some.ensures.counted c.fail-in-Some.ensures.failed
    (λ host stands.
    reset_fails g.S.Source g.K.Sink _ host says.0 c.args.line.now says.1 at left stands (λ events conveys. conveys.told) _ c.in-Ok.played
    (c.in-Ok.ensures.played host says.0 stands.kept says.1) c.fail-in-Some.new.text.items _ (sym c.why.ensures ∙ c.in-Some.is) c.fail-in-Some.ensures.text)

pub returns-in-Err-LinkFailed-clause-comes : goal.returns-in-Err-LinkFailed-clause-comes
returns-in-Err-LinkFailed-clause-comes g c =
    let at : Hosting g.row.S.Denot g.row.K.Denot = record { kept = c.self.inside.player; link = c.self.inside.link; differs = c.self.inside.differs; faults = c.self.inside.faults } in
    let left : Hosting g.row.S.Denot g.row.K.Denot
    = record { kept = c.step.new.self; link = c.step.new.link; differs = c.self.inside.differs; faults = next_count c.self.inside.faults } in
    let says = says_some c.step.result 1 c.args.line.now c.step.ensures.form c.step.ensures.said (λ is. cc (c.in-Err-LinkFailed.is, c.in-Err-LinkFailed.field-0-is, is)) in
    fails_now g.S.Source g.K.Sink at c.args.self.now left c.fail-in-Err-LinkFailed.new.self c.args.line.now c.fail-in-Err-LinkFailed.new.text.items
    c.fail-in-Err-LinkFailed.result c.self.view_is c.fail-in-Err-LinkFailed.ensures.counted c.fail-in-Err-LinkFailed.ensures.failed
    (λ host stands.
    command_fails g.S.Source g.K.Sink _ host says.0 c.args.line.now says.1 at left stands (λ events conveys. conveys.told)
    (rw c.in-Err-LinkFailed.field-0-is at (c.in-Err-LinkFailed.ensures.played host says.0 stands.kept says.1)) (λ events command breaks. breaks.told)
    c.fail-in-Err-LinkFailed.new.text.items c.fail-in-Err-LinkFailed.ensures.text)

pub returns-in-Err-Form-clause-comes : goal.returns-in-Err-Form-clause-comes
returns-in-Err-Form-clause-comes g c =
    let refused = c.step.ensures.form c.in-Err-Form.field-0-0 in
    let none = refused.0 (c.in-Err-Form.is ∙ ap (λ stop. Err stop) c.in-Err-Form.field-0-is) in
    let same = c.step.ensures.refused none.1 in (
      λ form. none.1 form.0 form.1,
      (λ i. record { kept = same.0 i; link = same.1 i; differs = c.self.inside.differs; faults = c.self.inside.faults }) ∙ c.self.view_is,
    )
