use Rattle.std.proofs.Common.{[], ◌∷◌, ◌++◌, Err, refl, sym, ap, ◌∙◌}
use Rattle.gp_tool.proofs.Given.{then_line, then_nothing}
use Rattle.script_tool.proofs.AnswerKinds.{says_some}
use Rattle.gp_tool.proofs.PlayedLines.{line_breaks, runs_printing, runs_silently}
use Rattle.gp_tool.specs.Standing.{standing}
use Rattle.gp_tool.specs.StepsCard.{counting}
use Rattle.gp_tool.proofs.play.play_line.Goals as goal

pub returns-in-Ok-write_printed-clause-served : goal.returns-in-Ok-write_printed-clause-served
returns-in-Ok-write_printed-clause-served g c place stands =
    let step = c.step_card.ensures in
    let said = says_some c.step_card.result 1 c.args.line.now step.form step.said (λ is. cc (c.in-Ok.is, is)) in
    let over = c.in-Ok.ensures.played place.memory place.state said.0 stands.1 stands.0 said.1 in
    let run = runs_printing g.F.Flash c.args.line.now _ _ (counting c.args.end.now) (counting c.step_card.new.end) refl refl refl refl place said.0 said.1
    _ _ c.note_difference.ensures over (sym c.has_printed.ensures ∙ c.if-has_printed.true) in
    then_line g.K.Sink.tells _ _ (c.step_card.new.text.items ++ 10 ∷ []) run (λ told. c.in-Ok-write_printed.ensures.ok told)

pub returns-in-Err-clause-served : goal.returns-in-Err-clause-served
returns-in-Err-clause-served g c place stands =
    let step = c.step_card.ensures in
    let said = says_some c.step_card.result 1 c.args.line.now step.form step.said (λ is. cc (c.in-Ok.is, is)) in
    let over = c.in-Ok.ensures.played place.memory place.state said.0 stands.1 stands.0 said.1 in
    let run = runs_printing g.F.Flash c.args.line.now _ _ (counting c.args.end.now) (counting c.step_card.new.end) refl refl refl refl place said.0 said.1
    _ _ c.note_difference.ensures over (sym c.has_printed.ensures ∙ c.if-has_printed.true) in
    (run.0, c.step_card.new.text.items ++ 10 ∷ [], run.1, λ told. c.in-Err.ensures.err told)

pub returns-else-has_printed-clause-served : goal.returns-else-has_printed-clause-served
returns-else-has_printed-clause-served g c place stands =
    let step = c.step_card.ensures in
    let said = says_some c.step_card.result 1 c.args.line.now step.form step.said (λ is. cc (c.in-Ok.is, is)) in
    let over = c.in-Ok.ensures.played place.memory place.state said.0 stands.1 stands.0 said.1 in
    then_nothing g.K.Sink.tells _ _
    (runs_silently g.F.Flash c.args.line.now _ _ (counting c.args.end.now) (counting c.step_card.new.end) refl refl refl refl place said.0 said.1
    _ _ c.note_difference.ensures over (sym c.has_printed.ensures ∙ c.if-has_printed.false)) (λ told. refl)

pub returns-in-Err-Form-clause-served : goal.returns-in-Err-Form-clause-served
returns-in-Err-Form-clause-served g c =
    let refused = c.step_card.ensures.form c.in-Err-Form.field-0-0 in
    let none = refused.0 (c.in-Err-Form.is ∙ ap (λ stop. Err stop) c.in-Err-Form.field-0-is) in
    let same = c.step_card.ensures.refused none.1 in
    (λ memory means script. none.1 script.0 script.1, (λ i. standing (same.1 i) (same.0 i) c.args.differs.now), λ told. refl)

pub returns-in-Err-Form-clause-live : goal.returns-in-Err-Form-clause-live
returns-in-Err-Form-clause-live g c other =
    let refused = c.step_card.ensures.form c.in-Err-Form.field-0-0 in
    let none = refused.0 (c.in-Err-Form.is ∙ ap (λ stop. Err stop) c.in-Err-Form.field-0-is) in
    let same = c.step_card.ensures.refused none.1 in
    ap (λ end. end.card.live) same.1 ∙ c.requires.live

pub returns-in-Err-LinkFailed-clause-served : goal.returns-in-Err-LinkFailed-clause-served
returns-in-Err-LinkFailed-clause-served g c = (
  λ told. refl,
  λ place stands.
      (let step = c.step_card.ensures in
      let said = says_some c.step_card.result 1 c.args.line.now step.form step.said (λ is. cc (c.in-Err-LinkFailed.is, c.in-Err-LinkFailed.field-0-is, is)) in
      line_breaks g.F.Flash c.args.line.now _ _ (counting c.args.end.now) (counting c.step_card.new.end) refl refl refl refl place said.0 said.1
      (rw c.in-Err-LinkFailed.field-0-is at (c.in-Err-LinkFailed.ensures.played place.memory place.state said.0 stands.1 stands.0 said.1))),
)
