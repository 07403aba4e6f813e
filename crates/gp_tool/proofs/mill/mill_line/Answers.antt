use Rattle.std.proofs.Common.{Err, false, refl, sym, ap, ◌∙◌}
use Rattle.gp_tool.proofs.PlayedLines.{line_breaks, runs_printing, runs_silently, stopped_by_link}
use Rattle.script_tool.specs.Kinds.{is_difference_kind}
use Rattle.gp_tool.specs.Mill.{with_text, with_texts}
use Rattle.gp_tool.specs.Standing.{standing}
use Rattle.gp_tool.specs.StepsCard.{counting}
use Rattle.gp_tool.proofs.mill.mill_line.Goals as goal

pub returns-then-has_printed-clause-played : goal.returns-then-has_printed-clause-played
returns-then-has_printed-clause-played g c place stands host =
    let form = c.requires.form in
    let over = c.in-Ok.ensures.played place.memory place.state form.0 host stands form.1 in
    let run = runs_printing g.F.Flash c.args.line.now (standing c.args.end.now c.args.player.now false) (standing c.step_card.new.end c.step_card.new.player (is_difference_kind c.in-Ok.played))
    (counting c.args.end.now) (counting c.step_card.new.end) refl refl refl refl place form.0 form.1
    _ c.in-Ok.played refl over (sym c.has_printed.ensures ∙ c.if-has_printed.true) in
    record {
      differs = is_difference_kind c.in-Ok.played;
      runs = run.0;
      tally_is = c.count.ensures ∙ ap (λ text. with_text text c.args.tally.now) (c.deref.ensures.0 ∙ c.fill_line.ensures) ∙ ap (λ texts. with_texts texts c.args.tally.now) (sym run.1);
    }

pub returns-else-has_printed-clause-played : goal.returns-else-has_printed-clause-played
returns-else-has_printed-clause-played g c place stands host =
    let form = c.requires.form in
    let over = c.in-Ok.ensures.played place.memory place.state form.0 host stands form.1 in
    let run = runs_silently g.F.Flash c.args.line.now (standing c.args.end.now c.args.player.now false) (standing c.step_card.new.end c.step_card.new.player (is_difference_kind c.in-Ok.played))
    (counting c.args.end.now) (counting c.step_card.new.end) refl refl refl refl place form.0 form.1
    _ c.in-Ok.played refl over (sym c.has_printed.ensures ∙ c.if-has_printed.false) in
    record {
      differs = is_difference_kind c.in-Ok.played;
      runs = run.0;
      tally_is = ap (λ texts. with_texts texts c.args.tally.now) (sym run.1);
    }

pub returns-in-Err-clause-broken : goal.returns-in-Err-clause-broken
returns-in-Err-clause-broken g c place stands host =
    let form = c.requires.form in
    let link = stopped_by_link c.step_card.result 1 c.args.line.now c.in-Err.field-0 form.0 c.step_card.ensures.form form.1 c.in-Err.is in
    line_breaks g.F.Flash c.args.line.now (standing c.args.end.now c.args.player.now false) (standing c.step_card.new.end c.step_card.new.player false)
    (counting c.args.end.now) (counting c.step_card.new.end) refl refl refl refl place form.0 form.1
    (rw link at (c.in-Err.ensures.played place.memory place.state form.0 host stands form.1))

pub returns-in-Err-clause-cause : goal.returns-in-Err-clause-cause
returns-in-Err-clause-cause g c =
    let form = c.requires.form in
    let link = stopped_by_link c.step_card.result 1 c.args.line.now c.in-Err.field-0 form.0 c.step_card.ensures.form form.1 c.in-Err.is in
    c.step_card.ensures.cause (c.in-Err.is ∙ ap (λ stop. Err stop) link)
