use Rattle.std.proofs.Common.{◌∙◌}
use Rattle.std.proofs.lemmas.Result.{MatchResult-from_err}
use Rattle.gp_tool.proofs.CardStands.{says_seen}
use Rattle.gp_tool.proofs.ShownText.{all_shown, part_of_files, part_of_front, part_of_owned, written_of}
use Rattle.gp_tool.proofs.show.show.Goals as goal

pub returns-in_err-show_front-clause-part : goal.returns-in_err-show_front-clause-part
returns-in_err-show_front-clause-part g c state stands told tells =
    let written = written_of g.K.Sink.state in
    let says = says_seen g.F.Flash c.args.card.now state stands in
    let front = c.in_err-show_front.ensures.written stands.page state.registry (says c.tables.result.now c.tables.ensures.tables) tells in
    MatchResult-from_err c.from_residual.result _ _ c.from_residual.ensures.0 (λ _.
    part_of_front state.registry (written c.args.sink.now) (written c.show_front.new.sink) front)

pub returns-in_err-show_files-clause-part : goal.returns-in_err-show_files-clause-part
returns-in_err-show_files-clause-part g c state stands told tells =
    let written = written_of g.K.Sink.state in
    let says = says_seen g.F.Flash c.args.card.now state stands in
    let front = c.in_ok-show_front.ensures.written stands.page state.registry (says c.tables.result.now c.tables.ensures.tables) tells in
    MatchResult-from_err c.from_residual-in_err-show_files.result _ _ c.from_residual-in_err-show_files.ensures.0 (λ _.
    part_of_files state.registry (written c.args.sink.now) (written c.show_front.new.sink) (written c.show_files.new.sink)
    front (c.in_err-show_files.ensures.written told state stands tells))

pub returns-in_err-show_owned-clause-part : goal.returns-in_err-show_owned-clause-part
returns-in_err-show_owned-clause-part g c state stands told tells =
    let written = written_of g.K.Sink.state in
    let says = says_seen g.F.Flash c.args.card.now state stands in
    let front = c.in_ok-show_front.ensures.written stands.page state.registry (says c.tables.result.now c.tables.ensures.tables) tells in
    let owned = c.in_err-show_owned.ensures.written stands.page state.registry (says c.tables-2.result.now (c.tables-2.ensures.tables ∙ c.show_files.ensures.same)) tells in
    MatchResult-from_err c.from_residual-in_err-show_owned.result _ _ c.from_residual-in_err-show_owned.ensures.0 (λ _.
    part_of_owned state.registry (written c.args.sink.now) (written c.show_front.new.sink) (written c.show_files.new.sink) (written c.show_owned.new.sink)
    front (c.in_ok-show_files.ensures.written told state stands tells)
    owned)

pub returns-clause-written : goal.returns-clause-written
returns-clause-written g c state stands told tells =
    let written = written_of g.K.Sink.state in
    let says = says_seen g.F.Flash c.args.card.now state stands in
    let front = c.in_ok-show_front.ensures.written stands.page state.registry (says c.tables.result.now c.tables.ensures.tables) tells in
    let owned = c.in_ok-show_owned.ensures.written stands.page state.registry (says c.tables-2.result.now (c.tables-2.ensures.tables ∙ c.show_files.ensures.same)) tells in
    all_shown state.registry (written c.args.sink.now) (written c.show_front.new.sink) (written c.show_files.new.sink) (written c.show_owned.new.sink)
    front (c.in_ok-show_files.ensures.written told state stands tells)
    owned
