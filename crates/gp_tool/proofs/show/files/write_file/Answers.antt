use Rattle.std.proofs.Common.{◌++◌, take, sym, ap, subst, ◌∙◌}
use Rattle.std.proofs.lemmas.List.{append-nil}
use Rattle.std.proofs.lemmas.Result.{MatchResult-from_err}
use Rattle.card_check.specs.IsCard.{HasPages}
use Rattle.rec_store.specs.Reopens.{load_page}
use Rattle.gp_tool.proofs.FileLine.{line_of_file}
use Rattle.gp_tool.proofs.show.files.write_file.Goals as goal

pub returns-in_err-digest-clause-written : goal.returns-in_err-digest-clause-written
returns-in_err-digest-clause-written g c told state stands =
    MatchResult-from_err c.from_residual.result _ _ c.from_residual.ensures.0 (λ _ tells. (0, sym (append-nil (g.K.Sink.state c.args.sink.now).written)))

pub returns-in_err-write_all-clause-written : goal.returns-in_err-write_all-clause-written
returns-in_err-write_all-clause-written g c told state stands =
    let card = c.args.card.now in
    let whole = subst HasPages (sym (stands.load told)) stands.whole in
    let line = line_of_file (load_page (g.F.Flash.pages card.flash)) whole card.tables c.tables.result.now (c.tables.ensures.tables ∙ c.file_digest.ensures.same.0) c.tables.ensures.cards
    c.args.slot c.args.file.now c.requires.used c.if-prove.false c.in_ok-digest.digest c.push_names.new.line.items c.push_content.new.line.items (c.in_ok-digest.ensures.digest told)
    c.push_names.ensures.written c.push_content.ensures.written in
    MatchResult-from_err c.from_residual-in_err-write_all.result _ _ c.from_residual-in_err-write_all.ensures.0 (λ _ tells.
    (let part = c.in_err-write_all.ensures.err tells in
    (part.0, part.1 ∙ ap (λ t. (g.K.Sink.state c.args.sink.now).written ++ take part.0 t) (c.deref.ensures.0 ∙ line))))

pub returns-clause-written : goal.returns-clause-written
returns-clause-written g c told state stands tells =
    let card = c.args.card.now in
    let whole = subst HasPages (sym (stands.load told)) stands.whole in
    let line = line_of_file (load_page (g.F.Flash.pages card.flash)) whole card.tables c.tables.result.now (c.tables.ensures.tables ∙ c.file_digest.ensures.same.0) c.tables.ensures.cards
    c.args.slot c.args.file.now c.requires.used c.if-prove.false c.in_ok-digest.digest c.push_names.new.line.items c.push_content.new.line.items (c.in_ok-digest.ensures.digest told)
    c.push_names.ensures.written c.push_content.ensures.written in
    c.in_ok-write_all.ensures.ok tells ∙ ap (λ t. (g.K.Sink.state c.args.sink.now).written ++ t) (c.deref.ensures.0 ∙ line)
