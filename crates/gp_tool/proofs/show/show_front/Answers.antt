use Rattle.std.proofs.Common.{◌++◌, take, ap, ◌∙◌}
use Rattle.std.specs.List.{flat_map}
use Rattle.std.proofs.lemmas.Result.{MatchResult-from_err}
use Rattle.gp_tool.specs.Show.{card_line, entry_line}
use Rattle.gp_tool.proofs.Parts.{part_of_both, then_writes}
use Rattle.gp_tool.proofs.show.show_front.Goals as goal

pub returns-in_err-show_life-clause-written : goal.returns-in_err-show_life-clause-written
returns-in_err-show_life-clause-written g c page said says =
    MatchResult-from_err c.from_residual.result _ _ c.from_residual.ensures.0 (λ _ told.
    (let part = c.in_err-show_life.ensures.written told in
    part_of_both (g.K.Sink.state c.args.sink.now).written (card_line said.life) (flat_map entry_line said.entries) (g.K.Sink.state c.show_life.new.sink).written
    (part.0, part.1 ∙ ap (λ life. (g.K.Sink.state c.args.sink.now).written ++ take part.0 (card_line life)) says.life)))

pub returns-clause-written : goal.returns-clause-written
returns-clause-written g c page said says =
    then_writes g.K.Sink.tells (g.K.Sink.state c.args.sink.now).written (card_line said.life) (flat_map entry_line said.entries) (g.K.Sink.state c.show_life.new.sink).written (g.K.Sink.state c.show_entries.new.sink).written c.show_entries.result
    (λ told. c.in_ok-show_life.ensures.written told ∙ ap (λ life. (g.K.Sink.state c.args.sink.now).written ++ card_line life) says.life) (c.show_entries.ensures.written page said says)
