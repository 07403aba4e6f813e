use Rattle.std.proofs.Common.{◌++◌}
use Rattle.std.specs.List.{flat_map}
use Rattle.std.proofs.lemmas.Result.{MatchResult-from_err}
use Rattle.gp_tool.specs.Show.{counter_line, key_line, object_line}
use Rattle.gp_tool.proofs.Parts.{part_of_both, then_writes}
use Rattle.gp_tool.proofs.show.show_owned.Goals as goal

pub returns-in_err-show_keys-clause-written : goal.returns-in_err-show_keys-clause-written
returns-in_err-show_keys-clause-written g c page said says =
    MatchResult-from_err c.from_residual.result _ _ c.from_residual.ensures.0 (λ _ told.
    part_of_both (g.K.Sink.state c.args.sink.now).written (flat_map key_line said.keys) (flat_map counter_line said.counters ++ flat_map object_line said.objects) (g.K.Sink.state c.show_keys.new.sink).written (c.in_err-show_keys.ensures.written page said says told))

pub returns-clause-written : goal.returns-clause-written
returns-clause-written g c page said says =
    then_writes g.K.Sink.tells (g.K.Sink.state c.args.sink.now).written (flat_map key_line said.keys) (flat_map counter_line said.counters ++ flat_map object_line said.objects) (g.K.Sink.state c.show_keys.new.sink).written (g.K.Sink.state c.show_data.new.sink).written c.show_data.result
    (c.in_ok-show_keys.ensures.written page said says) (c.show_data.ensures.written page said says)
