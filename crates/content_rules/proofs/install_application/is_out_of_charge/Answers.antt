use Rattle.std.proofs.Common.{sym, ◌∙◌}
use Rattle.content_rules.proofs.InstallApplicationJudging.{charge_told}
use Rattle.content_rules.proofs.install_application.is_out_of_charge.Goals as goal

pub returns-then-not-is_factory_file : goal.returns-then-not-is_factory_file
returns-then-not-is_factory_file c page admitted acts =
    charge_told page c.args.tables.now c.args.domain admitted acts c.args.slot c.args.aid.now c.is_in_charge.result c.requires.there
    (sym c.is_factory_file.ensures ∙ c.if-not-is_factory_file.true) (λ file at. c.is_in_charge.ensures page admitted file acts at)
