use Rattle.std.proofs.Common.{sym, ◌∙◌}
use Rattle.policy_machine.proofs.InstallApplicationAsking.{has_application, parameters_from}
use Rattle.content_rules.proofs.install_application.are_parameters.Goals as goal

pub returns-then-are_elements : goal.returns-then-are_elements
returns-then-are_elements c =
    let some = c.are_elements.ensures.0 c.if-are_elements.true in
    let same = c.has_tag.ensures some.0 some.1 in (
      λ is. parameters_from c.args.bytes.now some.0 some.1 (sym same ∙ is),
      λ parameters. same ∙ has_application c.args.bytes.now some.0 some.1 parameters,
    )
