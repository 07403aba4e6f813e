use Rattle.std.proofs.Common.{rules, ◌≡◌, sym, ◌∙◌}
use Rattle.policy_machine.proofs.Instructed.{among, found_among}
use Rattle.policy_machine.specs.Classes.{managing}
use Rattle.policy_machine.specs.declared.class.Class.TheVariants.{Plain}
use Rattle.policy_machine.proofs.class.is_plain_management.Goals as goal

pub returns-then-eq : goal.returns-then-eq
returns-then-eq c =
    let plain : c.args.class ≡ Plain = search rules in (
      (λ some. (plain, among managing c.args.ins (sym c.contains.ensures.value ∙ some))),
      (λ there. c.contains.ensures.value ∙ found_among managing c.args.ins there.1),
    )
