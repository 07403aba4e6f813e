use Rattle.std.proofs.Common.{◌≡◌, length, refl, ◌∙◌, rules, tests}
use Rattle.std.proofs.lemmas.Iterator.{YieldsList-from_slice}
use Rattle.std.proofs.lemmas.Iterator.Consumers.{YieldsList-from_filter, count_from_yields_List}
use Rattle.std.specs.Prelude.{filter, not}
use Rattle.key_rules.specs.InSlots.{holds_staying}
use Rattle.key_rules.specs.Staying.{is_of}
use Rattle.key_rules.proofs.Stays.{count_used}
use Rattle.key_rules.proofs.judge.count_staying.Goals as goal

pub returns-clause-number : goal.returns-clause-number
returns-clause-number c =
    let slots = c.args.keys.now in
    let owner = c.args.owner in
    let version = c.args.version in
    let counted : c.count.result ≡ length (filter (holds_staying owner version) slots) = count_from_yields_List c.filter.result _ c.count.ensures.ran (YieldsList-from_filter _ (holds_staying owner version) (YieldsList-from_slice slots cc) c.filter.ensures.closure (λ x r q k. search (rules, tests))) in
    counted ∙ count_used (holds_staying owner version) (λ key. not (is_of owner version key)) refl (λ _. refl) slots
