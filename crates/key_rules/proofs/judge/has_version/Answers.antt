use Rattle.std.proofs.Common.{◌≡◌, refl, ◌∙◌, rules, tests}
use Rattle.std.proofs.lemmas.Iterator.{YieldsList-from_slice}
use Rattle.std.proofs.lemmas.Iterator.Search.{any_from_yields_List}
use Rattle.std.specs.List.{list_any}
use Rattle.key_rules.specs.InSlots.{holds_one_of}
use Rattle.key_rules.specs.Staying.{is_of}
use Rattle.key_rules.proofs.Stays.{any_used}
use Rattle.key_rules.proofs.judge.has_version.Goals as goal

pub returns : goal.returns
returns c =
    let slots = c.args.keys.now in
    let any : c.any.result ≡ list_any (holds_one_of c.args.owner c.args.version) slots = any_from_yields_List (holds_one_of c.args.owner c.args.version) _ _ c.any.result c.any.ensures.ran (YieldsList-from_slice slots cc) (λ x b q k. search (rules, tests)) in
    any ∙ any_used (holds_one_of c.args.owner c.args.version) (is_of c.args.owner c.args.version) refl (λ _. refl) slots
