use Rattle.std.proofs.Common.{◌≡◌, ◌==◌, ◌&&◌, List, length, refl, ap, sym, ◌∙◌, rules, tests}
use Rattle.std.proofs.lemmas.Iterator.{YieldsList-from_slice}
use Rattle.std.proofs.lemmas.Iterator.Consumers.{YieldsList-from_filter, count_from_yields_List}
use Rattle.std.specs.Prelude.{filter, not}
use Rattle.card_types.specs.Represents.{things_in}
use Rattle.card_types.specs.declared.tables.KeyRec.{KeyRec}
use Rattle.key_rules.specs.InSlots.{holds_staying_of}
use Rattle.key_rules.specs.Staying.{is_of}
use Rattle.key_rules.proofs.Stays.{count_used, filter_both}
use Rattle.key_rules.proofs.judge.count_staying_of.Goals as goal

pub returns-clause-number : goal.returns-clause-number
returns-clause-number c =
    let slots = c.args.keys.now in
    let owner = c.args.owner in
    let version = c.args.version in
    let counted : c.count.result ≡ length (filter (holds_staying_of owner version) slots) = count_from_yields_List c.filter.result _ c.count.ensures.ran (YieldsList-from_filter _ (holds_staying_of owner version) (YieldsList-from_slice slots cc) c.filter.ensures.closure (λ x r q k. search (rules, tests))) in
    counted ∙ count_used (holds_staying_of owner version) (λ key. not (is_of owner version key) && key.owner == owner) refl (λ _. refl) slots
    ∙ ap (λ (keys : List KeyRec). length keys) (sym (filter_both (λ key. not (is_of owner version key)) (λ key. key.owner == owner) (things_in slots)))
