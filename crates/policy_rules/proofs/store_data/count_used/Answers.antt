use Rattle.std.proofs.Common.{◌≡◌, suc, List, [], ◌∷◌, length, Option, None, Some, refl, ap, ◌∙◌, rules, tests}
use Rattle.std.proofs.lemmas.Iterator.{YieldsList-from_slice}
use Rattle.std.proofs.lemmas.Iterator.Consumers.{YieldsList-from_filter, count_from_yields_List}
use Rattle.std.specs.Prelude.{filter}
use Rattle.std.specs.Option.{is_some}
use Rattle.card_types.specs.Represents.{things_in}
use Rattle.policy_rules.proofs.store_data.count_used.Goals as goal

-- the used slots are those with something
count_some : {T : Type 0} (slots : List (Option T)) → length (filter is_some slots) ≡ length (things_in slots)
count_some [] = refl
count_some (None ∷ slots) = count_some slots
count_some (Some thing ∷ slots) = ap suc (count_some slots)

pub returns-clause-number : goal.returns-clause-number
returns-clause-number c =
    let slots = c.args.objects.now in
    let counted : c.count.result ≡ length (filter is_some slots) = count_from_yields_List c.filter.result _ c.count.ensures.ran (YieldsList-from_filter _ is_some (YieldsList-from_slice slots cc) c.filter.ensures.closure (λ x r q k. search (rules, tests))) in
    counted ∙ count_some slots
