use Rattle.std.proofs.Common.{List, ℕ, Option, subst}
use Rattle.content_rules.proofs.InstallLoadJudging.{named_fails, named_passes}
use Rattle.content_rules.specs.InstallLoadRequests.{NamesDomain}
use Rattle.policy_slots.proofs.Options.{none_of_none, some_of_some}
use Rattle.content_rules.proofs.install_load.find_named.Goals as goal

pub returns-in-Some-clause-passed : goal.returns-in-Some-clause-passed
returns-in-Some-clause-passed c page admitted given acts names =
    let aid = c.in-Some.aid in
    let names_it = subst (λ (named : Option (List ℕ)). NamesDomain named given.domain) c.in-Some.is names in
    some_of_some c.find_domain.result (c.find_domain.ensures.domain page admitted.at.registry acts.says acts.well)
    (λ slot there. named_passes page c.args.tables.now c.args.domain admitted given acts aid names_it there)

pub returns-in-Some-clause-none : goal.returns-in-Some-clause-none
returns-in-Some-clause-none c page admitted given acts names =
    let aid = c.in-Some.aid in
    let names_it = subst (λ (named : Option (List ℕ)). NamesDomain named given.domain) c.in-Some.is names in
    none_of_none c.find_domain.result (c.find_domain.ensures.none page admitted.at.registry acts.says acts.well)
    (λ none. named_fails page c.args.tables.now c.args.domain admitted given acts aid names_it none)
