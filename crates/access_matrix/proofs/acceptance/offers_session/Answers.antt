use Rattle.std.proofs.Common.{refl}
use Rattle.policy_machine.specs.InitializeUpdate.{InitializeUpdateFails, offer_rules}
use Rattle.card_types.specs.Represents.{domain_aid}
use Rattle.access_matrix.specs.May.{initialize}
use Rattle.access_matrix.specs.There.{judged_there}
use Rattle.access_matrix.proofs.DomainSelected.{acts_there, used_entry}
use Rattle.access_matrix.proofs.JudgedOnce.{passes_told}
use Rattle.access_matrix.proofs.acceptance.offers_session.Goals as goal

pub returns : goal.returns
returns c page said says well =
    let tables = c.args.tables.now in
    let entry = used_entry tables c.args.domain c.requires.domain in
    let admitted = judged_there said (domain_aid tables.entries.items c.args.domain) initialize in
    let acts = acts_there page tables said says c.args.domain entry.0 entry.1 well initialize in
    passes_told (InitializeUpdateFails admitted) offer_rules c.judge_initialize_update.result (c.judge_initialize_update.ensures.passed page admitted acts refl)
    (c.judge_initialize_update.ensures.refused page admitted acts refl) c.is_ok.result c.is_ok.ensures.value
