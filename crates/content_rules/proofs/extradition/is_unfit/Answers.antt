use Rattle.content_rules.proofs.ExtraditionJudging.{fitness_told}
use Rattle.content_rules.proofs.extradition.is_unfit.Goals as goal

pub returns-in-Some : goal.returns-in-Some
returns-in-Some c page admitted given says named =
    let entry = c.in-Some.entry.now in
    fitness_told page c.args.tables.now admitted says given c.args.to named entry (rw c.deref.ensures.value at c.in-Some.ensures) c.is_in_service.result c.is_in_service.ensures
